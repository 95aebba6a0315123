use Rattle.std.proofs.Common.{◌≡◌, ◌≤◌, ◌++◌, length, take, drop}
use Rattle.text_lines.specs.Written.{hex}
use Rattle.text_lines.proofs.written.push_hex.Given as goal

abbrev pub invariant-loop-at : goal.invariant-loop-at
invariant-loop-at l = record {
  within : l.at ≤ l.digits;
  few : l.digits ≤ 128;
  room : length l.text ≡ 128;
  written : hex l.at l.left ++ drop l.at (take l.digits l.text) ≡ hex l.digits l.value;
}

abbrev pub decreases-loop-at : goal.decreases-loop-at
decreases-loop-at l = l.at
