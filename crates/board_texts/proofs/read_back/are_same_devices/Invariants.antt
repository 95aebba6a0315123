use Rattle.std.proofs.Common.{◌≡◌, ◌-◌, length, drop}
use Rattle.board_texts.proofs.read_back.are_same_devices.Given as goal

abbrev pub invariant-loop-i : goal.invariant-loop-i
invariant-loop-i l = record {
  long : length l.devices ≡ length l.others;
  same : drop l.i l.devices ≡ drop l.i l.others → l.devices ≡ l.others;
}

abbrev pub decreases-loop-i : goal.decreases-loop-i
decreases-loop-i l = length l.devices - l.i
