use Rattle.std.proofs.Common.{◌≡◌, ◌-◌, length, drop}
use Rattle.board_texts.proofs.read_back.are_same_runs.Given as goal

abbrev pub invariant-loop-i : goal.invariant-loop-i
invariant-loop-i l = record {
  long : length l.runs ≡ length l.others;
  same : drop l.i l.runs ≡ drop l.i l.others → l.runs ≡ l.others;
}

abbrev pub decreases-loop-i : goal.decreases-loop-i
decreases-loop-i l = length l.runs - l.i
