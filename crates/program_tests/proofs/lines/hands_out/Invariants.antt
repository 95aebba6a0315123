use Rattle.std.proofs.Common.{◌≡◌}
use Rattle.program_tests.proofs.lines.hands_out.Given as goal

abbrev pub invariant-loop-line : goal.invariant-loop-line
invariant-loop-line l = l.source.failures ≡ 0
