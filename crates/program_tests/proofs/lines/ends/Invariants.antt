use Rattle.std.proofs.Common.{◌≡◌}
use Rattle.program_tests.proofs.lines.ends.Given as goal

abbrev pub invariant-loop : goal.invariant-loop
invariant-loop l = l.source.failures ≡ 0
