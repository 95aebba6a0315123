-- No entry below has a byte of the access.
use Rattle.std.proofs.Common.{ℕ, ◌<◌}
use Rattle.register_audit.specs.Decision.{Misses}
use Rattle.register_audit.proofs.decision.first_met.Given as goal

abbrev pub invariant-loop-number : goal.invariant-loop-number
invariant-loop-number l = (place : ℕ) → place < l.number → Misses l.registers l.access place
