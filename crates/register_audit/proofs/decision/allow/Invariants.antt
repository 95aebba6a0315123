-- The entries from here on say what all of them say.
use Rattle.std.proofs.Common.{◌↔◌}
use Rattle.register_audit.specs.Decision.{RegistersAllow}
use Rattle.register_audit.proofs.Places.{AllowFrom}
use Rattle.register_audit.proofs.decision.allow.Given as goal

abbrev pub invariant-loop-place : goal.invariant-loop-place
invariant-loop-place l = RegistersAllow l.registers l.access ↔ AllowFrom l.registers l.access l.place
