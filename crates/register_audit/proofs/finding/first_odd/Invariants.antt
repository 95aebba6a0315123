use Rattle.std.proofs.Common.{All, take}
use Rattle.register_audit.specs.Findings.{agrees}
use Rattle.register_audit.proofs.finding.first_odd.Given as goal

abbrev pub invariant-loop-stretch : goal.invariant-loop-stretch
invariant-loop-stretch l = All agrees (take l.stretch-index l.all)
