use Rattle.std.proofs.Common.{◌≡◌, length}
use Rattle.register_audit.specs.Names.{mentions}
use Rattle.register_audit.proofs.names.mentions.Given as goal

abbrev pub invariant-loop-rest : goal.invariant-loop-rest
invariant-loop-rest l = mentions l.rest l.name ≡ mentions l.text l.name

abbrev pub decreases-loop-rest : goal.decreases-loop-rest
decreases-loop-rest l = length l.rest
