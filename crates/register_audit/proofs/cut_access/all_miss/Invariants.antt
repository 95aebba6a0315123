-- The extents so far have none of the bytes.
use Rattle.std.proofs.Common.{All, take}
use Rattle.pmp_match.specs.RegisterDecision.{Meets}
use Rattle.register_audit.specs.Findings.{load_of_eight}
use Rattle.register_audit.proofs.cut_access.all_miss.Given as goal

abbrev pub invariant-loop-extent : goal.invariant-loop-extent
invariant-loop-extent l = All (λ x. ¬ Meets x (load_of_eight l.at)) (take l.extent-index l.extents)
