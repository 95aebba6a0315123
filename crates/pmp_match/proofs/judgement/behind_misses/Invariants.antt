use Rattle.std.proofs.Common.{◌≡◌, length}
use Rattle.pmp_match.specs.Matching.{lets_through}
use Rattle.pmp_match.proofs.judgement.behind_misses.Given as goal

-- what is left says the same of the access as all of them
abbrev pub invariant-loop-rest : goal.invariant-loop-rest
invariant-loop-rest l = lets_through l.rest l.access ≡ lets_through l.extents l.access

abbrev pub decreases-loop-rest : goal.decreases-loop-rest
decreases-loop-rest l = length l.rest
