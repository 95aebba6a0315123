use Rattle.std.proofs.Common.{◌≡◌, drop}
use Rattle.pmp_match.specs.Matching.{lets_through}
use Rattle.pmp_match.proofs.judgement.lets_through.Given as goal

-- the extents from here on say the same of the access as all of them
abbrev pub invariant-loop-extent : goal.invariant-loop-extent
invariant-loop-extent l = lets_through (drop l.extent-index l.left) l.access ≡ lets_through l.extents l.access
