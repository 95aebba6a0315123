use Rattle.std.proofs.Common.{◌≡◌, drop}
use Rattle.pmp_match.specs.declared.access.Access.{Access}
use Rattle.pmp_match.specs.Matching.{lets_through}
use Rattle.pmp_match.specs.Segments.{IsWithin}
use Rattle.pmp_match.proofs.segments.deciding_perm.Given as goal

-- the extents from here on say the same of each access within the range as all of them
abbrev pub invariant-loop-extent : goal.invariant-loop-extent
invariant-loop-extent l = (a : Access) → IsWithin l.base l.end a → lets_through (drop l.extent-index l.extents) a ≡ lets_through l.extents a
