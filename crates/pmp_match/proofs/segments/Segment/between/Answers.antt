-- The extents are those of the bank's list.
use Rattle.std.proofs.Common.{sym, ap, ◌∙◌, arith}
use Rattle.pmp_match.specs.Matching.{lets_through}
use Rattle.pmp_match.proofs.Scanned.{entries_say}
use Rattle.pmp_match.proofs.segments.Segment.between.Goals as goal

pub returns : goal.returns
returns c = record {
  inside = omega (arith, c.if-end-gt-SPACE_SIZE.false);
  decides =
      λ entries list a within.
      sym (entries_say entries a) ∙ sym (ap (λ extents. lets_through extents a) (c.extents.ensures entries list)) ∙ c.in_ok-perm.ensures a within;
}
