-- The extents are those of the bank's list.
use Rattle.std.proofs.Common.{ap, ◌∙◌}
use Rattle.pmp_match.specs.Matching.{lets_through}
use Rattle.pmp_match.proofs.Scanned.{entries_say}
use Rattle.pmp_match.proofs.judgement.is_allowed.Goals as goal

pub returns : goal.returns
returns c = λ entries list.
    c.lets_through.ensures ∙ ap (λ extents. lets_through extents c.args.access.now) (c.extents.ensures entries list) ∙ entries_say entries c.args.access.now
