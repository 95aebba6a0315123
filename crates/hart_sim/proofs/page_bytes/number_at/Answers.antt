use Rattle.std.proofs.Common.{◌∙◌, ◌*◌, ◌^◌, ◌%◌, ap, slice_index}
use Rattle.hart_sim.proofs.Lowest.{lowest_are}
use Rattle.hart_sim.proofs.page_bytes.number_at.Goals as goal

pub returns-then-at-le4096 : goal.returns-then-at-le4096
returns-then-at-le4096 c =
    c.lowest.ensures ∙ ap (λ n. n % 2 ^ (8 * c.args.size)) c.number_of.ensures
    ∙ lowest_are (slice_index c.args.page.now) c.args.at 8 c.args.size c.requires.size c.fits-page
