use Rattle.std.proofs.Common.{sym, ap, ◌∙◌, ◌≡◌, ◌+◌, arith, slice_index}
use Rattle.hart_sim.proofs.Bytes.{bytes_of_list}
use Rattle.hart_sim.proofs.page_bytes.copy_page.Goals as goal

pub returns : goal.returns
returns c =
    c.copy_from_slice.ensures.after ∙ sym (bytes_of_list (slice_index c.args.page.now) 0 4096 c.args.page.now c.told-page
    (λ k low. let z : 0 + k ≡ k = omega arith in ap (slice_index c.args.page.now) z))
