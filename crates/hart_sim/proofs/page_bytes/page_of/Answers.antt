use Rattle.std.proofs.Common.{◌≡◌, ◌∙◌, ◌-◌, if◌then◌else◌, ap, slice_index}
use Rattle.pmp_encoding.specs.Registers.{byte_of}
use Rattle.hart_sim.specs.Memory.{in_range}
use Rattle.hart_sim.proofs.Bytes.{zero_page}
use Rattle.hart_sim.proofs.page_bytes.page_of.Goals as goal

pub returns : goal.returns
returns c = λ k.
    let zero : slice_index c.deref_mut.result.now k ≡ 0 = ap (λ xs. slice_index xs k) (c.deref_mut.ensures.value ∙ c.in_ok-page.ensures.ok)
    ∙ zero_page 4096 k in
    c.put.ensures k ∙ ap (λ n. if in_range c.args.at c.args.size k then byte_of c.args.value (k - c.args.at) else n) zero
