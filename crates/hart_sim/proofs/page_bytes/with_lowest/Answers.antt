use Rattle.std.proofs.Common.{◌+◌, ◌-◌, ◌∙◌, ap₂, arith}
use Rattle.pmp_encoding.specs.Registers.{byte_of}
use Rattle.hart_sim.proofs.Lowest.{replaced_fits, replaced_bytes}
use Rattle.hart_sim.proofs.page_bytes.with_lowest.Goals as goal

pub overflow_add-result : goal.overflow_add-result
overflow_add-result c =
    let fits = replaced_fits c.args.number c.args.size c.args.value c.requires (omega (arith, c.ranges.number)) in
    omega (arith, fits)

pub returns : goal.returns
returns c = λ k.
    ap₂ (λ low others. byte_of (c.args.number - low + others) k) c.lowest.ensures c.lowest-2.ensures ∙ replaced_bytes c.args.number c.args.size c.args.value k
