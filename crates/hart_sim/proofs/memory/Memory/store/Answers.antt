use Rattle.std.proofs.Common.{Some, ap, sym, is_some}
use Rattle.std.specs.Box.{with_value}
use Rattle.hart_sim.proofs.Stored.{both, stores_in}
use Rattle.hart_sim.proofs.memory.Memory.store.Goals as goal

pub returns-in-Some-clause-bytes : goal.returns-in-Some-clause-bytes
returns-in-Some-clause-bytes c =
    let span = c.in-Some.span.now in
    let now = with_value span c.store.new.self in
    let there = c.in-Some.ensures.value in
    let put = (c.get_mut.follows.holds now).3 (ap (λ o. is_some o) (sym there)) in
    let was = c.deref_mut.ensures.value in
    both c.store.result
    (λ bytes others. stores_in c.args.self.now record { spans = c.get_mut.follows.lender now }
    (Some span) now c.args.address c.args.size c.args.value c.requires.inside there put.0 (rw was at bytes) (rw was at others))
    c.store.ensures.bytes c.store.ensures.others
