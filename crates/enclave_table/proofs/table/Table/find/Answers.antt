use Rattle.std.proofs.Common.{◌≡◌, ◌-◌, ◌≤◌, ◌∙◌, sym, ap, subst, Option, None, Some, IfSome, slice_index_or, arith, refl}
use Rattle.enclave_table.specs.Tables.{IsSound, Kept}
use Rattle.enclave_table.specs.declared.enclave.Enclave.{Enclave}
use Rattle.enclave_table.proofs.Places.{at_place}
use Rattle.enclave_table.proofs.table.Table.find.Goals as goal

if_some : (o : Option Enclave) (P : Enclave → Type 0) → ((e : Enclave) → o ≡ Some e → P e) → IfSome o P
if_some None P h = tt
if_some (Some e) P h = h e refl

pub returns-clause-sound : goal.returns-clause-sound
returns-clause-sound c =
    let items = c.self.inside.enclaves.items in
    let above : 1 ≤ c.args.id = omega (arith, c.if-id-eq0.false) in
    if_some (slice_index_or c.as_slice-enclaves.result.now (c.args.id - 1) None) (λ e. IsSound c.args.self.now.table e.parts)
    (λ e is.
    let P : Kept → Type 0 = λ v. IsSound v.table e.parts in
    subst P c.self.view_is
    (c.self.invariant.0.table.sound c.args.id e
    (at_place items c.args.id above ∙ ap (λ l. slice_index_or l (c.args.id - 1) None) (sym c.as_slice-enclaves.ensures.value) ∙ is)))
