use Rattle.std.proofs.Common.{◌≡◌, ◌-◌, ◌<◌, ◌∙◌, refl, sym, subst, length, None, Some}
use Rattle.std.proofs.lemmas.List.{get_or_default}
use Rattle.enclave_table.specs.Enclaves.{Live}
use Rattle.enclave_table.specs.Tables.{Kept}
use Rattle.enclave_table.specs.declared.enclave.Enclave.{Enclave}
use Rattle.enclave_table.proofs.Places.{live_inside, live_place}
use Rattle.enclave_table.proofs.Replaced.{replaced_kept, replaced_tree}
use Rattle.enclave_table.proofs.firmware.give_digest.Goals as goal

pub invariant_of-table : goal.invariant_of-table
invariant_of-table c =
    let items = c.table.inside.enclaves.items in
    let e = c.requires.0 in
    let kept : Kept = record {
      table = record { layout = c.table.inside.platform; enclaves = items };
      host_list = c.table.inside.host_list;
      lists =
          c.table.inside.lists.items;
    } in
    let live : Live kept.table c.args.id e = let P : Kept → Type 0 = λ v. Live v.table c.args.id e in subst P (sym c.table.view_is) c.requires.1 in
    let inside : c.args.id - 1 < length items = live_inside items c.args.id e live in
    let measured : Enclave = record e { digest = c.args.digest.now } in
    let slot : c.put_digest.new.place ≡ Some measured =
    c.put_digest.ensures e (c.index_mut.ensures.value ∙ get_or_default items (c.args.id - 1) _ None inside ∙ live_place items c.args.id e live) in
    rw slot (
      replaced_kept kept c.args.id e measured live refl c.table.invariant.0,
      replaced_tree kept.table c.table.inside.host_tree c.args.id e measured live refl
          c.table.invariant.1,
    )
