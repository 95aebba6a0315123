use Rattle.std.proofs.Common.{◌≡◌, ◌-◌, ◌<◌, ◌∙◌, sym, subst, [], length, arith}
use Rattle.std.proofs.lemmas.List.{get_or_default}
use Rattle.enclave_table.specs.Enclaves.{Live}
use Rattle.enclave_table.specs.Views.{enclave_view}
use Rattle.enclave_table.specs.Fewest.{IsListOf}
use Rattle.enclave_table.specs.Tables.{Kept, list_at}
use Rattle.enclave_table.proofs.table.Table.enclave_entries.Goals as goal

pub returns-clause-list : goal.returns-clause-list
returns-clause-list c =
    let e = c.in_ok-_enclave._enclave in
    let kept : Kept =
    record {
      table = record { layout = c.self.inside.platform; enclaves = c.self.inside.enclaves.items };
      host_list = c.self.inside.host_list;
      lists =
          c.self.inside.lists.items;
    } in
    let L : Kept → Type 0 = λ v. Live v.table c.args.id e in
    let live : Live kept.table c.args.id e = subst L (sym c.self.view_is) c.in_ok-_enclave.ensures.live in
    let inside : c.args.id - 1 < length c.self.inside.lists.items = omega
    (arith, c.self.invariant.0.places, c.in_ok-_enclave.ensures.below, c.in_ok-_enclave.ensures.above) in
    let is : c.as_slice.result.now ≡ list_at kept c.args.id = c.as_slice.ensures ∙ c.index.ensures
    ∙ get_or_default c.self.inside.lists.items (c.args.id - 1) _ [] inside in
    let P : Kept → Type 0 = λ v. IsListOf v.table.layout.limit (enclave_view e.parts) c.as_slice.result.now in
    (e, c.in_ok-_enclave.ensures.live, subst P c.self.view_is (rw is (c.self.invariant.0.each c.args.id e live)))
