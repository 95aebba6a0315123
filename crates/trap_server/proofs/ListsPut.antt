-- Lists that were put after the front of an answer are those that are new.
use Rattle.std.proofs.Common.{◌≡◌, ◌∙◌, List, ℕ, [], ◌∷◌, ◌++◌, refl, ap, sym, subst, append_assoc, append-nil}
use Rattle.pmp_encoding.specs.declared.region.Entry.{Entry}
use Rattle.sbi_decode.specs.declared.world.World.TheVariants.{Host, Enclave as InEnclave}
use Rattle.enclave_table.specs.Enclaves.{EnclaveTable, Live}
use Rattle.enclave_table.specs.Fewest.{IsListOf}
use Rattle.enclave_table.specs.Views.{current_view, enclave_view, host_view}
use Rattle.enclave_table.specs.declared.enclave.Enclave.{Enclave}
use Rattle.enclave_table.proofs.SameViews.{fewest_same}
use Rattle.enclave_table.proofs.ShortNames.{view_in}
use Rattle.trap_server.specs.Answered.{PutsLists}
use Rattle.trap_server.specs.Answers.{list_bytes}
use Rattle.trap_server.specs.declared.answer.NewLists.{NewLists}
use Rattle.trap_server.specs.declared.answer.NewLists.TheVariants as lists

pub none_put : (table : EnclaveTable) (id : ℕ) (new : NewLists) (front : List ℕ) → new ≡ lists.Nothing → PutsLists table id new front front
none_put table id new front is = subst (λ n. PutsLists table id n front front) (sym is) (record {
  are = [];
  lists = refl;
  put = sym (append-nil front);
})

pub host_put :
    (kept table : EnclaveTable) (id : ℕ) (new : NewLists) (front bytes : List ℕ) (host : List Entry) → kept ≡ table → new ≡ lists.Host
    → IsListOf kept.layout.limit (host_view kept) host → bytes ≡ front ++ list_bytes host → PutsLists table id new front bytes
host_put kept table id new front bytes host same is list put =
    let list_is : IsListOf table.layout.limit (current_view table Host) host = subst (λ t. IsListOf t.layout.limit (current_view t Host) host) same list in
    subst (λ n. PutsLists table id n front bytes) (sym is) (record {
      are = host ∷ [];
      lists = (host, list_is, refl);
      put = put ∙ ap (λ xs. front ++ xs) (sym (append-nil (list_bytes host)));
    })

pub both_put :
    (kept other table : EnclaveTable) (id : ℕ) (new : NewLists) (front middle bytes : List ℕ) (host made : List Entry) → kept ≡ table → other ≡ table
    → new ≡ lists.HostAndMade → IsListOf kept.layout.limit (host_view kept) host
    → ((e : Enclave) × Live other id e × IsListOf other.layout.limit (enclave_view e.parts) made)
    → middle ≡ front ++ list_bytes host → bytes ≡ middle ++ list_bytes made → PutsLists table id new front bytes
both_put kept other table id new front middle bytes host made same also is list own first second =
    let list_is : IsListOf table.layout.limit (current_view table Host) host = subst (λ t. IsListOf t.layout.limit (current_view t Host) host) same list in
    let view : IsListOf other.layout.limit (current_view other (InEnclave id)) made = record {
      fewest = fewest_same (enclave_view own.0.parts) (current_view other (InEnclave id)) made
          (λ page small. sym (ap (λ o. view_in o page) own.1)) own.2.fewest;
      room = own.2.room;
    } in
    let own_is = subst (λ t. IsListOf t.layout.limit (current_view t (InEnclave id)) made) also view in
    subst (λ n. PutsLists table id n front bytes) (sym is) (record {
      are = host ∷ (made ∷ []);
      lists = (host, made, list_is, own_is, refl);
      put = second ∙ ap (λ xs. xs ++ list_bytes made) first ∙ append_assoc front (list_bytes host) (list_bytes made)
          ∙ ap (λ xs. front ++ (list_bytes host ++ xs)) (sym (append-nil (list_bytes made)));
    })
