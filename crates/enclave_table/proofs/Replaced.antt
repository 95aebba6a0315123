-- A table in which another enclave with the same parts stands in the place of a live one: in another state, or with another digest.
use Rattle.std.proofs.Common.{ℕ, ◌≡◌, ◌-◌, ◌<◌, ◌≤◌, ◌∙◌, ⊎_elim, refl, sym, ap, ◌||◌, cond, length, set, Some}
use Rattle.std.proofs.lemmas.Bool.{cases_eq}
use Rattle.std.proofs.lemmas.List.{length-set}
use Rattle.std.proofs.lemmas.Option.{same_Some}
use Rattle.pmp_encoding.specs.declared.perm.Perm.TheVariants.{NoAccess}
use Rattle.permission_map.specs.Views.{SameView}
use Rattle.prefix_tree.specs.Trees.{PermTree}
use Rattle.platforms.specs.Platform.{platform_perm}
use Rattle.platforms.specs.Ranges.{has_page}
use Rattle.measurement.specs.Requests.{is_part, is_private}
use Rattle.measurement.specs.declared.request.Create.{Create}
use Rattle.enclave_table.specs.Enclaves.{EnclaveTable, enclave_at, Live, with_enclave}
use Rattle.enclave_table.specs.Views.{host_view, enclave_view}
use Rattle.enclave_table.specs.Tables.{IsSound, IsTable, Kept, IsKept, IsHostTree, list_at}
use Rattle.enclave_table.specs.Fewest.{IsListOf}
use Rattle.enclave_table.specs.declared.enclave.Enclave.{Enclave}
use Rattle.enclave_table.proofs.ShortNames.{any_private, has_private}
use Rattle.enclave_table.proofs.Places.{live_above, live_inside, live_place, set_same, set_other, private_set}
use Rattle.enclave_table.proofs.SameViews.{list_same, tree_same}

-- who is live then was live before, with the same parts
pub was_live :
    (table : EnclaveTable) (id : ℕ) (e f : Enclave) (other : ℕ) (g : Enclave) → Live table id e → f.parts ≡ e.parts
    → Live (with_enclave table id (Some f)) other g
    → (was : Enclave) × Live table other was × (g.parts ≡ was.parts)
was_live table id e f other g live parts after =
    let above : 1 ≤ id = live_above table.enclaves id e live in
    let inside : id - 1 < length table.enclaves = live_inside table.enclaves id e live in
    ⊎_elim
    (λ same.
    let at : enclave_at (set table.enclaves (id - 1) (Some f)) id ≡ Some f = set_same table.enclaves id (Some f) above inside in
    let is : g ≡ f = same_Some g f (sym after ∙ ap (enclave_at (set table.enclaves (id - 1) (Some f))) same ∙ at) in
    (e, ap (enclave_at table.enclaves) same ∙ live, ap (λ (d : Enclave). d.parts) is ∙ parts))
    (λ differ. (g, sym (set_other table.enclaves id other (Some f) above differ) ∙ after, refl))
    (cases_eq other id)

pub same_host_view :
    (table : EnclaveTable) (id : ℕ) (e f : Enclave) → Live table id e → f.parts ≡ e.parts
    → SameView (host_view table) (host_view (with_enclave table id (Some f)))
same_host_view table id e f live parts page small =
    let same : any_private (set table.enclaves (id - 1) (Some f)) page ≡ any_private table.enclaves page
    = private_set table.enclaves (id - 1) (Some f) page
    (ap (λ p. is_private p page) parts ∙ sym (ap (λ slot. has_private slot page) (live_place table.enclaves id e live)))
    (live_inside table.enclaves id e live) in
    sym (ap (λ t. cond (has_page table.layout.monitor page || t) NoAccess (platform_perm table.layout page)) same)

sound_along : (table new : EnclaveTable) (p q : Create) → new.layout ≡ table.layout → p ≡ q → IsSound table q → IsSound new p
sound_along table new p q layout parts sound = rw (parts, layout) (record
    { counts = sound.counts; places = sound.places; entry = sound.entry; in_ram = sound.in_ram; not_monitor = sound.not_monitor; apart = sound.apart })

pub replaced_table : (table : EnclaveTable) (id : ℕ) (e f : Enclave) → Live table id e → f.parts ≡ e.parts → IsTable table
    → IsTable (with_enclave table id (Some f))
replaced_table table id e f live parts is =
    record {
      layout = is.layout;
      places = length-set table.enclaves (id - 1) (Some f) ∙ is.places;
      sound = λ other g after.
          let was : (was : Enclave) × Live table other was × (g.parts ≡ was.parts) = was_live table id e f other g live parts after in
          sound_along table (with_enclave table id (Some f)) g.parts was.0.parts refl was.2 (is.sound other was.0 was.1);
      alone = λ a b g h page live_g live_h part_g part_h.
          let k : (was : Enclave) × Live table a was × (g.parts ≡ was.parts) = was_live table id e f a g live parts live_g in
          let l : (was : Enclave) × Live table b was × (h.parts ≡ was.parts) = was_live table id e f b h live parts live_h in
          is.alone a b k.0 l.0 page k.1 l.1 (sym (ap (λ p. is_part p page) k.2) ∙ part_g) (sym (ap (λ p. is_part p page) l.2) ∙ part_h);
    }

pub replaced_kept :
    (kept : Kept) (id : ℕ) (e f : Enclave) → Live kept.table id e → f.parts ≡ e.parts → IsKept kept
    → IsKept (record kept { table = with_enclave kept.table id (Some f) })
replaced_kept kept id e f live parts is =
    record {
      table = replaced_table kept.table id e f live parts is.table;
      host = list_same kept.table.layout.limit (host_view kept.table) (host_view (with_enclave kept.table id (Some f))) kept.host_list
          (same_host_view kept.table id e f live parts) is.host;
      places = is.places;
      each = λ other g after.
          let was : (was : Enclave) × Live kept.table other was × (g.parts ≡ was.parts) = was_live kept.table id e f other g live parts after in
          let list : IsListOf kept.table.layout.limit (enclave_view was.0.parts) (list_at kept other) = is.each other was.0 was.1 in
          rw was.2 list;
    }

pub replaced_tree :
    (table : EnclaveTable) (tree : PermTree) (id : ℕ) (e f : Enclave) → Live table id e → f.parts ≡ e.parts → IsHostTree table tree
    → IsHostTree (with_enclave table id (Some f)) tree
replaced_tree table tree id e f live parts is =
    record {
      means = tree_same (host_view table) (host_view (with_enclave table id (Some f))) tree (same_host_view table id e f live parts) is.means;
      canonical = is.canonical;
    }
