-- A table with one more enclave, and one with one less.
use Rattle.std.proofs.Common.{ℕ, zero, suc, ◌≡◌, ◌≢◌, ◌+◌, ◌-◌, ◌<◌, ◌≤◌, ◌∙◌, ◌/◌, ◌⊎◌, inl, inr, ⊎_elim, refl, sym, ap, subst, Bool, true, false, ◌||◌, cond}
use Rattle.std.proofs.Common.{List, [], ◌∷◌, length, get_or, set, Option, None, Some, arith}
use Rattle.std.proofs.lemmas.Bool.{cases_eq, cases_Bool, or_left, false_from_ne_true}
use Rattle.std.proofs.lemmas.List.{length-set, get_or-set_same, get_or-set_other}
use Rattle.std.proofs.lemmas.Option.{same_Some}
use Rattle.pmp_encoding.specs.declared.perm.Perm.{Perm}
use Rattle.pmp_encoding.specs.declared.perm.Perm.TheVariants.{NoAccess, ReadWriteExecute}
use Rattle.pmp_encoding.specs.declared.region.Entry.{Entry}
use Rattle.permission_map.specs.Views.{SameView, overwritten}
use Rattle.platforms.specs.Platform.{is_ram, platform_perm, device_perm}
use Rattle.enclave_table.specs.Enclaves.{EnclaveTable, enclave_at, Live, with_enclave}
use Rattle.measurement.specs.Requests.{is_private, is_shared, is_part, ArePartsApart}
use Rattle.enclave_table.specs.Views.{host_view, enclave_view}
use Rattle.enclave_table.proofs.ShortNames.{any_private, has_private}
use Rattle.enclave_table.specs.Tables.{IsSound, IsTable, Kept, IsKept, list_at}
use Rattle.enclave_table.specs.Fewest.{IsListOf}
use Rattle.measurement.specs.declared.request.Create.{Create}
use Rattle.enclave_table.specs.declared.enclave.Enclave.{Enclave}
use Rattle.enclave_table.proofs.Places.{live_above, live_inside, live_place, at_place, set_same, set_other, private_set}
use Rattle.platforms.specs.Ranges.{has_page}

no_some : (f : Enclave) → None ≡ Some f → ⊥
no_some f h = cc

-- ---- who is live

-- an id of the table
abbrev pub IsPlace : EnclaveTable → ℕ → Type 0
IsPlace table id = (1 ≤ id) × (id - 1 < length table.enclaves)

pub free_place : (table : EnclaveTable) (id : ℕ) → IsTable table → 1 ≤ id → id ≤ 64 → IsPlace table id
free_place table id is above below = (above, omega (arith, is.places, above, below))

-- who is live in a table with one place written
live_after :
    (table : EnclaveTable) (id : ℕ) (slot : Option Enclave) (other : ℕ) (f : Enclave) → IsPlace table id → Live (with_enclave table id slot) other f
    → ((other ≡ id) × (slot ≡ Some f)) ⊎ ((other ≢ id) × Live table other f)
live_after table id slot other f at live =
    ⊎_elim (λ same. inl (same, sym (set_same table.enclaves id slot at.0 at.1) ∙ sym (ap (enclave_at (set table.enclaves (id - 1) slot)) same) ∙ live))
    (λ differ. inr (differ, sym (set_other table.enclaves id other slot at.0 differ) ∙ live)) (cases_eq other id)

-- ---- which pages are private to some enclave

swap : (x p a : Bool) → (x || (p || a)) ≡ (p || (x || a))
swap true true a = refl
swap true false a = refl
swap false p a = refl

any_added :
    (es : List (Option Enclave)) (place : ℕ) (e : Enclave) (page : ℕ) → get_or es place None ≡ None → place < length es
    → any_private (set es place (Some e)) page ≡ (is_private e.parts page || any_private es page)
any_added [] place e page free inside = absurd (omega (arith, inside))
any_added (x ∷ xs) zero e page free inside = ap (λ t. is_private e.parts page || t) (sym (ap (λ slot. has_private slot page || any_private xs page) free))
any_added (x ∷ xs) (suc place) e page free inside =
    ap (λ t. has_private x page || t) (any_added xs place e page free (omega (arith, inside)))
    ∙ swap (has_private x page) (is_private e.parts page) (any_private xs page)

has_none : (slot : Option Enclave) (page : ℕ) → ((e : Enclave) → slot ≡ Some e → is_private e.parts page ≡ false) → has_private slot page ≡ false
has_none None page none = refl
has_none (Some e) page none = none e refl

pub any_none : (es : List (Option Enclave)) (page : ℕ) → ((place : ℕ) (e : Enclave) → get_or es place None ≡ Some e → is_private e.parts page ≡ false)
    → any_private es page ≡ false
any_none [] page none = refl
any_none (x ∷ xs) page none =
    let here : has_private x page ≡ false = has_none x page (λ e is. none 0 e is) in
    let rest : any_private xs page ≡ false = any_none xs page (λ place e is. none (suc place) e is) in
    ap (λ t. t || any_private xs page) here ∙ rest

-- ---- the host's view

added_perm : (p m a : Bool) (q : Perm) → cond p NoAccess (cond (m || a) NoAccess q) ≡ cond (m || (p || a)) NoAccess q
added_perm true true a q = refl
added_perm true false a q = refl
added_perm false m a q = refl

pub host_added :
    (table : EnclaveTable) (id : ℕ) (e : Enclave) → IsPlace table id → enclave_at table.enclaves id ≡ None
    → SameView (overwritten (host_view table) (e.parts.base / 4096) (e.parts.text_pages + e.parts.data_pages) NoAccess)
    (host_view (with_enclave table id (Some e)))
host_added table id e at free page small =
    let added : any_private (set table.enclaves (id - 1) (Some e)) page ≡ (is_private e.parts page || any_private table.enclaves page)
    = any_added table.enclaves (id - 1) e page (sym (at_place table.enclaves id at.0) ∙ free) at.1 in
    added_perm (is_private e.parts page) (has_page table.layout.monitor page) (any_private table.enclaves page) (platform_perm table.layout page)
    ∙ sym (ap (λ t. cond (has_page table.layout.monitor page || t) NoAccess (platform_perm table.layout page)) added)

pub host_removed :
    (table : EnclaveTable) (id : ℕ) (e : Enclave) → IsTable table → Live table id e
    → SameView (overwritten (host_view table) (e.parts.base / 4096) (e.parts.text_pages + e.parts.data_pages) ReadWriteExecute)
    (host_view (with_enclave table id None))
host_removed table id e is live page small = ⊎_elim inside outside (cases_Bool (is_private e.parts page))
  where
    place : id - 1 < length table.enclaves
    place = live_inside table.enclaves id e live

    inside : is_private e.parts page ≡ true → overwritten (host_view table) (e.parts.base / 4096)
        (e.parts.text_pages + e.parts.data_pages) ReadWriteExecute page ≡ host_view (with_enclave table id None) page
    inside private =
        let part : is_part e.parts page ≡ true = or_left (is_private e.parts page) (is_shared e.parts page) private in
        let ram : is_ram table.layout page ≡ true = (is.sound id e live).in_ram page part in
        let other : has_page table.layout.monitor page ≡ false = (is.sound id e live).not_monitor page part in
        let none : any_private (set table.enclaves (id - 1) None) page ≡ false = any_none (set table.enclaves (id - 1) None) page
        (λ k f at. alone k f at part) in
        ap (λ t. cond t ReadWriteExecute (host_view table page)) private
        ∙ sym (ap (λ t. cond t ReadWriteExecute (device_perm table.layout.devices page)) ram)
        ∙ sym (ap (λ t. cond (t || any_private (set table.enclaves (id - 1) None) page) NoAccess (platform_perm table.layout page)) other
        ∙ ap (λ t. cond t NoAccess (platform_perm table.layout page)) none)
      where
        alone : (k : ℕ) (f : Enclave) → get_or (set table.enclaves (id - 1) None) k None ≡ Some f → is_part e.parts page ≡ true
            → is_private f.parts page ≡ false
        alone k f at part =
            let k_is : k + 1 - 1 ≡ k = omega arith in
            let after : Live (with_enclave table id None) (k + 1) f =
            at_place (set table.enclaves (id - 1) None) (k + 1) (omega arith) ∙ ap (λ j. get_or (set table.enclaves (id - 1) None) j None) k_is ∙ at in
            ⊎_elim (λ w. absurd (no_some f w.1))
            (λ w. false_from_ne_true (is_private f.parts page)
            (λ yes. w.0 (sym (is.alone id (k + 1) e f page live w.1 part (or_left (is_private f.parts page) (is_shared f.parts page) yes)))))
            (live_after table id None (k + 1) f (live_above table.enclaves id e live, place) after)

    outside : is_private e.parts page ≡ false → overwritten (host_view table) (e.parts.base / 4096)
        (e.parts.text_pages + e.parts.data_pages) ReadWriteExecute page ≡ host_view (with_enclave table id None) page
    outside none =
        let same : any_private (set table.enclaves (id - 1) None) page ≡ any_private table.enclaves page
        = private_set table.enclaves (id - 1) None page (sym none ∙ sym (ap (λ slot. has_private slot page) (live_place table.enclaves id e live))) place in
        ap (λ t. cond t ReadWriteExecute (host_view table page)) none
        ∙ sym (ap (λ t. cond (has_page table.layout.monitor page || t) NoAccess (platform_perm table.layout page)) same)

-- ---- the rules of a table

pub added_table :
    (table : EnclaveTable) (id : ℕ) (e : Enclave) → IsPlace table id → IsTable table → IsSound table e.parts
    → ((other : ℕ) (f : Enclave) → Live table other f → ArePartsApart e.parts f.parts)
    → IsTable (with_enclave table id (Some e))
added_table table id e at is sound apart =
    record {
      layout = is.layout;
      places = length-set table.enclaves (id - 1) (Some e) ∙ is.places;
      sound = λ other f live.
          ⊎_elim (λ w. subst (λ (d : Enclave). IsSound (with_enclave table id (Some e)) d.parts) (same_Some e f w.1)
          (moved (with_enclave table id (Some e)) refl e.parts sound))
          (λ w. moved (with_enclave table id (Some e)) refl f.parts (is.sound other f w.1)) (live_after table id (Some e) other f at live);
      alone = λ a b f h page live_f live_h part_f part_h.
          ⊎_elim
          (λ u.
          ⊎_elim (λ v. u.0 ∙ sym v.0)
          (λ v. absurd (apart b h v.1 page (ap (λ (d : Enclave). is_part d.parts page) (same_Some e f u.1) ∙ part_f) part_h))
          (live_after table id (Some e) b h at live_h))
          (λ u.
          ⊎_elim (λ v. absurd (apart a f u.1 page (ap (λ (d : Enclave). is_part d.parts page) (same_Some e h v.1) ∙ part_h) part_f))
          (λ v. is.alone a b f h page u.1 v.1 part_f part_h) (live_after table id (Some e) b h at live_h)) (live_after table id (Some e) a f at live_f);
    }
  where
    moved : (new : EnclaveTable) → new.layout ≡ table.layout → (parts : Create) → IsSound table parts → IsSound new parts
    moved new layout parts s = rw layout (record {
      counts = s.counts;
      places = s.places;
      entry = s.entry;
      in_ram = s.in_ram;
      not_monitor = s.not_monitor;
      apart
          = s.apart;
    })

pub removed_table : (table : EnclaveTable) (id : ℕ) → IsPlace table id → IsTable table → IsTable (with_enclave table id None)
removed_table table id at is =
    record {
      layout = is.layout;
      places = length-set table.enclaves (id - 1) None ∙ is.places;
      sound = λ other f live. let s : IsSound table f.parts = is.sound other f (was other f live) in
          record { counts = s.counts; places = s.places; entry = s.entry; in_ram = s.in_ram; not_monitor = s.not_monitor; apart = s.apart };
      alone = λ a b f h page live_f live_h part_f part_h. is.alone a b f h page (was a f live_f) (was b h live_h) part_f part_h;
    }
  where
    was : (other : ℕ) (f : Enclave) → Live (with_enclave table id None) other f → Live table other f
    was other f live = ⊎_elim (λ w. absurd (no_some f w.1)) (λ w. w.1) (live_after table id None other f at live)

-- ---- what is kept

other_list : (kept : Kept) (id other : ℕ) (list : List Entry) → 1 ≤ id → 1 ≤ other → other ≢ id
    → get_or (set kept.lists (id - 1) list) (other - 1) [] ≡ list_at kept other
other_list kept id other list above one differ = get_or-set_other kept.lists (id - 1) (other - 1) list [] (λ e. differ (omega (arith, e, above, one)))

pub added_kept :
    (kept : Kept) (id : ℕ) (e : Enclave) (host list : List Entry) → IsPlace kept.table id → IsKept kept → IsSound kept.table e.parts
    → ((other : ℕ) (f : Enclave) → Live kept.table other f → ArePartsApart e.parts f.parts)
    → IsListOf kept.table.layout.limit (host_view (with_enclave kept.table id (Some e))) host → IsListOf kept.table.layout.limit (enclave_view e.parts) list
    → IsKept (record { table = with_enclave kept.table id (Some e); host_list = host; lists = set kept.lists (id - 1) list })
added_kept kept id e host list at is sound apart host_is list_is =
    record {
      table = added_table kept.table id e at is.table sound apart;
      host = host_is;
      places = length-set kept.lists (id - 1) list ∙ is.places;
      each = λ other f live.
          ⊎_elim
          (λ w.
          let same : get_or (set kept.lists (id - 1) list) (other - 1) [] ≡ list =
          ap (λ j. get_or (set kept.lists (id - 1) list) (j - 1) []) w.0 ∙ get_or-set_same kept.lists (id - 1) list []
          (omega (arith, is.places, is.table.places, at.1)) in
          let parts : f.parts ≡ e.parts = sym (ap (λ (d : Enclave). d.parts) (same_Some e f w.1)) in
          rw (same, parts) list_is)
          (λ w. rw (other_list kept id other list at.0 (live_above kept.table.enclaves other f w.1) w.0) (is.each other f w.1))
          (live_after kept.table id (Some e) other f at live);
    }

pub removed_kept :
    (kept : Kept) (id : ℕ) (host list : List Entry) → IsPlace kept.table id → IsKept kept
    → IsListOf kept.table.layout.limit (host_view (with_enclave kept.table id None)) host
    → IsKept (record { table = with_enclave kept.table id None; host_list = host; lists = set kept.lists (id - 1) list })
removed_kept kept id host list at is host_is =
    record {
      table = removed_table kept.table id at is.table;
      host = host_is;
      places = length-set kept.lists (id - 1) list ∙ is.places;
      each = λ other f live.
          ⊎_elim (λ w. absurd (no_some f w.1))
          (λ w. rw (other_list kept id other list at.0 (live_above kept.table.enclaves other f w.1) w.0) (is.each other f w.1))
          (live_after kept.table id None other f at live);
    }
