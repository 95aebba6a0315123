-- Who may change a byte of a private page.
use Rattle.std.proofs.Common.{◌≡◌, ◌⊎◌, ◌∙◌, inl, inr, ℕ, zero, suc, ◌+◌, ◌-◌, ◌/◌, ◌<◌, ◌≤◌, List, [], ◌∷◌, Bool, true, false, ◌||◌, nat_le, nat_lt, cond}
use Rattle.std.proofs.Common.{if◌then◌else◌, Option, Some, None, slice_set, slice_index_or, Result, Ok, Err, refl, ap, sym, subst, arith}
use Rattle.std.proofs.lemmas.Bool.{and_parts, and_from, leb-true, ltb-true, le-leb, lt-ltb, false_from_ne_true}
use Rattle.pmp_encoding.specs.declared.perm.Perm.TheVariants.{NoAccess, ReadWrite, ReadExecute}
use Rattle.pmp_encoding.specs.Registers.{byte_of}
use Rattle.pmp_match.specs.declared.access.Access.{Access}
use Rattle.pmp_match.specs.declared.access.Kind.{Kind}
use Rattle.pmp_match.specs.declared.access.Kind.TheVariants.{Fetch, Load, Store}
use Rattle.pmp_match.specs.declared.cause.Cause.{Cause}
use Rattle.pmp_match.specs.Kinds.{holds}
use Rattle.permission_map.specs.Runs.{in_range}
use Rattle.enclave_table.proofs.Places.{live_place}
use Rattle.enclave_table.specs.Enclaves.{EnclaveTable, Live, enclave_at}
use Rattle.measurement.specs.Requests.{is_private, is_shared, is_part}
use Rattle.enclave_table.specs.Views.{host_view, enclave_view}
use Rattle.enclave_table.proofs.ShortNames.{any_private, has_private}
use Rattle.platforms.specs.Platform.{platform_perm}
use Rattle.enclave_table.specs.Tables.{IsTable}
use Rattle.measurement.specs.declared.request.Create.{Create}
use Rattle.enclave_table.specs.declared.enclave.Enclave.{Enclave}
use Rattle.sbi_decode.specs.declared.world.World.{World}
use Rattle.sbi_decode.specs.declared.world.World.TheVariants.{Host, Enclave as InEnclave}
use Rattle.hart_trace.specs.declared.event.Event.{Event}
use Rattle.hart_trace.specs.declared.event.Event.TheVariants as events
use Rattle.hart_trace.specs.declared.reply.Reply.{Reply}
use Rattle.hart_sim.specs.States.{MachineState, with_core, view_of, view_on}
use Rattle.enclave_table.proofs.ShortNames.{view_in}
use Rattle.hart_sim.specs.Changes.{zeroing}
use Rattle.hart_sim.specs.Steps.{Step, Accesses, TakesEffect, verdict}
use Rattle.monitor_core.specs.States.{MonitorState}
use Rattle.monitor_core.proofs.Zeroed.{Clears, cleared}
use Rattle.pmp_encoding.specs.declared.pages.PageRange.{PageRange}
use Rattle.hart_sim.proofs.Asked.{awoken, named, asked, lent, is_zeroed}
use Rattle.hart_sim.specs.Privacy.{StoresTo, KeepsPrivate}
use Rattle.hart_sim.proofs.Verdicts.{allowed_by, some_held, page_of_byte}
use Rattle.platforms.specs.Ranges.{has_page}

or_first : (a b : Bool) → a ≡ true → (a || b) ≡ true
or_first true b e = refl
or_first false b e = absurd (let h : false ≡ true = e in cc)

or_second : (a b : Bool) → b ≡ true → (a || b) ≡ true
or_second true b e = refl
or_second false b e = e

any_is : (slots : List (Option Enclave)) (place page : ℕ) (e : Enclave) → slice_index_or slots place None ≡ Some e → is_private e.parts page ≡ true
    → any_private slots page ≡ true
any_is [] place page e at p = absurd (let h : None ≡ Some e = at in cc)
any_is (slot ∷ slots) zero page e at p = or_first (has_private slot page) (any_private slots page) (ap (λ o. has_private o page) at ∙ p)
any_is (slot ∷ slots) (suc place) page e at p = or_second (has_private slot page) (any_private slots page) (any_is slots place page e at p)

any_at : (slots : List (Option Enclave)) (id page : ℕ) (e : Enclave) → enclave_at slots id ≡ Some e → is_private e.parts page ≡ true
    → any_private slots page ≡ true
any_at slots id page e at p = any_is slots (id - 1) page e (live_place slots id e at) p

-- the host may do nothing there
host_none : (table : EnclaveTable) (id page : ℕ) (e : Enclave) → Live table id e → is_private e.parts page ≡ true → host_view table page ≡ NoAccess
host_none table id page e live p =
    ap (λ b. cond b NoAccess (platform_perm table.layout page)) (or_second (has_page table.layout.monitor page) (any_private table.enclaves page)
    (any_at table.enclaves id page e live p))

wider : (first count more page : ℕ) → in_range first count page ≡ true → in_range first (count + more) page ≡ true
wider first count more page e =
    let p = and_parts (nat_le first page) (nat_lt page (first + count)) e in
    let low = leb-true first page p.0 in
    let high = ltb-true page (first + count) p.1 in
    and_from (nat_le first page) (nat_lt page (first + (count + more))) p.0 (lt-ltb page (first + (count + more)) (omega arith))

behind : (first before count page : ℕ) → in_range (first + before) count page ≡ true → in_range first (before + count) page ≡ true
behind first before count page e =
    let p = and_parts (nat_le (first + before) page) (nat_lt page (first + before + count)) e in
    let low = leb-true (first + before) page p.0 in
    let high = ltb-true page (first + before + count) p.1 in
    and_from (nat_le first page) (nat_lt page (first + (before + count))) (le-leb first page (omega arith))
    (lt-ltb page (first + (before + count)) (omega arith))

none_held : (kind : Kind) → holds NoAccess kind ≡ true → ⊥
none_held kind e = some_held NoAccess kind e refl

-- what an enclave may do something with is a part of it
part_held : (parts : Create) (page : ℕ) (kind : Kind) (text datum shared : Bool) → in_range (parts.base / 4096) parts.text_pages page ≡ text
    → in_range (parts.base / 4096 + parts.text_pages) parts.data_pages page ≡ datum → is_shared parts page ≡ shared
    → holds (cond text ReadExecute (cond (datum || shared) ReadWrite NoAccess)) kind ≡ true → is_part parts page ≡ true
part_held parts page kind true datum shared t d s h = or_first (is_private parts page) (is_shared parts page)
    (wider (parts.base / 4096) parts.text_pages parts.data_pages page t)
part_held parts page kind false true shared t d s h = or_first (is_private parts page) (is_shared parts page)
    (behind (parts.base / 4096) parts.text_pages parts.data_pages page d)
part_held parts page kind false false true t d s h = or_second (is_private parts page) (is_shared parts page) s
part_held parts page kind false false false t d s h = absurd (none_held kind h)

-- whoever may do something with a private page is the enclave itself
pub only_itself : (table : EnclaveTable) (world : World) (id page : ℕ) (e : Enclave) (kind : Kind) → IsTable table → Live table id e
    → is_private e.parts page ≡ true → holds (view_of table world page) kind ≡ true → world ≡ InEnclave id
only_itself table Host id page e kind right live p h = absurd (none_held kind (ap (λ q. holds q kind) (sym (host_none table id page e live p)) ∙ h))
only_itself table (InEnclave k) id page e kind right live p h = by_slot (enclave_at table.enclaves k) refl
  where
    by_slot : (slot : Option Enclave) → enclave_at table.enclaves k ≡ slot → InEnclave k ≡ InEnclave id
    by_slot None is = absurd (none_held kind (ap (λ o. holds (view_in o page) kind) (sym is) ∙ h))
    by_slot (Some g) is =
        let held : holds (enclave_view g.parts page) kind ≡ true = ap (λ o. holds (view_in o page) kind) (sym is) ∙ h in
        let part = part_held g.parts page kind (in_range (g.parts.base / 4096) g.parts.text_pages page)
        (in_range (g.parts.base / 4096 + g.parts.text_pages) g.parts.data_pages page) (is_shared g.parts page) refl refl refl held in
        let same : k ≡ id = right.alone k id g e page is live part (or_first (is_private e.parts page) (is_shared e.parts page) p) in
        ap InEnclave same

-- nobody may do anything with a page of the monitor
pub nobody : (table : EnclaveTable) (world : World) (page : ℕ) (kind : Kind) → IsTable table → has_page table.layout.monitor page ≡ true
    → holds (view_of table world page) kind ≡ true → ⊥
nobody table Host page kind right own h =
    let closed : host_view table page ≡ NoAccess = ap (λ b. cond b NoAccess (platform_perm table.layout page))
    (or_first (has_page table.layout.monitor page) (any_private table.enclaves page) own) in
    none_held kind (ap (λ q. holds q kind) (sym closed) ∙ h)
nobody table (InEnclave k) page kind right own h = by_slot (enclave_at table.enclaves k) refl
  where
    by_slot : (slot : Option Enclave) → enclave_at table.enclaves k ≡ slot → ⊥
    by_slot None is = none_held kind (ap (λ o. holds (view_in o page) kind) (sym is) ∙ h)
    by_slot (Some g) is =
        let held : holds (enclave_view g.parts page) kind ≡ true = ap (λ o. holds (view_in o page) kind) (sym is) ∙ h in
        let part = part_held g.parts page kind (in_range (g.parts.base / 4096) g.parts.text_pages page)
        (in_range (g.parts.base / 4096 + g.parts.text_pages) g.parts.data_pages page) (is_shared g.parts page) refl refl refl held in
        let z : false ≡ true = sym ((right.sound k g is).not_monitor page part) ∙ own in cc

-- the goal for one byte
abbrev Kept : MachineState → MachineState → ℕ → ℕ → Event → Reply → ℕ → Type 0
Kept old new hart byte event reply id = (new.bytes byte ≡ old.bytes byte) ⊎ StoresTo old hart event reply id byte

within : (first count n : ℕ) → in_range first count n ≡ true → (first ≤ n) × (n < first + count)
within first count n e = let p = and_parts (nat_le first n) (nat_lt n (first + count)) e in (leb-true first n p.0, ltb-true n (first + count) p.1)

test : {P : Type 0} (b : Bool) → (b ≡ true → P) → (b ≡ false → P) → P
test true when unless = when refl
test false when unless = unless refl

stored_there : (old new : MachineState) (hart id byte value : ℕ) (a : Access) (e : Enclave) → IsTable old.table → Live old.table id e
    → is_private e.parts (byte / 4096) ≡ true → verdict (view_on old hart) a ≡ Ok tt → (kind : Kind) → a.kind ≡ kind → (reply : Reply)
    → TakesEffect kind (awoken old hart) a value reply new → Kept old new hart byte (events.Access a value) reply id
stored_there old new hart id byte value a e right live p v Fetch k reply x = inl (ap (λ y. y.bytes byte) x.1)
stored_there old new hart id byte value a e right live p v Load k reply x = inl (ap (λ y. y.bytes byte) x.1)
stored_there old new hart id byte value a e right live p v Store k reply (inr x) = inl (ap (λ y. y.bytes byte) x.2)
stored_there old new hart id byte value a e right live p v Store k reply (inl x) = test (in_range a.address a.size byte)
    (λ yes.
    let w = within a.address a.size byte yes in
    let ok = allowed_by (view_on old hart) a v in
    let held : holds (view_on old hart (byte / 4096)) a.kind ≡ true = ap (λ q. holds (view_on old hart q) a.kind) (page_of_byte a byte ok.aligned w.0 w.1)
    ∙ ok.held in
    inr (k, x.0, only_itself old.table (old.worlds hart) id (byte / 4096) e a.kind right live p held, v, w.0, w.1))
    (λ no. inl (ap (λ y. y.bytes byte) x.1 ∙ ap (λ b. if b then byte_of value (byte - a.address) else old.bytes byte) no))

accessed : (old new : MachineState) (hart id byte value : ℕ) (a : Access) (e : Enclave) (reply : Reply) (said : Result (Unit {0}) Cause) → IsTable old.table
    → Live old.table id e → is_private e.parts (byte / 4096) ≡ true → verdict (view_on old hart) a ≡ said → Accesses said (awoken old hart) a value reply new
    → Kept old new hart byte (events.Access a value) reply id
accessed old new hart id byte value a e reply (Err cause) right live p v x = inl (ap (λ y. y.bytes byte) x.1)
accessed old new hart id byte value a e reply (Ok done) right live p v x = stored_there old new hart id byte value a e right live p v a.kind refl reply x

none_there : (slots : List (Option Enclave)) (place : ℕ) → slice_index_or (slice_set slots place None) place None ≡ None
none_there [] place = refl
none_there (slot ∷ slots) zero = refl
none_there (slot ∷ slots) (suc place) = none_there slots place

gone : (table : EnclaveTable) (id : ℕ) (f : Enclave) → enclave_at (slice_set table.enclaves (id - 1) None) id ≡ Some f → ⊥
gone table id f there =
    let at : slice_index_or (slice_set table.enclaves (id - 1) None) (id - 1) None ≡ Some f = live_place (slice_set table.enclaves (id - 1) None) id f there in
    let h : None ≡ Some f = sym (none_there table.enclaves (id - 1)) ∙ at in cc

-- the pages that a call makes zero are private to no enclave that is live after it
called : (s new : MachineState) (before core : MonitorState) (pages : Option PageRange) (id byte : ℕ) (e f : Enclave) → before.table ≡ s.table
    → new ≡ zeroing (with_core s core) pages → IsTable s.table → Live s.table id e → Live new.table id f → is_private e.parts (byte / 4096) ≡ true
    → (pages ≡ None) ⊎ ((range : PageRange) × (pages ≡ Some range) × Clears before core range) → new.bytes byte ≡ s.bytes byte
called s new before core pages id byte e f table is right live now p (inl none) =
    ap (λ y. y.bytes byte) is ∙ ap (λ q. if is_zeroed q (byte / 4096) then 0 else s.bytes byte) none
called s new before core pages id byte e f table is right live now p (inr x) =
    let c = x.2 in
    let g = c.enclave in
    let live_g : Live s.table c.id g = subst (λ t. Live t c.id g) table c.live in
    let outside : in_range x.0.first x.0.count (byte / 4096) ≡ false = false_from_ne_true (in_range x.0.first x.0.count (byte / 4096)) (λ yes.
    let private : is_private g.parts (byte / 4096) ≡ true = ap (λ (r : PageRange). in_range r.first r.count (byte / 4096)) (sym c.own) ∙ yes in
    let same : c.id ≡ id = right.alone c.id id g e (byte / 4096) live_g live
    (or_first (is_private g.parts (byte / 4096)) (is_shared g.parts (byte / 4096)) private)
    (or_first (is_private e.parts (byte / 4096)) (is_shared e.parts (byte / 4096)) p) in
    let there : enclave_at (slice_set s.table.enclaves (id - 1) None) id ≡ Some f =
    ap (λ n. enclave_at (slice_set s.table.enclaves (n - 1) None) id) (sym same) ∙ ap (λ t. enclave_at (slice_set t.enclaves (c.id - 1) None) id) (sym table)
    ∙ ap (λ t. enclave_at t.enclaves id) (sym (ap (λ y. y.table) is ∙ c.table)) ∙ now in
    gone s.table id f there) in
    ap (λ y. y.bytes byte) is ∙ ap (λ q. if is_zeroed q (byte / 4096) then 0 else s.bytes byte) x.1 ∙ ap (λ b. if b then 0 else s.bytes byte) outside

-- a step leaves each byte of a private page, but for the enclave's own stores
pub keeps_private : (old : MachineState) (hart : ℕ) (event : Event) (reply : Reply) (new : MachineState) → IsTable old.table → Step old hart event reply new
    → KeepsPrivate old hart event reply new
keeps_private old hart (events.Access a value) reply new right x = λ id byte e f live now p q. accessed old new hart id byte value a e reply
    (verdict (view_on old hart) a) right live p refl x
keeps_private old hart (events.Reg n value) reply new right x = λ id byte e f live now p q. inl (ap (λ y. y.bytes byte) x.1)
keeps_private old hart (events.Ecall words) reply new right x = λ id byte e f live now p q.
    inl (called (awoken old hart) new (asked old hart words.items) x.2 x.1 id byte e f refl x.4 right live now p
    (cleared (named old hart words.items) (lent old) (asked old hart words.items) hart x.0 x.1 x.2 x.3))
keeps_private old hart events.Irq reply new right x = λ id byte e f live now p q. inl (ap (λ y. y.bytes byte) x.2)
