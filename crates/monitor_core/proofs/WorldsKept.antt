-- On which hart each enclave runs, from call to call.
use Rattle.std.proofs.Common.{◌≡◌, ◌≢◌, ◌∙◌, inl, inr, ℕ, ◌<◌, ◌≤◌, List, Bool, true, false, ◌&&◌, ◌||◌, ◌==◌, nat_lt, if◌then◌else◌, Option, Some, None, refl}
use Rattle.std.proofs.Common.{ap, sym, subst}
use Rattle.std.proofs.lemmas.Bool.{eq-eqb, eqb-true, both_ways, or_cases, and_parts}
use Rattle.std.proofs.lemmas.Option.{same_Some}
use Rattle.platforms.specs.Platform.{PlatformLayout}
use Rattle.enclave_table.specs.Enclaves.{EnclaveTable, Live, enclave_at, with_enclave}
use Rattle.measurement.specs.Requests.{parts_of}
use Rattle.enclave_table.specs.Tables.{IsCurrent}
use Rattle.enclave_table.specs.Lives.{Enters, Leaves}
use Rattle.enclave_table.specs.Create.{fresh}
use Rattle.enclave_table.specs.Checks.{state_before}
use Rattle.enclave_table.specs.Lives.{state_after}
use Rattle.measurement.specs.declared.request.Create.{Create}
use Rattle.enclave_table.specs.declared.enclave.Enclave.{Enclave}
use Rattle.enclave_table.specs.declared.enclave.Stage.{Stage}
use Rattle.enclave_table.specs.declared.enclave.Stage.TheVariants.{Fresh, Running, Stopped, Exited}
use Rattle.enclave_table.specs.declared.life.Entering.{Entering}
use Rattle.enclave_table.specs.declared.life.Entering.TheVariants.{Run as FirstRun, Resume}
use Rattle.enclave_table.specs.declared.life.Leaving.{Leaving}
use Rattle.enclave_table.specs.declared.life.Leaving.TheVariants.{Stop, Exit}
use Rattle.sbi_decode.specs.Registers.{RegisterFile}
use Rattle.sbi_decode.specs.declared.world.World.{World}
use Rattle.sbi_decode.specs.declared.world.World.TheVariants.{Host, Enclave as InEnclave}
use Rattle.enclave_table.proofs.Places.{live_above, live_inside, set_same}
use Rattle.sbi_decode.specs.declared.calls.Call.{Call}
use Rattle.sbi_decode.specs.declared.calls.Call.TheVariants as calls
use Rattle.pmp_encoding.specs.declared.pages.PageRange.{PageRange}
use Rattle.monitor_core.specs.declared.answer.Answer.{Answer}
use Rattle.monitor_core.specs.States.{MonitorState, opening_monitor}
use Rattle.monitor_core.specs.Changes.{is_host, with_running, without_mark}
use Rattle.monitor_core.specs.Steps.{DoesCall, DoesEnter, Interrupts}
use Rattle.monitor_core.specs.Worlds.{ArePlaced}
use Rattle.monitor_core.proofs.Currents.{current_other, none_live}
use Rattle.monitor_core.proofs.Held.{held_moved}
use Rattle.monitor_core.proofs.Cases.{both}

-- what one hart's event may do to the table and the worlds: nothing but at one id and on that hart
record Change (s n : MonitorState) (hart id : ℕ) (slot : Option Enclave) (to : World) : Type 0 where
  low : hart < s.table.layout.harts
  above : 1 ≤ id
  table : n.table ≡ with_enclave s.table id slot
  worlds : (h : ℕ) → h < s.table.layout.harts → n.worlds h ≡ (if h == hart then to else s.worlds h)
  free : (h : ℕ) → h < s.table.layout.harts → h ≢ hart → s.worlds h ≢ InEnclave id
  now_current : IsCurrent n.table to
  now_alone : (k : ℕ) → to ≡ InEnclave k → k ≡ id
  now_held : (e : Enclave) → slot ≡ Some e → e.state ≡ Running → to ≡ InEnclave id
  left : (k : ℕ) → s.worlds hart ≡ InEnclave k → k ≡ id
  marks : (h : ℕ) → h < s.table.layout.harts → n.marked h ≡ true → n.worlds h ≡ Host

worlds_changed : (s n : MonitorState) (hart id : ℕ) (slot : Option Enclave) (to : World) → Change s n hart id slot to → ArePlaced s → ArePlaced n
worlds_changed s n hart id slot to c w = record {
  current = λ h low. let low' = under h low in subst (IsCurrent n.table) (sym (c.worlds h low')) (both (h == hart)
      (λ e. subst (λ t. IsCurrent n.table (if t then to else s.worlds h)) (sym e) c.now_current)
      (λ e. subst (λ t. IsCurrent n.table (if t then to else s.worlds h)) (sym e)
      (subst (λ t. IsCurrent t (s.worlds h)) (sym c.table) (current_other s.table id slot (s.worlds h) c.above (c.free h low' (differ h e))
      (w.current h low')))));
  alone = λ h o k low also at there. both (h == hart)
      (λ e. both (o == hart)
      (λ f. eqb-true h hart e ∙ sym (eqb-true o hart f))
      (λ f. let is : k ≡ id = c.now_alone k (sym (here h low e) ∙ at) in
      absurd (c.free o (under o also) (differ o f) (sym (away o also f) ∙ there ∙ ap InEnclave is))))
      (λ e. both (o == hart)
      (λ f. let is : k ≡ id = c.now_alone k (sym (here o also f) ∙ there) in
      absurd (c.free h (under h low) (differ h e) (sym (away h low e) ∙ at ∙ ap InEnclave is)))
      (λ f. w.alone h o k (under h low) (under o also) (sym (away h low e) ∙ at) (sym (away o also f) ∙ there)));
  held = held_moved s.table n.table s.worlds n.worlds hart id slot to (record
      { low = c.low; above = c.above; put = c.table; went = c.worlds; runs = c.now_held; left = c.left }) w.held;
  marked = λ h low on. c.marks h (under h low) on;
}
  where
    under : (h : ℕ) → h < n.table.layout.harts → h < s.table.layout.harts
    under h low = subst (λ t. h < t.layout.harts) c.table low

    differ : (h : ℕ) → (h == hart) ≡ false → h ≢ hart
    differ h e is = both_ways (h == hart) e (eq-eqb h hart is)

    here : (h : ℕ) → h < n.table.layout.harts → (h == hart) ≡ true → n.worlds h ≡ to
    here h low e = c.worlds h (under h low) ∙ ap (λ t. if t then to else s.worlds h) e

    away : (h : ℕ) → h < n.table.layout.harts → (h == hart) ≡ false → n.worlds h ≡ s.worlds h
    away h low e = c.worlds h (under h low) ∙ ap (λ t. if t then to else s.worlds h) e

-- table and worlds are as they were, and no mark is new
pub worlds_stay : (s n : MonitorState) → n.table ≡ s.table → ((h : ℕ) → h < s.table.layout.harts → n.worlds h ≡ s.worlds h)
    → ((h : ℕ) → h < s.table.layout.harts → n.marked h ≡ true → s.marked h ≡ true) → ArePlaced s → ArePlaced n
worlds_stay s n table worlds marks w = record {
  current = λ h low. subst (λ t. IsCurrent t (n.worlds h)) (sym table) (subst (IsCurrent s.table) (sym (worlds h (under h low))) (w.current h (under h low)));
  alone = λ h o k low also at there. w.alone h o k (under h low) (under o also) (sym (worlds h (under h low)) ∙ at) (sym (worlds o (under o also)) ∙ there);
  held = λ k e live runs. let h = w.held k e (subst (λ t. Live t k e) table live) runs in
      (h.0, subst (λ t. h.0 < t.layout.harts) (sym table) h.1, worlds h.0 h.1 ∙ h.2);
  marked = λ h low on. worlds h (under h low) ∙ w.marked h (under h low) (marks h (under h low) on);
}
  where
    under : (h : ℕ) → h < n.table.layout.harts → h < s.table.layout.harts
    under h low = subst (λ t. h < t.layout.harts) table low

-- in a state that is that one
pub worlds_same : (s n : MonitorState) → n ≡ s → ArePlaced s → ArePlaced n
worlds_same s n is w = subst ArePlaced (sym is) w

-- an enclave was made or taken away, which is not Running before or after; the harts in the host's world may be marked
owned : (s n : MonitorState) (hart id : ℕ) (slot : Option Enclave) (harts : ℕ) → hart < s.table.layout.harts → 1 ≤ id → s.worlds hart ≡ Host
    → ((e : Enclave) → Live s.table id e → e.state ≢ Running) → ((e : Enclave) → slot ≡ Some e → e.state ≢ Running)
    → n.table ≡ with_enclave s.table id slot → ((h : ℕ) → h < s.table.layout.harts → n.worlds h ≡ s.worlds h)
    → ((h : ℕ) → h < s.table.layout.harts → n.marked h ≡ (if h == hart then s.marked h else (nat_lt h harts && is_host (s.worlds h) || s.marked h)))
    → ArePlaced s → ArePlaced n
owned s n hart id slot harts low above host before after table worlds marks w = worlds_changed s n hart id slot Host (record {
  low = low;
  above = above;
  table = table;
  worlds = λ h under. worlds h under ∙ both (h == hart)
      (λ e. ap s.worlds (eqb-true h hart e) ∙ host ∙ sym (ap (λ t. if t then Host else s.worlds h) e))
      (λ e. sym (ap (λ t. if t then Host else s.worlds h) e));
  free = λ h under other is. let now : IsCurrent s.table (InEnclave id) = subst (IsCurrent s.table) is (w.current h under) in before now.0 now.1 now.2;
  now_current = tt;
  now_alone = λ k is. let z : Host ≡ InEnclave k = is in absurd cc;
  now_held = λ e put runs. absurd (after e put runs);
  left = λ k is. let z : Host ≡ InEnclave k = sym host ∙ is in absurd cc;
  marks = λ h under on. worlds h under ∙ both (h == hart)
      (λ e. ap s.worlds (eqb-true h hart e) ∙ host)
      (λ e. elim (or_cases (nat_lt h harts && is_host (s.worlds h)) (s.marked h)
      (sym (ap (λ t. if t then s.marked h else (nat_lt h harts && is_host (s.worlds h) || s.marked h)) e) ∙ sym (marks h under) ∙ on)) [
        | inl at ↦ host_is (s.worlds h) (and_parts (nat_lt h harts) (is_host (s.worlds h)) at).1
        | inr was ↦ w.marked h under was
      ]);
}) w
  where
    host_is : (world : World) → is_host world ≡ true → world ≡ Host
    host_is Host e = refl
    host_is (InEnclave k) e = absurd (let z : false ≡ true = e in cc)

-- a hart that is not marked went from the host to an enclave, or back
moved : (s n : MonitorState) (hart id : ℕ) (e : Enclave) (stage : Stage) (to : World) → hart < s.table.layout.harts → Live s.table id e → s.marked hart ≡ false
    → ((h : ℕ) → h < s.table.layout.harts → h ≢ hart → s.worlds h ≢ InEnclave id)
    → n.table ≡ with_enclave s.table id (Some (record e { state = stage }))
    → ((h : ℕ) → h < s.table.layout.harts → n.worlds h ≡ (if h == hart then to else s.worlds h))
    → ((h : ℕ) → h < s.table.layout.harts → n.marked h ≡ s.marked h)
    → IsCurrent n.table to → ((k : ℕ) → to ≡ InEnclave k → k ≡ id) → (stage ≡ Running → to ≡ InEnclave id) → ((k : ℕ) → s.worlds hart ≡ InEnclave k → k ≡ id)
    → ArePlaced s → ArePlaced n
moved s n hart id e stage to low live awake free table worlds marks current alone runs left w = worlds_changed s n hart id
    (Some (record e { state = stage })) to (record {
      low = low;
      above = live_above s.table.enclaves id e live;
      table = table;
      worlds = worlds;
      free = free;
      now_current = current;
      now_alone = alone;
      now_held = λ f put is. let same : record e { state = stage } ≡ f = same_Some (record e { state = stage }) f put in runs (ap (λ g. g.state) same ∙ is);
      left = left;
      marks = λ h under on. both (h == hart)
          (λ is. let z : false ≡ true = sym awake ∙ ap s.marked (sym (eqb-true h hart is)) ∙ sym (marks h under) ∙ on in absurd cc)
          (λ is. worlds h under ∙ ap (λ t. if t then to else s.worlds h) is ∙ w.marked h under (sym (marks h under) ∙ on));
    }) w

-- which harts run the enclave that a hart enters: none
entered_free : (s : MonitorState) (id : ℕ) (world : World) (entering : Entering) (table : EnclaveTable) → ArePlaced s
    → Enters s.table world id (state_before entering) table → (h : ℕ) → h < s.table.layout.harts → s.worlds h ≢ InEnclave id
entered_free s id world entering table w en h low is =
    let now : IsCurrent s.table (InEnclave id) = subst (IsCurrent s.table) is (w.current h low) in
    never entering (sym (en.passes.1.1.0 now.0 now.1) ∙ now.2)
  where
    never : (entering : Entering) → state_before entering ≡ Running → ⊥
    never FirstRun e = let z : Fresh ≡ Running = e in cc
    never Resume e = let z : Stopped ≡ Running = e in cc

entered : (s n : MonitorState) (hart id : ℕ) (entering : Entering) (table : EnclaveTable) → hart < s.table.layout.harts → s.marked hart ≡ false
    → Enters s.table (s.worlds hart) id (state_before entering) table
    → n.table ≡ table → ((h : ℕ) → h < s.table.layout.harts → n.worlds h ≡ (if h == hart then InEnclave id else s.worlds h))
    → ((h : ℕ) → h < s.table.layout.harts → n.marked h ≡ s.marked h) → ArePlaced s → ArePlaced n
entered s n hart id entering table low awake en is worlds marks w =
    let e = en.turned.0 in
    let made : n.table ≡ with_enclave s.table id (Some (record e { state = Running })) = is ∙ en.turned.2 in
    let free = entered_free s id (s.worlds hart) entering table w en in
    let there : enclave_at n.table.enclaves id ≡ Some (record e { state = Running }) = ap (λ t. enclave_at t.enclaves id) made
    ∙ set_same s.table.enclaves id (Some (record e { state = Running })) (live_above s.table.enclaves id e en.turned.1)
    (live_inside s.table.enclaves id e en.turned.1) in
    moved s n hart id e Running (InEnclave id) low en.turned.1 awake (λ h under other. free h under) made worlds marks
    (record e { state = Running }, there, refl)
    (λ k to. let z : id ≡ k = cc in sym z) (λ runs. refl) (λ k at. let z : Host ≡ InEnclave k = sym en.passes.0 ∙ at in absurd cc) w

left_behind : (s n : MonitorState) (hart id : ℕ) (leaving : Leaving) (table : EnclaveTable) → hart < s.table.layout.harts → s.marked hart ≡ false
    → Leaves s.table (s.worlds hart) (state_after leaving) id table
    → n.table ≡ table → ((h : ℕ) → h < s.table.layout.harts → n.worlds h ≡ (if h == hart then Host else s.worlds h))
    → ((h : ℕ) → h < s.table.layout.harts → n.marked h ≡ s.marked h) → ArePlaced s → ArePlaced n
left_behind s n hart id leaving table low awake l is worlds marks w =
    moved s n hart id l.turned.0 (state_after leaving) Host low l.turned.1 awake
    (λ h under other at. other (w.alone h hart id under low at l.left)) (is ∙ l.turned.2) worlds marks tt
    (λ k to. let z : Host ≡ InEnclave k = to in absurd cc) (λ runs. absurd (never leaving runs))
    (λ k at. let z : id ≡ k = same id k (sym l.left ∙ at) in sym z) w
  where
    never : (leaving : Leaving) → state_after leaving ≡ Running → ⊥
    never Stop e = let z : Stopped ≡ Running = e in cc
    never Exit e = let z : Exited ≡ Running = e in cc

    same : (a b : ℕ) → InEnclave a ≡ InEnclave b → a ≡ b
    same a b e = cc

-- table, worlds and marks stayed
refused : (s n m : MonitorState) → n ≡ m → m.table ≡ s.table → m.worlds ≡ s.worlds → m.marked ≡ s.marked → ArePlaced s → ArePlaced n
refused s n m is table worlds marked w =
    worlds_stay s n (ap (λ y. y.table) is ∙ table) (λ h low. ap (λ y. y.worlds h) is ∙ ap (λ f. f h) worlds)
    (λ h low on. sym (ap (λ y. y.marked h) is ∙ ap (λ f. f h) marked) ∙ on) w

enters : (entering : Entering) (s : MonitorState) (hart id : ℕ) (answer : Answer) (cleared : Option PageRange) (n : MonitorState) → hart < s.table.layout.harts
    → s.marked hart ≡ false → DoesEnter entering id s hart answer cleared n → ArePlaced s → ArePlaced n
enters entering s hart id answer cleared n low awake (inr x) w = refused s n _ x.2.state refl refl refl w
enters FirstRun s hart id answer cleared n low awake (inl x) w =
    entered s n hart id FirstRun x.1 low awake x.3 (ap (λ y. y.table) x.4.state) (λ h under. ap (λ y. y.worlds h) x.4.state)
    (λ h under. ap (λ y. y.marked h) x.4.state) w
enters Resume s hart id answer cleared n low awake (inl x) w =
    entered s n hart id Resume x.1 low awake x.3 (ap (λ y. y.table) x.4.state) (λ h under. ap (λ y. y.worlds h) x.4.state)
    (λ h under. ap (λ y. y.marked h) x.4.state) w

pub call_keeps_worlds : (call : Option Call) (digests : Create → List ℕ) (s : MonitorState) (hart : ℕ) (answer : Answer) (cleared : Option PageRange)
    (n : MonitorState) → hart < s.table.layout.harts → s.marked hart ≡ false → DoesCall call digests s hart answer cleared n → ArePlaced s → ArePlaced n
call_keeps_worlds None digests s hart answer cleared n low awake x w = refused s n _ x.state refl refl refl w
call_keeps_worlds (Some (calls.Create base text_pages data_pages shared_base shared_count entry_offset)) digests s hart answer cleared n low awake (inl x) w =
    let asked : Create = record {
      base = base;
      text_pages = text_pages;
      data_pages = data_pages;
      shared_base = shared_base;
      shared_count = shared_count;
      entry_offset = entry_offset;
    } in
    let made = fresh (digests) (parts_of asked) in
    owned s n hart x.0 (Some made) x.1.layout.harts low x.2.next.free.0 x.2.passes.0
    (λ e live runs. let z : None ≡ Some e = sym x.2.next.free.2 ∙ live in absurd cc)
    (λ e put runs. let same = same_Some made e put in let z : Fresh ≡ Running = ap (λ g. g.state) same ∙ runs in absurd cc)
    (ap (λ y. y.table) x.3.state ∙ x.2.added) (λ h under. ap (λ y. y.worlds h) x.3.state) (λ h under. ap (λ y. y.marked h) x.3.state) w
call_keeps_worlds (Some (calls.Create base text_pages data_pages shared_base shared_count entry_offset)) digests s hart answer cleared n low awake
    (inr x) w = refused s n _ x.2.state refl refl refl w
call_keeps_worlds (Some (calls.Destroy id)) digests s hart answer cleared n low awake (inl x) w =
    let g = x.2.passes.1.0 in
    owned s n hart id None x.1.layout.harts low (live_above s.table.enclaves id g.0 g.1) x.2.passes.0
    (λ e live runs. x.2.passes.1.1.0 e live runs)
    (λ e put runs. let z : None ≡ Some e = put in absurd cc)
    (ap (λ y. y.table) x.3.state ∙ x.2.removed) (λ h under. ap (λ y. y.worlds h) x.3.state) (λ h under. ap (λ y. y.marked h) x.3.state) w
call_keeps_worlds (Some (calls.Destroy id)) digests s hart answer cleared n low awake (inr x) w = refused s n _ x.2.state refl refl refl w
call_keeps_worlds (Some (calls.Run id)) digests s hart answer cleared n low awake x w = enters FirstRun s hart id answer cleared n low awake x w
call_keeps_worlds (Some calls.Stop) digests s hart answer cleared n low awake (inl x) w =
    left_behind s n hart x.0 Stop x.1 low awake x.2 (ap (λ y. y.table) x.3.state) (λ h under. ap (λ y. y.worlds h) x.3.state)
    (λ h under. ap (λ y. y.marked h) x.3.state) w
call_keeps_worlds (Some calls.Stop) digests s hart answer cleared n low awake (inr x) w = refused s n _ x.2.state refl refl refl w
call_keeps_worlds (Some (calls.Resume id)) digests s hart answer cleared n low awake x w = enters Resume s hart id answer cleared n low awake x w
call_keeps_worlds (Some (calls.Exit value)) digests s hart answer cleared n low awake (inl x) w =
    left_behind s n hart x.0 Exit x.1 low awake x.2 (ap (λ y. y.table) x.3.state) (λ h under. ap (λ y. y.worlds h) x.3.state)
    (λ h under. ap (λ y. y.marked h) x.3.state) w
call_keeps_worlds (Some (calls.Exit value)) digests s hart answer cleared n low awake (inr x) w = refused s n _ x.2.state refl refl refl w
call_keeps_worlds (Some (calls.Measure id k)) digests s hart answer cleared n low awake (inl x) w = refused s n _ x.2.state refl refl refl w
call_keeps_worlds (Some (calls.Measure id k)) digests s hart answer cleared n low awake (inr x) w = refused s n _ x.2.state refl refl refl w

pub interrupt_keeps_worlds : (world : World) (s : MonitorState) (hart : ℕ) (n : MonitorState) → s.worlds hart ≡ world → hart < s.table.layout.harts
    → s.marked hart ≡ false → Interrupts world s hart n → ArePlaced s → ArePlaced n
interrupt_keeps_worlds Host s hart n at low awake x w = worlds_same s n x w
interrupt_keeps_worlds (InEnclave id) s hart n at low awake x w =
    left_behind s n hart id Stop x.0 low awake (subst (λ v. Leaves s.table v Stopped id x.0) (sym at) x.1) (ap (λ y. y.table) x.2)
    (λ h under. ap (λ y. y.worlds h) x.2) (λ h under. ap (λ y. y.marked h) x.2) w

-- a mark is taken away
pub waking_keeps_worlds : (s : MonitorState) (hart : ℕ) → ArePlaced s → ArePlaced (without_mark s hart)
waking_keeps_worlds s hart w = worlds_stay s (without_mark s hart) refl (λ h under. refl) (λ h under on. was (h == hart) (s.marked h) on) w
  where
    was : (t m : Bool) → (if t then false else m) ≡ true → m ≡ true
    was true m e = absurd (let z : false ≡ true = e in cc)
    was false m e = e

-- registers are put
pub putting_keeps_worlds : (s : MonitorState) (hart : ℕ) (file : RegisterFile) → ArePlaced s → ArePlaced (with_running s hart file)
putting_keeps_worlds s hart file w = refused s (with_running s hart file) (with_running s hart file) refl refl refl refl w

-- so it is at boot
pub opened : (layout : PlatformLayout) → ArePlaced (opening_monitor layout)
opened layout = record {
  current = λ h low. tt;
  alone = λ h o k low also at there. let z : Host ≡ InEnclave k = at in absurd cc;
  held = λ k e live runs. absurd (none_live layout k e live);
  marked = λ h low on. refl;
}
