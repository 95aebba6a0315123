-- The parts together, after the table changed at one id, or a hart went from one world to another.
use Rattle.std.proofs.Common.{◌≡◌, ◌≢◌, ◌∙◌, option_map, ℕ, ◌+◌, ◌<◌, ◌≤◌, List, Bool, true, false, ◌==◌, if◌then◌else◌, Option, Some, None, refl, ap, sym}
use Rattle.std.proofs.Common.{subst, arith}
use Rattle.std.proofs.lemmas.Bool.{eq-eqb, eqb-true, both_ways}
use Rattle.std.proofs.lemmas.Option.{same_Some}
use Rattle.enclave_table.specs.Enclaves.{EnclaveTable, Live, enclave_at, with_enclave}
use Rattle.enclave_table.specs.Views.{enclave_view}
use Rattle.enclave_table.specs.Tables.{Kept, IsCurrent}
use Rattle.enclave_table.specs.declared.enclave.Enclave.{Enclave}
use Rattle.enclave_table.specs.declared.enclave.Stage.{Stage}
use Rattle.enclave_table.specs.declared.enclave.Stage.TheVariants.{Fresh, Running, Stopped, Exited}
use Rattle.enclave_table.specs.declared.life.Entering.{Entering}
use Rattle.enclave_table.specs.declared.life.Entering.TheVariants.{Run, Resume}
use Rattle.enclave_table.specs.declared.life.Leaving.{Leaving}
use Rattle.enclave_table.specs.declared.life.Leaving.TheVariants.{Stop, Exit}
use Rattle.enclave_table.specs.Checks.{state_before}
use Rattle.enclave_table.specs.Lives.{Enters, Leaves, Turns, state_after}
use Rattle.enclave_table.specs.Create.{fresh}
use Rattle.enclave_table.specs.Destroy.{Destroys}
use Rattle.measurement.specs.declared.request.Create.{Create}
use Rattle.pmp_encoding.specs.declared.pages.PageRange.{PageRange}
use Rattle.sbi_decode.specs.declared.world.World.{World}
use Rattle.sbi_decode.specs.declared.world.World.TheVariants.{Host, Enclave as InEnclave}
use Rattle.enclave_table.proofs.Places.{live_above, live_inside, set_same}
use Rattle.enclave_table.proofs.ShortNames.{view_in}
use Rattle.monitor_core.specs.States.{view_of}
use Rattle.monitor_core.specs.Changes.{is_host}
use Rattle.monitor_core.specs.Parts.{world_in, mark_in, is_current, HoldsTogether}
use Rattle.monitor_core.proofs.Cases.{both}
use Rattle.monitor_core.proofs.Currents.{current_from, current_to, current_other}
use Rattle.monitor_core.proofs.Held.{held_from, held_moved, held_placed, held_to}

-- the view of an enclave that is live
pub live_view : (table : EnclaveTable) (id : ℕ) (e : Enclave) → Live table id e → view_of table (InEnclave id) ≡ enclave_view e.parts
live_view table id e live = ap (λ o page. view_in o page) live

-- a hart went from one world to another while an enclave was put into another state
pub record Turning (kept now : Kept) (worlds after : List World) (marks : List Bool) (hart id : ℕ) (to : World) : Type 0 where
  pub stage : Stage
  pub turned : Turns kept.table id stage now.table
  pub low : hart < kept.table.layout.harts
  pub went : (i : ℕ) → world_in after i ≡ (if i == hart then to else world_in worlds i)
  pub free : (i : ℕ) → i ≢ hart → world_in worlds i ≢ InEnclave id
  pub current : IsCurrent now.table to
  pub only : (k : ℕ) → to ≡ InEnclave k → k ≡ id
  pub awake : mark_in marks hart ≡ true → is_host to ≡ true
  pub runs : stage ≡ Running → to ≡ InEnclave id
  pub left : (k : ℕ) → world_in worlds hart ≡ InEnclave k → k ≡ id

pub whole_turned : (kept now : Kept) (worlds after : List World) (marks : List Bool) (hart id : ℕ) (to : World) → Turning kept now worlds after marks hart id to
    → HoldsTogether kept worlds marks → HoldsTogether now after marks
whole_turned kept now worlds after marks hart id to t w = record {
  few = subst (λ l. l.harts ≤ 4) (sym layout) w.few;
  current = λ i. both (i == hart)
      (λ e. ap (is_current now.table) (here i e) ∙ current_to now.table to t.current)
      (λ e. ap (is_current now.table) (away i e) ∙ current_to now.table (world_in worlds i) (subst (λ x. IsCurrent x (world_in worlds i)) (sym t.turned.2)
      (current_other kept.table id (Some (record t.turned.0 { state = t.stage })) (world_in worlds i) (live_above kept.table.enclaves id t.turned.0 t.turned.1)
      (t.free i (differ i e)) (current_from kept.table (world_in worlds i) (w.current i)))));
  alone = λ i j k at there. both (i == hart)
      (λ e. both (j == hart)
      (λ f. eqb-true i hart e ∙ sym (eqb-true j hart f))
      (λ f. absurd (t.free j (differ j f) (sym (away j f) ∙ there ∙ ap InEnclave (t.only k (sym (here i e) ∙ at))))))
      (λ e. both (j == hart)
      (λ f. absurd (t.free i (differ i e) (sym (away i e) ∙ at ∙ ap InEnclave (t.only k (sym (here j f) ∙ there)))))
      (λ f. w.alone i j k (sym (away i e) ∙ at) (sym (away j f) ∙ there)));
  held = held_to now.table (world_in after) (held_moved kept.table now.table (world_in worlds) (world_in after) hart id
      (Some (record t.turned.0 { state = t.stage })) to
      (record {
        low = t.low;
        above = live_above kept.table.enclaves id t.turned.0 t.turned.1;
        put = t.turned.2;
        went = λ h low. t.went h;
        runs = λ e put is. let same : record t.turned.0 { state = t.stage } ≡ e = same_Some (record t.turned.0 { state = t.stage }) e put in t.runs
            (ap (λ g. g.state) same ∙ is);
        left = t.left;
      })
      (held_from kept.table (world_in worlds) w.held));
  idle = λ i past. both (i == hart)
      (λ e. let is : i ≡ hart = eqb-true i hart e in let p : kept.table.layout.harts ≤ i = subst (λ l. l.harts ≤ i) layout past in absurd
      (omega (arith, is, p, t.low)))
      (λ e. ap is_host (away i e) ∙ w.idle i (subst (λ l. l.harts ≤ i) layout past));
  hosted = λ i on. both (i == hart)
      (λ e. ap is_host (here i e) ∙ t.awake (ap (mark_in marks) (sym (eqb-true i hart e)) ∙ on))
      (λ e. ap is_host (away i e) ∙ w.hosted i on);
}
  where
    layout : now.table.layout ≡ kept.table.layout
    layout = ap (λ x. x.layout) t.turned.2

    differ : (i : ℕ) → (i == hart) ≡ false → i ≢ hart
    differ i e is = both_ways (i == hart) e (eq-eqb i hart is)

    here : (i : ℕ) → (i == hart) ≡ true → world_in after i ≡ to
    here i e = t.went i ∙ ap (λ b. if b then to else world_in worlds i) e

    away : (i : ℕ) → (i == hart) ≡ false → world_in after i ≡ world_in worlds i
    away i e = t.went i ∙ ap (λ b. if b then to else world_in worlds i) e

-- an enclave that is entered runs on no hart
pub not_there : (kept : Kept) (worlds : List World) (marks : List Bool) (world : World) (id : ℕ) (entering : Entering) (table : EnclaveTable)
    → HoldsTogether kept worlds marks → Enters kept.table world id (state_before entering) table → (i : ℕ) → world_in worlds i ≢ InEnclave id
not_there kept worlds marks world id entering table w en i is =
    let now : IsCurrent kept.table (InEnclave id) = subst (IsCurrent kept.table) is (current_from kept.table (world_in worlds i) (w.current i)) in
    never entering (sym (en.passes.1.1.0 now.0 now.1) ∙ now.2)
  where
    never : (entering : Entering) → state_before entering ≡ Running → ⊥
    never Run e = let h : Fresh ≡ Running = e in cc
    never Resume e = let h : Stopped ≡ Running = e in cc

pub same_id : (a b : ℕ) → InEnclave a ≡ InEnclave b → b ≡ a
same_id a b e = let z : a ≡ b = cc in sym z

-- an enclave is entered
pub entering_turns : (kept now : Kept) (worlds after : List World) (marks : List Bool) (hart id : ℕ) (world : World) (entering : Entering)
    → HoldsTogether kept worlds marks → world ≡ world_in worlds hart → Enters kept.table world id (state_before entering) now.table
    → hart < kept.table.layout.harts
    → mark_in marks hart ≡ false → ((i : ℕ) → world_in after i ≡ (if i == hart then InEnclave id else world_in worlds i))
    → Turning kept now worlds after marks hart id (InEnclave id)
entering_turns kept now worlds after marks hart id world entering w there en low off went =
    let e = en.turned.0 in
    let live = en.turned.1 in
    record {
      stage = Running;
      turned = en.turned;
      low = low;
      went = went;
      free = λ i other. not_there kept worlds marks world id entering now.table w en i;
      current = (
        record e { state = Running },
        ap (λ t. enclave_at t.enclaves id) en.turned.2
            ∙ set_same kept.table.enclaves id (Some (record e { state = Running })) (live_above kept.table.enclaves id e live)
            (live_inside kept.table.enclaves id e live),
        refl,
      );
      only = λ k is. same_id id k is;
      awake = λ on. let z : false ≡ true = sym off ∙ on in absurd cc;
      runs = λ is. refl;
      left = λ k is. let z : Host ≡ InEnclave k = sym en.passes.0 ∙ there ∙ is in absurd cc;
    }

-- an enclave is left
pub leaving_turns : (kept now : Kept) (worlds after : List World) (marks : List Bool) (hart id : ℕ) (leaving : Leaving) → HoldsTogether kept worlds marks
    → Leaves kept.table (world_in worlds hart) (state_after leaving) id now.table → hart < kept.table.layout.harts
    → ((i : ℕ) → world_in after i ≡ (if i == hart then Host else world_in worlds i)) → Turning kept now worlds after marks hart id Host
leaving_turns kept now worlds after marks hart id leaving w x low went = record {
  stage = state_after leaving;
  turned = x.turned;
  low = low;
  went = went;
  free = λ i other is. other (w.alone i hart id is x.left);
  current = tt;
  only = λ k is. let z : Host ≡ InEnclave k = is in absurd cc;
  awake = λ on. refl;
  runs = λ is. absurd (never leaving is);
  left = λ k is. same_id id k (sym x.left ∙ is);
}
  where
    never : (leaving : Leaving) → state_after leaving ≡ Running → ⊥
    never Stop e = let z : Stopped ≡ Running = e in cc
    never Exit e = let z : Exited ≡ Running = e in cc

-- where it is entered
pub entry_is : (table now : EnclaveTable) (id pc : ℕ) (stage : Stage) (t : Turns table id stage now)
    → Some pc ≡ option_map (λ (e : Enclave). e.parts.base + e.parts.entry_offset) (enclave_at now.enclaves id) → pc ≡ t.0.parts.base + t.0.parts.entry_offset
entry_is table now id pc stage t at =
    let e = t.0 in
    let there : enclave_at now.enclaves id ≡ Some (record e { state = stage }) =
    ap (λ x. enclave_at x.enclaves id) t.2 ∙ set_same table.enclaves id (Some (record e { state = stage })) (live_above table.enclaves id e t.1)
    (live_inside table.enclaves id e t.1) in
    same_Some pc (e.parts.base + e.parts.entry_offset) (at ∙ ap (option_map (λ (e : Enclave). e.parts.base + e.parts.entry_offset)) there)

-- an id that is free runs on no hart
pub free_runs_nowhere : (kept : Kept) (worlds : List World) (marks : List Bool) (id : ℕ) → HoldsTogether kept worlds marks
    → enclave_at kept.table.enclaves id ≡ None → (i : ℕ) → world_in worlds i ≢ InEnclave id
free_runs_nowhere kept worlds marks id w free i is =
    let now : IsCurrent kept.table (InEnclave id) = subst (IsCurrent kept.table) is (current_from kept.table (world_in worlds i) (w.current i)) in
    let z : None ≡ Some now.0 = sym free ∙ now.1 in absurd cc

-- nor one that is destroyed
pub gone_runs_nowhere : (kept : Kept) (worlds : List World) (marks : List Bool) (world : World) (id : ℕ) (range : PageRange) (table : EnclaveTable)
    → HoldsTogether kept worlds marks → Destroys kept.table world id range table → (i : ℕ) → world_in worlds i ≢ InEnclave id
gone_runs_nowhere kept worlds marks world id range table w d i is =
    let now : IsCurrent kept.table (InEnclave id) = subst (IsCurrent kept.table) is (current_from kept.table (world_in worlds i) (w.current i)) in
    d.passes.1.1.0 now.0 now.1 now.2

-- an enclave that is made is not Running, and none is where one was
pub made_rests : (digests : Create → List ℕ) (parts : Create) (e : Enclave) → ◌≡◌ {A = Option Enclave} (Some (fresh digests parts)) (Some e) → e.state ≢ Running
made_rests digests parts e put runs =
    let same = same_Some (fresh digests parts) e put in
    let z : Fresh ≡ Running = ap (λ g. g.state) same ∙ runs in cc

pub none_rests : (e : Enclave) → None ≡ Some e → e.state ≢ Running
none_rests e put runs = cc

-- the parts belong together where one id changed that runs on no hart
pub whole_placed : (kept now : Kept) (worlds : List World) (marks : List Bool) (id : ℕ) (slot : Option Enclave) → HoldsTogether kept worlds marks → 1 ≤ id
    → ((i : ℕ) → world_in worlds i ≢ InEnclave id) → ((e : Enclave) → slot ≡ Some e → e.state ≢ Running) → now.table ≡ with_enclave kept.table id slot
    → HoldsTogether now worlds marks
whole_placed kept now worlds marks id slot w above nowhere stays is = record {
  few = subst (λ t. t.layout.harts ≤ 4) (sym is) w.few;
  current = λ i. current_to now.table (world_in worlds i) (subst (λ t. IsCurrent t (world_in worlds i)) (sym is)
      (current_other kept.table id slot (world_in worlds i) above (nowhere i) (current_from kept.table (world_in worlds i) (w.current i))));
  alone = w.alone;
  held = held_to now.table (world_in worlds) (held_placed kept.table now.table (world_in worlds) id slot above is stays
      (held_from kept.table (world_in worlds) w.held));
  idle = λ i past. w.idle i (subst (λ t. t.layout.harts ≤ i) is past);
  hosted = w.hosted;
}

-- the parts belong together where no mark is on a hart that is not in the host's world
pub whole_marked : (kept : Kept) (worlds : List World) (marks after : List Bool) → HoldsTogether kept worlds marks
    → ((i : ℕ) → mark_in after i ≡ true → is_host (world_in worlds i) ≡ true) → HoldsTogether kept worlds after
whole_marked kept worlds marks after w hosted = record { few = w.few; current = w.current; alone = w.alone; held = w.held; idle = w.idle; hosted = hosted }
