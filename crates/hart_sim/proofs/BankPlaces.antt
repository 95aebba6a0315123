-- The bank of each hart, by the hart's place.
use Rattle.std.proofs.Common.{◌≡◌, ◌≢◌, ◌∙◌, inl, inr, ℕ, zero, suc, ◌<◌, ◌==◌, true, false, List, [], ◌∷◌, length, Option, Some, slice_get, slice_set}
use Rattle.std.proofs.Common.{None, slice_index_or, refl, ap, sym, subst, arith}
use Rattle.std.proofs.lemmas.Bool.{eq-eqb, eqb-true, both_ways}
use Rattle.std.proofs.lemmas.Option.{same_Some}
use Rattle.pmp_encoding.specs.declared.bank.Bank.{Bank}
use Rattle.pmp_encoding.specs.declared.limit.Limit.{Limit}
use Rattle.pmp_encoding.specs.declared.perm.Perm.{Perm}
use Rattle.pmp_encoding.specs.declared.region.Entry.{Entry}
use Rattle.pmp_encoding.specs.Banks.{HasList}
use Rattle.pmp_encoding.specs.Limits.{limit_number}
use Rattle.sbi_decode.specs.declared.world.World.{World}
use Rattle.hart_sim.specs.Parts.{AreHarts, bank_at}
use Rattle.permission_map.specs.Views.{SameView}
use Rattle.std.specs.Prelude.{option_map}
use Rattle.context_switch.specs.declared.hart.Hart.{Hart}
use Rattle.context_switch.specs.Harts.{bank_of}
use Rattle.platforms.specs.Platform.{IsLayout}
use Rattle.enclave_table.specs.Tables.{Kept}
use Rattle.enclave_table.proofs.SameViews.{fewest_same}
use Rattle.monitor_core.proofs.Cases.{both}
use Rattle.hart_sim.specs.declared.machine.Machine.{Machine}
use Rattle.hart_sim.specs.Banks.{LoadsFewest, AreBanksRight, MeetsList}
use Rattle.hart_sim.specs.Machines.{state_of, bank_on}
use Rattle.hart_sim.specs.States.{MachineState, view_on}

-- what is read at a place that there is
pub at_place : (harts : List Hart) (n : ℕ) → n < length harts → (hart : Hart) × (slice_get harts n ≡ Some hart)
at_place [] n low = absurd (omega (arith, low))
at_place (hart ∷ harts) zero low = (hart, refl)
at_place (hart ∷ harts) (suc n) low = at_place harts n (omega (arith, low))

pub read_at : (harts : List Hart) (n : ℕ) (other : Hart) → n < length harts → slice_get harts n ≡ Some (slice_index_or harts n other)
read_at [] n other low = absurd (omega (arith, low))
read_at (hart ∷ harts) zero other low = refl
read_at (hart ∷ harts) (suc n) other low = read_at harts n other (omega (arith, low))

-- where one is put
pub put_here : (harts : List Hart) (n : ℕ) (was hart : Hart) → slice_get harts n ≡ Some was → slice_get (slice_set harts n hart) n ≡ Some hart
put_here [] n was hart at = absurd (let h : None ≡ Some was = at in cc)
put_here (first ∷ harts) zero was hart at = refl
put_here (first ∷ harts) (suc n) was hart at = put_here harts n was hart at

pub put_there : (harts : List Hart) (n i : ℕ) (hart : Hart) → i ≢ n → slice_get (slice_set harts n hart) i ≡ slice_get harts i
put_there [] n i hart other = refl
put_there (first ∷ harts) zero zero hart other = absurd (other refl)
put_there (first ∷ harts) zero (suc i) hart other = refl
put_there (first ∷ harts) (suc n) zero hart other = refl
put_there (first ∷ harts) (suc n) (suc i) hart other = put_there harts n i hart (λ e. other (ap suc e))

pub put_length : (harts : List Hart) (n : ℕ) (hart : Hart) → length (slice_set harts n hart) ≡ length harts
put_length [] n hart = refl
put_length (first ∷ harts) zero hart = refl
put_length (first ∷ harts) (suc n) hart = ap suc (put_length harts n hart)

-- the bank of a hart has the limit of the platform
pub bank_limited : (harts : List Hart) (worlds : ℕ → World) (limit : Limit) (n : ℕ) (bank : Bank) → AreHarts harts worlds limit → n < 4
    → bank_at harts n ≡ Some bank → limit_number bank.limit ≡ limit_number limit
bank_limited harts worlds limit n bank are low at =
    let h = at_place harts n (omega (arith, are.four, low)) in
    let same : bank_of h.0 ≡ bank = same_Some (bank_of h.0) bank (sym (ap (option_map bank_of) h.1) ∙ at) in
    ap (λ b. limit_number b.limit) (sym same) ∙ (are.each n h.0 h.1).limited

-- a hart of the platform has one
pub some_bank : (m : Machine) (hart : ℕ) → IsLayout (state_of m).table.layout → hart < (state_of m).table.layout.harts
    → (bank : Bank) × (bank_on m hart ≡ Some bank)
unfolding state_of bank_on
some_bank m hart rules low =
    let there = at_place m.parts.harts hart (omega (arith, low, rules.four_harts, m.fit.four)) in (bank_of there.0, ap (option_map bank_of) there.1)

-- what is loaded for a view is loaded for the same one
pub loads_same : (bank : Bank) (view other : ℕ → Perm) → SameView view other → LoadsFewest bank view → LoadsFewest bank other
loads_same bank view other same l = record {
  list = l.list;
  loaded = l.loaded;
  fewest = fewest_same view other l.list same l.fewest;
  exact = l.exact;
}

-- the banks are right where that of one hart is, and each other one that is not marked has the same view as before
pub banks_after : (s new : MachineState) (old now : ℕ → Option Bank) (hart : ℕ) → new.table.layout.harts ≡ s.table.layout.harts
    → (new.marked hart ≡ false → (bank : Bank) × (now hart ≡ Some bank) × LoadsFewest bank (view_on new hart))
    → ((other : ℕ) → other ≢ hart → now other ≡ old other)
    → ((i : ℕ) → i ≢ hart → i < s.table.layout.harts → new.marked i ≡ false → (s.marked i ≡ false) × SameView (view_on s i) (view_on new i))
    → AreBanksRight s old → AreBanksRight new now
banks_after s new old now hart harts here others stay right = λ i b low off has. both (i == hart)
    (λ e.
    let is : i ≡ hart = eqb-true i hart e in
    let there = here (ap new.marked (sym is) ∙ off) in
    let same : b ≡ there.0 = same_Some b there.0 (sym has ∙ ap now is ∙ there.1) in
    subst (λ k. LoadsFewest b (view_on new k)) (sym is) (subst (λ x. LoadsFewest x (view_on new hart)) (sym same) there.2))
    (λ e.
    let other : i ≢ hart = λ is. both_ways (i == hart) e (eq-eqb i hart is) in
    let under : i < s.table.layout.harts = subst (λ n. i < n) harts low in
    let was = stay i other under off in
    loads_same b (view_on s i) (view_on new i) was.1 (right i b under was.0 (sym (others i other) ∙ has)))

-- once a marked hart has loaded the host's entries, the list that an event meets is loaded
pub met : (s : MachineState) (kept : Kept) (old mid : ℕ → Option Bank) (hart : ℕ) (list : List Entry) → MeetsList s kept old hart list
    → (s.marked hart ≡ true → (bank : Bank) × (mid hart ≡ Some bank) × HasList bank kept.host_list)
    → (s.marked hart ≡ false → mid hart ≡ old hart)
    → (bank : Bank) × (mid hart ≡ Some bank) × HasList bank list
met s kept old mid hart list (inl m) woken asleep = let w = woken m.0 in (w.0, w.1, subst (HasList w.0) (sym m.1) w.2)
met s kept old mid hart list (inr m) woken asleep = (m.1, asleep m.0 ∙ m.2, m.3)
