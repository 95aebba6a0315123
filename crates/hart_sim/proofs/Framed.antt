-- What parts of an event keep, one after another.
use Rattle.std.proofs.Common.{◌≡◌, ◌≢◌, ◌∙◌, inl, inr, ℕ, ◌<◌, false, Bool, true, Option, Some, refl, ap, ap₂, sym, subst, arith}
use Rattle.std.specs.Prelude.{option_map}
use Rattle.std.proofs.lemmas.Bool.{both_ways}
use Rattle.pmp_encoding.specs.Banks.{IsBankOf}
use Rattle.pmp_encoding.specs.declared.bank.Bank.{Bank}
use Rattle.permission_map.specs.Views.{SameView}
use Rattle.monitor_core.specs.Frames.{LoadsAnew}
use Rattle.context_switch.specs.Harts.{bank_of}
use Rattle.enclave_table.specs.Tables.{Kept}
use Rattle.monitor_core.specs.Cores.{core_kept, list_of}
use Rattle.hart_sim.specs.declared.parts.MachineParts.{MachineParts}
use Rattle.hart_sim.specs.Banks.{AreBanksRight, IsOwnBank, LoadsFewest}
use Rattle.hart_sim.specs.Frames.{IsOn, KeepsFrame}
use Rattle.hart_sim.specs.Parts.{FitTogether, state_in, bank_in}
use Rattle.hart_sim.specs.States.{MachineState, core_of, view_of, view_on}
use Rattle.monitor_core.proofs.Others.{KeepsOthers}
use Rattle.hart_sim.proofs.BankPlaces.{at_place, loads_same, banks_after}

-- where table and world stay, so does the view
same_view : (s new : MachineState) (i : ℕ) → new.table ≡ s.table → new.worlds i ≡ s.worlds i → SameView (view_on s i) (view_on new i)
same_view s new i table world = λ page small. ap₂ (λ t w. view_of t w page) (sym table) (sym world)

-- banks that are right stay so where they, table, worlds and marks stay
right_still : (s new : MachineState) (old now : ℕ → Option Bank) → new.table ≡ s.table → ((i : ℕ) → new.worlds i ≡ s.worlds i)
    → ((i : ℕ) → new.marked i ≡ s.marked i) → ((i : ℕ) → now i ≡ old i) → AreBanksRight s old → AreBanksRight new now
right_still s new old now table worlds marks banks right = λ i b low off has.
    loads_same b (view_on s i) (view_on new i) (same_view s new i table (worlds i))
    (right i b (subst (λ t. i < t.layout.harts) table low) (sym (marks i) ∙ off) (sym (banks i) ∙ has))

-- so does a bank that the entries of its world make
own_stays : (s new : MachineState) (kept now : Kept) (banks after : ℕ → Option Bank) (hart : ℕ) → new.worlds hart ≡ s.worlds hart → now ≡ kept
    → after hart ≡ banks hart → IsOwnBank s kept banks hart → IsOwnBank new now after hart
own_stays s new kept now banks after hart world lists bank own =
    (own.0, bank ∙ own.1, subst (λ l. IsBankOf own.0 own.0.limit l) (sym (ap₂ list_of lists world)) own.2)

-- banks, table, worlds and marks stay
pub frame_still : (old new : MachineParts) (hart : ℕ) → FitTogether new → (state_in old).marked hart ≡ false
    → (state_in new).table ≡ (state_in old).table
    → ((i : ℕ) → (state_in new).worlds i ≡ (state_in old).worlds i) → ((i : ℕ) → (state_in new).marked i ≡ (state_in old).marked i)
    → core_kept new.core ≡ core_kept old.core → ((i : ℕ) → bank_in new i ≡ bank_in old i) → KeepsFrame old new hart
frame_still old new hart fit awake table worlds marks kept banks = record {
  layout = ap (λ t. t.layout) table;
  fit = fit;
  banks = λ right. right_still (state_in old) (state_in new) (bank_in old) (bank_in new) table worlds marks banks right;
  others = λ i other. banks i;
  stays = λ off same world. banks hart;
  loads = inr (record { awake = awake; table = table; world = worlds hart; bank = banks hart });
  lists = λ same. kept;
}

-- after something that leaves table and world of the hart, and does not mark it
pub frame_after : (old mid new : MachineParts) (hart : ℕ) → (state_in mid).table ≡ (state_in old).table
    → (state_in mid).worlds hart ≡ (state_in old).worlds hart → core_kept mid.core ≡ core_kept old.core
    → ((state_in old).marked hart ≡ false → (state_in mid).marked hart ≡ false) → KeepsFrame old mid hart → KeepsFrame mid new hart → KeepsFrame old new hart
frame_after old mid new hart same stood kept awake x y = record {
  layout = y.layout ∙ x.layout;
  fit = y.fit;
  banks = λ right. y.banks (x.banks right);
  others = λ i other. y.others i other ∙ x.others i other;
  stays = λ off table world. y.stays (awake off) (table ∙ sym same) (world ∙ sym stood) ∙ x.stays off same stood;
  loads = elim y.loads [
    | inl own ↦ inl own
    | inr still ↦ elim x.loads [
      | inl own ↦ inl (own_stays (state_in mid) (state_in new) (core_kept mid.core) (core_kept new.core) (bank_in mid) (bank_in new) hart
          still.world (y.lists still.table) still.bank own)
      | inr none ↦ inr (record {
        awake = none.awake;
        table = still.table ∙ none.table;
        world = still.world ∙ none.world;
        bank = still.bank ∙ none.bank;
      })
    ]
  ];
  lists = λ table. y.lists (table ∙ sym same) ∙ kept;
}

-- the hart whose mark was taken away has the fewest entries, and each other hart what it had
pub frame_woken : (old new : MachineParts) (hart : ℕ) → (state_in old).marked hart ≡ true → FitTogether new
    → (state_in new).table ≡ (state_in old).table → ((i : ℕ) → (state_in new).worlds i ≡ (state_in old).worlds i)
    → ((i : ℕ) → i ≢ hart → (state_in new).marked i ≡ (state_in old).marked i)
    → core_kept new.core ≡ core_kept old.core → ((other : ℕ) → other ≢ hart → bank_in new other ≡ bank_in old other)
    → (bank : Bank) × (bank_in new hart ≡ Some bank) × LoadsFewest bank (view_on (state_in old) hart)
    → IsOwnBank (state_in new) (core_kept new.core) (bank_in new) hart → KeepsFrame old new hart
frame_woken old new hart was fit table worlds marks kept others fewest own = record {
  layout = ap (λ t. t.layout) table;
  fit = fit;
  banks = λ right. banks_after (state_in old) (state_in new) (bank_in old) (bank_in new) hart (ap (λ t. t.layout.harts) table)
      (λ off. (fewest.0, fewest.1, loads_same fewest.0 (view_on (state_in old) hart) (view_on (state_in new) hart) (same hart) fewest.2)) others
      (λ i other low off. (sym (marks i other) ∙ off, same i)) right;
  others = others;
  stays = λ off table world. absurd (both_ways ((state_in old).marked hart) off was);
  loads = inl own;
  lists = λ table. kept;
}
  where
    same : (i : ℕ) → SameView (view_on (state_in old) i) (view_on (state_in new) i)
    same i = same_view (state_in old) (state_in new) i table (worlds i)

-- after the monitor served a call or an interrupt on a hart, and entries were loaded there where it asked for that
pub frame_served : (old new : MachineParts) (hart : ℕ) (asked : Bool) → IsOn old hart → hart < 4 → (state_in old).marked hart ≡ false
    → KeepsOthers (core_of (state_in old)) (core_of (state_in new)) hart
    → LoadsAnew asked (core_of (state_in old)) (core_of (state_in new)) hart → (state_in new).table.layout ≡ (state_in old).table.layout
    → FitTogether new
    → ((state_in new).table ≡ (state_in old).table → core_kept new.core ≡ core_kept old.core)
    → ((other : ℕ) → other ≢ hart → bank_in new other ≡ bank_in old other)
    → (asked ≡ true → (bank : Bank) × (bank_in new hart ≡ Some bank) × LoadsFewest bank (view_on (state_in new) hart))
    → (asked ≡ true → IsOwnBank (state_in new) (core_kept new.core) (bank_in new) hart)
    → (asked ≡ false → bank_in new hart ≡ bank_in old hart) → KeepsFrame old new hart
frame_served old new hart true on few awake keeps loads layout fit lists others fewest own calm = record {
  layout = layout;
  fit = fit;
  banks = λ right. banks_after (state_in old) (state_in new) (bank_in old) (bank_in new) hart (ap (λ l. l.harts) layout) (λ off. fewest refl) others
      (λ i other low off. (keeps.awake i other off, keeps.views i other low off)) right;
  others = others;
  stays = λ off table world. absurd (loads table world);
  loads = inl (own refl);
  lists = lists;
}
frame_served old new hart false on few awake keeps loads layout fit lists others fewest own calm = record {
  layout = layout;
  fit = fit;
  banks = λ right. banks_after (state_in old) (state_in new) (bank_in old) (bank_in new) hart (ap (λ l. l.harts) layout)
      (λ off.
      let h = at_place old.harts hart (omega (arith, on.fit.four, few)) in
      let at : bank_in old hart ≡ Some (bank_of h.0) = ap (option_map bank_of) h.1 in (
        bank_of h.0,
        calm refl ∙ at,
        loads_same (bank_of h.0) (view_on (state_in old) hart) (view_on (state_in new) hart)
            (same_view (state_in old) (state_in new) hart loads.0 loads.1) (right hart (bank_of h.0) on.known awake at),
      ))
      others (λ i other low off. (keeps.awake i other off, keeps.views i other low off)) right;
  others = others;
  stays = λ off table world. calm refl;
  loads = inr (record { awake = awake; table = loads.0; world = loads.1; bank = calm refl });
  lists = lists;
}
