-- What C learns of a plan or of a refusal, and that it learns nothing else.
use Rattle.std.proofs.Common.{◌≡◌, ◌∙◌, ◌⊎◌, ◌^◌, ◌<◌, ℕ, List, [], inl, inr, length, refl, sym, subst, ap, pos}
use Rattle.std.proofs.lemmas.Int.{to_z-of_z}
use lib.Signed.{mag}
use Rattle.std.specs.Prelude.{ℤ}
use mir.Val.{to_z, of_z}
use mir.Syntax.{w64}
use Rattle.pmp_encoding.specs.declared.region.Entry.{Entry}
use Rattle.permission_map.specs.declared.runs.Run.{Run}
use Rattle.permission_map.specs.Runs.{view_of_runs}
use Rattle.pmp_match.specs.Meaning.{IsFewest, Needs}
use Rattle.pmp_match.proofs.Meant.{needs_one}
use Rattle.planner_for_c.specs.declared.settings.Setting.{Setting as SettingOfC}
use Rattle.planner_for_c.specs.declared.settings.SettingFault.{SettingFault}
use Rattle.planner_for_c.specs.declared.settings.SettingFault.TheVariants.{UnalignedBase, UnalignedSize, UnknownPerm, PastEnd, TooManyRanges}
use Rattle.planner_for_c.specs.declared.settings.NoMap.{NoMap}
use Rattle.planner_for_c.specs.declared.settings.NoMap.TheVariants.{Setting, Memory}
use Rattle.planner_for_c.specs.declared.registers.Registers.{Registers}
use Rattle.planner_for_c.specs.Codes.{fault_code, no_memory, place_of, refusal_code}
use Rattle.planner_for_c.specs.Plans.{IsNumberOf, IsPlanOf, IsPlanned, no_number, number_without_memory, refused, memory}
use Rattle.planner_for_c.specs.Settings.{FaultIn, LeadTo}
use Rattle.planner_for_c.proofs.InTurn.{no_fault, one_fault, one_map}

-- a number of entries comes to C as it is, and so does the code of a refusal
pub number_crosses : (z : ℤ) (m n : ℕ) → z ≡ pos m → m ≡ n → mag z < 2 ^ 63 → to_z w64 (of_z w64 z) ≡ pos n
number_crosses z m n is same small = to_z-of_z w64 z (record { sfits = small }) ∙ is ∙ ap (λ k. pos k) same

pub fault_crosses : (fault : SettingFault) → to_z w64 (of_z w64 (fault_code fault)) ≡ fault_code fault
fault_crosses UnalignedBase = refl
fault_crosses UnalignedSize = refl
fault_crosses UnknownPerm = refl
fault_crosses PastEnd = refl
fault_crosses TooManyRanges = refl

pub code_crosses : (z : ℤ) (r : NoMap) → z ≡ refusal_code r → to_z w64 (of_z w64 z) ≡ refusal_code r
code_crosses z (Setting i fault) is = ap (λ x. to_z w64 (of_z w64 x)) is ∙ fault_crosses fault
code_crosses z Memory is = ap (λ x. to_z w64 (of_z w64 x)) is

-- where there is a plan
module _ (settings : List SettingOfC) (entries : List Entry) (plan : IsPlanOf settings entries) where
  pub one_number : (runs : List Run) (n : ℕ) → LeadTo [] settings runs → Needs (view_of_runs runs) n → length entries ≡ n
  one_number runs n led needs =
      let same : plan.runs ≡ runs = one_map [] plan.runs runs settings plan.made led in
      needs_one (view_of_runs runs) (length entries) n (record {
        entries = entries;
        fewest = subst
            (λ m. IsFewest (view_of_runs m) entries) same plan.fewest;
        count = refl;
      }) needs

  pub not_refused : (i : ℕ) (fault : SettingFault) → FaultIn [] settings i fault → ⊥
  not_refused i fault f = no_fault [] plan.runs settings i fault plan.made f

-- where there is none
module _ (settings : List SettingOfC) (r : NoMap) (known : (i : ℕ) (fault : SettingFault) → r ≡ Setting i fault → FaultIn [] settings i fault) where
  pub given_refused : (runs : List Run) → LeadTo [] settings runs → refusal_code r ≡ no_memory
  given_refused runs led = at r known
    where
      at : (q : NoMap) → ((i : ℕ) (fault : SettingFault) → q ≡ Setting i fault → FaultIn [] settings i fault) → refusal_code q ≡ no_memory
      at (Setting i fault) h = absurd (no_fault [] runs settings i fault led (h i fault refl))
      at Memory h = refl

  pub fault_refused : (i old new : ℕ) (fault : SettingFault) → new ≡ place_of r old → FaultIn [] settings i fault
      → ((refusal_code r ≡ fault_code fault) × (new ≡ i)) ⊎ (refusal_code r ≡ no_memory)
  fault_refused i old new fault is f = at r known is
    where
      at : (q : NoMap) → ((j : ℕ) (g : SettingFault) → q ≡ Setting j g → FaultIn [] settings j g) → new ≡ place_of q old
          → ((refusal_code q ≡ fault_code fault) × (new ≡ i)) ⊎ (refusal_code q ≡ no_memory)
      at (Setting j g) h e = let one = one_fault [] settings j i g fault (h j g refl) f in inl (ap fault_code one.1, e ∙ one.0)
      at Memory h e = inr refl

  pub number_refused : (old new : ℕ) → new ≡ place_of r old → IsNumberOf settings old new (refusal_code r)
  number_refused old new is = at r known is
    where
      at : (q : NoMap) → ((j : ℕ) (g : SettingFault) → q ≡ Setting j g → FaultIn [] settings j g) → new ≡ place_of q old
          → IsNumberOf settings old new (refusal_code q)
      at (Setting j g) h e = no_number g (subst (λ k. FaultIn [] settings k g) (sym e) (h j g refl))
      at Memory h e = number_without_memory e

  pub plan_refused : (room : ℕ) (registers : Registers) (old new : ℕ) → new ≡ place_of r old
      → IsPlanned settings room registers registers old new (refusal_code r)
  plan_refused room registers old new is = at r known is
    where
      at : (q : NoMap) → ((j : ℕ) (g : SettingFault) → q ≡ Setting j g → FaultIn [] settings j g) → new ≡ place_of q old
          → IsPlanned settings room registers registers old new (refusal_code q)
      at (Setting j g) h e = refused g (subst (λ k. FaultIn [] settings k g) (sym e) (h j g refl)) refl
      at Memory h e = memory refl e
