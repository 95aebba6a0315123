-- What decides by a bank decides by the list that an access meets.
use Rattle.std.proofs.Common.{◌≡◌, ◌∙◌, ℕ, List, Option, Some, true, false, sym, subst, true≢false, inl, inr}
use Rattle.pmp_encoding.specs.declared.bank.Bank.{Bank}
use Rattle.pmp_encoding.specs.declared.region.Entry.{Entry}
use Rattle.pmp_encoding.specs.Banks.{HasList}
use Rattle.pmp_match.specs.declared.access.Access.{Access}
use Rattle.hart_sim.specs.declared.machine.Machine.{Machine}
use Rattle.hart_sim.specs.Banks.{MeetsList}
use Rattle.hart_sim.specs.Machines.{bank_on, kept_of, state_of}
use Rattle.pmp_match.specs.declared.deciders.Decider.{Decider}
use Rattle.trace_answers.specs.declared.reasons.Reason.{Reason}
use Rattle.pmp_match.specs.Deciders.{by_first}
use Rattle.trace_answers.specs.Reasons.{Decides, IsReason, misaligned, outside, no_entry, entry}
use Rattle.trace_answers.specs.Asked.{by_met}

-- a reason by what decides is one by what that decides too
reason_by : (decides also : Decides) (a : Access) (reason : Reason) → ((found : Option Decider) → decides a found → also a found) → IsReason decides a reason
    → IsReason also a reason
reason_by decides also a _ more (misaligned off) = misaligned off
reason_by decides also a _ more (outside on far) = outside on far
reason_by decides also a _ more (no_entry on near none) = no_entry on near (more _ none)
reason_by decides also a _ more (entry on near found is) = entry on near found (more _ is)

same : (a b : Bank) → Some a ≡ Some b → a ≡ b
same a b e = cc

-- each list that is met is that of the bank
reason_met :
    (machine : Machine) (hart : ℕ) (a : Access) (reason : Reason) (bank : Bank)
    → ((list : List Entry) → MeetsList (state_of machine) (kept_of machine) (bank_on machine) hart list → HasList bank list)
    → IsReason (by_first bank) a reason → IsReason (by_met machine hart) a reason
reason_met machine hart a reason bank its is = reason_by (by_first bank) (by_met machine hart) a reason (λ found by list met. by list (its list met)) is

pub reason_loaded :
    (machine : Machine) (hart : ℕ) (a : Access) (reason : Reason) (bank : Bank) → (state_of machine).marked hart ≡ false → bank_on machine hart ≡ Some bank
    → IsReason (by_first bank) a reason → IsReason (by_met machine hart) a reason
reason_loaded machine hart a reason bank awake on is = reason_met machine hart a reason bank
    (λ list met. elim met [
      | inl woken ↦ absurd (true≢false (sym woken.0 ∙ awake))
      | inr loaded ↦ subst (λ b. HasList b list) (same _ _ (sym loaded.2 ∙ on)) loaded.3
    ]) is

pub reason_woken :
    (machine : Machine) (hart : ℕ) (a : Access) (reason : Reason) (bank : Bank) → (state_of machine).marked hart ≡ true
    → HasList bank (kept_of machine).host_list
    → IsReason (by_first bank) a reason → IsReason (by_met machine hart) a reason
reason_woken machine hart a reason bank asleep has is = reason_met machine hart a reason bank
    (λ list met. elim met [
      | inl woken ↦ subst (HasList bank) (sym woken.1) has
      | inr loaded ↦ absurd (true≢false (sym asleep ∙ loaded.0))
    ]) is
