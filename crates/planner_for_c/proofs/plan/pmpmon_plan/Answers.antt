use Rattle.std.proofs.Common.{◌∙◌, Err, ap, inl, inr, refl, subst, arith, length}
use Rattle.planner_for_c.specs.Plans.{fits, too_many}
use Rattle.planner_for_c.specs.Registers.{HoldsList}
use Rattle.planner_for_c.proofs.Told.{code_crosses, fault_refused, given_refused, not_refused, number_crosses, plan_refused, one_number}
use Rattle.planner_for_c.proofs.plan.pmpmon_plan.Goals.{then-from-min, else-from-min}
use Rattle.planner_for_c.proofs.plan.pmpmon_plan.Goals as goal

pub returns-in-Err-clause-planned : goal.returns-in-Err-clause-planned
returns-in-Err-clause-planned c =
    rw (code_crosses c.report.result c.in-Err.refusal c.report.ensures.code) (plan_refused c.args.settings.now c.in-Err.refusal
    (λ i fault e. c.in-Err.ensures.fault i fault (ap (λ x. Err x) e)) c.args.entries c.args.registers.now c.args.at_fault.now c.report.new.at_fault
    c.report.ensures.place)

pub returns-in-Err-clause-given : goal.returns-in-Err-clause-given
returns-in-Err-clause-given c = λ runs n led needs.
    inr (code_crosses c.report.result c.in-Err.refusal c.report.ensures.code ∙ given_refused c.args.settings.now c.in-Err.refusal
    (λ i fault e. c.in-Err.ensures.fault i fault (ap (λ x. Err x) e)) runs led)

pub returns-in-Err-clause-refused : goal.returns-in-Err-clause-refused
returns-in-Err-clause-refused c = λ i fault f.
    rw (code_crosses c.report.result c.in-Err.refusal c.report.ensures.code) (fault_refused c.args.settings.now c.in-Err.refusal
    (λ j g e. c.in-Err.ensures.fault j g (ap (λ x. Err x) e)) i c.args.at_fault.now c.report.new.at_fault fault c.report.ensures.place f)

pub returns-clause-planned : goal.returns-clause-planned
returns-clause-planned c =
    let plan = c.in-Ok.ensures.plan in
    rw (number_crosses c.from-2.result c.needed-needed.result (length c.in-Ok.plan.entries) c.from-2.ensures c.needed-needed.ensures c.from-2.type_inv)
    (elim c.if-from-min.branch [
      | then-from-min w ↦ rw w.registers-is (fits c.in-Ok.plan.entries plan
          (omega (arith, w.if-from-min.true, c.from.ensures, c.needed-needed.ensures, c.min.ensures))
          (subst (HoldsList w.put.new.self) w.entries.ensures w.put.ensures) refl)
      | else-from-min w ↦ too_many c.in-Ok.plan.entries plan (omega (arith, w.if-from-min.false, c.from.ensures, c.needed-needed.ensures, c.min.ensures))
          w.registers-is refl
    ])

pub returns-clause-given : goal.returns-clause-given
returns-clause-given c = λ runs n led needs.
    inl (number_crosses c.from-2.result c.needed-needed.result n c.from-2.ensures
    (c.needed-needed.ensures ∙ one_number c.args.settings.now c.in-Ok.plan.entries c.in-Ok.ensures.plan runs n led needs) c.from-2.type_inv)

pub returns-clause-refused : goal.returns-clause-refused
returns-clause-refused c = λ i fault f. absurd (not_refused c.args.settings.now c.in-Ok.plan.entries c.in-Ok.ensures.plan i fault f)
