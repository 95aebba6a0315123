use Rattle.std.proofs.Common.{◌∙◌, Err, ap, inl, inr, refl, length}
use Rattle.planner_for_c.specs.Plans.{number}
use Rattle.planner_for_c.proofs.Told.{code_crosses, fault_refused, given_refused, not_refused, number_crosses, number_refused, one_number}
use Rattle.planner_for_c.proofs.plan.pmpmon_needed.Goals as goal

pub returns-in-Ok-clause-needed : goal.returns-in-Ok-clause-needed
returns-in-Ok-clause-needed c =
    rw (number_crosses c.from.result c.needed.result (length c.in-Ok.plan.entries) c.from.ensures c.needed.ensures c.from.type_inv)
    (number c.in-Ok.plan.entries c.in-Ok.ensures.plan refl)

pub returns-in-Ok-clause-given : goal.returns-in-Ok-clause-given
returns-in-Ok-clause-given c = λ runs n led needs.
    inl (number_crosses c.from.result c.needed.result n c.from.ensures (c.needed.ensures
    ∙ one_number c.args.settings.now c.in-Ok.plan.entries c.in-Ok.ensures.plan runs n led needs) c.from.type_inv)

pub returns-in-Ok-clause-refused : goal.returns-in-Ok-clause-refused
returns-in-Ok-clause-refused c = λ i fault f. absurd (not_refused c.args.settings.now _ c.in-Ok.ensures.plan i fault f)

pub returns-in-Err-clause-needed : goal.returns-in-Err-clause-needed
returns-in-Err-clause-needed c =
    rw (code_crosses c.report.result c.in-Err.refusal c.report.ensures.code) (number_refused c.args.settings.now c.in-Err.refusal
    (λ i fault e. c.in-Err.ensures.fault i fault (ap (λ x. Err x) e)) c.args.at_fault.now c.report.new.at_fault c.report.ensures.place)

pub returns-in-Err-clause-given : goal.returns-in-Err-clause-given
returns-in-Err-clause-given c = λ runs n led needs.
    inr (code_crosses c.report.result c.in-Err.refusal c.report.ensures.code ∙ given_refused c.args.settings.now c.in-Err.refusal
    (λ i fault e. c.in-Err.ensures.fault i fault (ap (λ x. Err x) e)) runs led)

pub returns-in-Err-clause-refused : goal.returns-in-Err-clause-refused
returns-in-Err-clause-refused c = λ i fault f.
    rw (code_crosses c.report.result c.in-Err.refusal c.report.ensures.code) (fault_refused c.args.settings.now c.in-Err.refusal
    (λ j g e. c.in-Err.ensures.fault j g (ap (λ x. Err x) e)) i c.args.at_fault.now c.report.new.at_fault fault c.report.ensures.place f)
