use Rattle.std.proofs.Common.{◌∙◌, Err, [], ap, inl, inr, subst}
use Rattle.permission_map.specs.Runs.{view_of_runs}
use Rattle.certificate_check.specs.Certificates.{IsRight, RefusalStands}
use Rattle.planner_for_c.specs.Checks.{check_code}
use Rattle.planner_for_c.specs.Codes.{refusal_code}
use Rattle.planner_for_c.proofs.Certified.{no_map_told, verdict_told}
use Rattle.planner_for_c.proofs.InTurn.{no_fault, one_map}
use Rattle.planner_for_c.proofs.Judged.{crosses}
use Rattle.planner_for_c.proofs.Told.{fault_refused, given_refused}
use Rattle.planner_for_c.proofs.check.pmpmon_check.Goals as goal

pub returns-in-Ok-clause-checked : goal.returns-in-Ok-clause-checked
returns-in-Ok-clause-checked c =
    rw (crosses c.number_of.result (check_code c.check.result) c.number_of.ensures c.number_of.type_inv)
    (verdict_told c.args.settings.now c.args.certificate.now c.args.at_fault.now c.in-Ok.map c.check.result c.in-Ok.ensures.made
    (λ n e. rw e at c.check.ensures.fewest) (λ refusal e. (c.check.ensures.fault refusal).0 e))

pub returns-in-Ok-clause-right : goal.returns-in-Ok-clause-right
returns-in-Ok-clause-right c = λ runs n led right.
    let same = one_map [] runs c.in-Ok.map c.args.settings.now led c.in-Ok.ensures.made in
    let own = subst (λ m. IsRight (view_of_runs m) c.args.certificate.now n) same right in
    inl (crosses c.number_of.result (check_code c.check.result) c.number_of.ensures c.number_of.type_inv ∙ ap check_code ((c.check.ensures.right n).1 own))

pub returns-in-Ok-clause-wrong : goal.returns-in-Ok-clause-wrong
returns-in-Ok-clause-wrong c = λ runs refusal led stands.
    let same = one_map [] runs c.in-Ok.map c.args.settings.now led c.in-Ok.ensures.made in
    let own = subst (λ m. RefusalStands (view_of_runs m) c.args.certificate.now refusal) same stands in
    inl (crosses c.number_of.result (check_code c.check.result) c.number_of.ensures c.number_of.type_inv
    ∙ ap check_code ((c.check.ensures.fault refusal).1 own))

pub returns-in-Ok-clause-refused : goal.returns-in-Ok-clause-refused
returns-in-Ok-clause-refused c = λ i fault f. absurd (no_fault [] c.in-Ok.map c.args.settings.now i fault c.in-Ok.ensures.made f)

pub returns-in-Err-clause-checked : goal.returns-in-Err-clause-checked
returns-in-Err-clause-checked c =
    rw (crosses c.report.result (refusal_code c.in-Err.refusal) c.report.ensures.code c.report.type_inv)
    (no_map_told c.args.settings.now c.args.certificate.now c.in-Err.refusal c.args.at_fault.now c.report.new.at_fault
    (λ i fault e. c.in-Err.ensures.fault i fault (ap (λ x. Err x) e)) c.report.ensures.place)

pub returns-in-Err-clause-right : goal.returns-in-Err-clause-right
returns-in-Err-clause-right c = λ runs n led right.
    inr (crosses c.report.result (refusal_code c.in-Err.refusal) c.report.ensures.code c.report.type_inv
    ∙ given_refused c.args.settings.now c.in-Err.refusal (λ i fault e. c.in-Err.ensures.fault i fault (ap (λ x. Err x) e)) runs led)

pub returns-in-Err-clause-wrong : goal.returns-in-Err-clause-wrong
returns-in-Err-clause-wrong c = λ runs refusal led stands.
    inr (crosses c.report.result (refusal_code c.in-Err.refusal) c.report.ensures.code c.report.type_inv
    ∙ given_refused c.args.settings.now c.in-Err.refusal (λ i fault e. c.in-Err.ensures.fault i fault (ap (λ x. Err x) e)) runs led)

pub returns-in-Err-clause-refused : goal.returns-in-Err-clause-refused
returns-in-Err-clause-refused c = λ i fault f.
    rw (crosses c.report.result (refusal_code c.in-Err.refusal) c.report.ensures.code c.report.type_inv)
    (fault_refused c.args.settings.now c.in-Err.refusal (λ j g e. c.in-Err.ensures.fault j g (ap (λ x. Err x) e)) i c.args.at_fault.now c.report.new.at_fault
    fault c.report.ensures.place f)
