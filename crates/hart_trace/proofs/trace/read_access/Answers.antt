use Rattle.std.proofs.Common.{◌∙◌, ap, option_map, sym, Some}
use Rattle.std.proofs.lemmas.Result.{err_from_is_err_and}
use Rattle.hart_trace.proofs.ForJudge.{access_is, fault_for_nobody, fault_is, none_for_judge}
use Rattle.hart_trace.proofs.trace.read_access.Goals as goal

pub returns-in_err-said-clause-value : goal.returns-in_err-said-clause-value
returns-in_err-said-clause-value c =
    let p = err_from_is_err_and c.from_residual.result c.from_residual.ensures.1 in
    rw p.1 (sym (none_for_judge c.args.line.now (sym c.in_err-said.ensures.value)))

pub returns-in_err-said-clause-fault : goal.returns-in_err-said-clause-fault
returns-in_err-said-clause-fault c =
    let p = err_from_is_err_and c.from_residual.result c.from_residual.ensures.1 in
    rw (p.1, p.2) (fault_for_nobody c.args.line.now (sym c.in_err-said.ensures.value) ∙ c.in_err-said.ensures.fault)

pub returns-in_err-access-clause-value : goal.returns-in_err-access-clause-value
returns-in_err-access-clause-value c =
    let p = err_from_is_err_and c.from_residual-in_err-access.result c.from_residual-in_err-access.ensures.1 in
    let said = c.in-Some.said in
    let means = sym (rw c.in-Some.is at c.in_ok-said.ensures.value) in
    let begins = rw c.in-Some.is at c.in_ok-said.ensures.first in
    let is = access_is c.args.line.now said.hart said.event (said.first.before, said.first.word.now) begins.0 means begins.1 begins.2 in
    rw p.1 (sym (is ∙ ap (option_map Some) (sym c.in_err-access.ensures.value)))

pub returns-in_err-access-clause-fault : goal.returns-in_err-access-clause-fault
returns-in_err-access-clause-fault c =
    let p = err_from_is_err_and c.from_residual-in_err-access.result c.from_residual-in_err-access.ensures.1 in
    let said = c.in-Some.said in
    let means = sym (rw c.in-Some.is at c.in_ok-said.ensures.value) in
    let begins = rw c.in-Some.is at c.in_ok-said.ensures.first in
    let is = fault_is c.args.line.now said.hart said.event (said.first.before, said.first.word.now) begins.0 means begins.1 begins.2 in
    rw (p.1, p.2) (is ∙ c.in_err-access.ensures.fault)

pub returns-clause-value : goal.returns-clause-value
returns-clause-value c =
    let said = c.in-Some.said in
    let means = sym (rw c.in-Some.is at c.in_ok-said.ensures.value) in
    let begins = rw c.in-Some.is at c.in_ok-said.ensures.first in
    let is = access_is c.args.line.now said.hart said.event (said.first.before, said.first.word.now) begins.0 means begins.1 begins.2 in
    sym (is ∙ ap (option_map Some) (sym c.in_ok-access.ensures.value))
