use Rattle.std.proofs.Common.{sym}
use Rattle.std.proofs.lemmas.Result.{err_from_is_err_and}
use Rattle.hart_trace.proofs.EventWords.{register_lacks, setting_exceeds, setting_read, value_lacks}
use Rattle.hart_trace.proofs.event_words.setting_in.Goals as goal

pub returns-in_err-register-clause-value : goal.returns-in_err-register-clause-value
returns-in_err-register-clause-value c =
    let p = err_from_is_err_and c.from_residual.result c.from_residual.ensures.1 in
    rw p.1 (sym (register_lacks _ _ _ c.in_err-register.ensures.fault).0)

pub returns-in_err-register-clause-fault : goal.returns-in_err-register-clause-fault
returns-in_err-register-clause-fault c =
    let p = err_from_is_err_and c.from_residual.result c.from_residual.ensures.1 in
    rw (p.1, p.2) (register_lacks _ _ _ c.in_err-register.ensures.fault).1

pub returns-in_err-value-clause-value : goal.returns-in_err-value-clause-value
returns-in_err-value-clause-value c =
    let p = err_from_is_err_and c.from_residual-in_err-value.result c.from_residual-in_err-value.ensures.1 in
    rw p.1 (sym (value_lacks _ _ _ _ _ c.in_ok-register.ensures.read c.in_err-value.ensures.fault).0)

pub returns-in_err-value-clause-fault : goal.returns-in_err-value-clause-fault
returns-in_err-value-clause-fault c =
    let p = err_from_is_err_and c.from_residual-in_err-value.result c.from_residual-in_err-value.ensures.1 in
    rw (p.1, p.2) (value_lacks _ _ _ _ _ c.in_ok-register.ensures.read c.in_err-value.ensures.fault).1

pub returns-in_err-end_in-clause-value : goal.returns-in_err-end_in-clause-value
returns-in_err-end_in-clause-value c =
    let p = err_from_is_err_and c.from_residual-in_err-end_in.result c.from_residual-in_err-end_in.ensures.1 in
    rw p.1 (sym (setting_exceeds _ _ _ _ _ _ _ c.in_ok-register.ensures.read c.in_ok-value.ensures.read c.in_err-end_in.ensures.fault).0)

pub returns-in_err-end_in-clause-fault : goal.returns-in_err-end_in-clause-fault
returns-in_err-end_in-clause-fault c =
    let p = err_from_is_err_and c.from_residual-in_err-end_in.result c.from_residual-in_err-end_in.ensures.1 in
    rw (p.1, p.2) (setting_exceeds _ _ _ _ _ _ _ c.in_ok-register.ensures.read c.in_ok-value.ensures.read c.in_err-end_in.ensures.fault).1

pub returns-clause-value : goal.returns-clause-value
returns-clause-value c = sym (setting_read _ _ _ _ _ _ c.in_ok-register.ensures.read c.in_ok-value.ensures.read c.in_ok-end_in.ensures.end)
