use Rattle.std.proofs.lemmas.Result.{err_from_is_err_and}
use Rattle.hart_trace.proofs.EventWords.{access_read, address_lacks, mode_lacks, size_lacks}
use Rattle.hart_trace.proofs.event_words.access_in.Goals as goal

pub returns-in_err-mode-clause-fault : goal.returns-in_err-mode-clause-fault
returns-in_err-mode-clause-fault c =
    let p = err_from_is_err_and c.from_residual.result c.from_residual.ensures.1 in
    rw (p.1, p.2) (mode_lacks _ _ _ _ _ c.requires.needed c.in_err-mode.ensures.fault)

pub returns-in_err-size-clause-fault : goal.returns-in_err-size-clause-fault
returns-in_err-size-clause-fault c =
    let p = err_from_is_err_and c.from_residual-in_err-size.result c.from_residual-in_err-size.ensures.1 in
    rw (p.1, p.2) (size_lacks _ _ _ _ _ _ _ c.requires.needed c.in_ok-mode.ensures.read c.in_err-size.ensures.fault)

pub returns-in_err-address-clause-fault : goal.returns-in_err-address-clause-fault
returns-in_err-address-clause-fault c =
    let p = err_from_is_err_and c.from_residual-in_err-address.result c.from_residual-in_err-address.ensures.1 in
    rw (p.1, p.2)
    (address_lacks _ _ _ _ _ _ _ _ _ c.requires.needed c.in_ok-mode.ensures.read c.in_ok-size.ensures.read c.in_err-address.ensures.fault)

pub returns-clause-read : goal.returns-clause-read
returns-clause-read c = access_read _ _ _ _ _ _ _ _ _ _ _ c.in_ok-mode.ensures.read c.in_ok-size.ensures.read c.in_ok-address.ensures.read c.in-Some.ensures
