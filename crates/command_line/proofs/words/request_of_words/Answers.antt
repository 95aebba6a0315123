use Rattle.std.proofs.lemmas.Result.{err_from_is_err_and}
use Rattle.command_line.proofs.Program.{no_kind, no_request, some_kind, some_request}
use Rattle.command_line.proofs.words.request_of_words.Goals as goal

pub returns-in_err-matches-clause-refused : goal.returns-in_err-matches-clause-refused
returns-in_err-matches-clause-refused c =
    let p = err_from_is_err_and c.from_residual-in_err-matches.result c.from_residual-in_err-matches.ensures.1 in
    rw (p.1, p.2) (some_kind _ _ _ c.in_ok-program.ensures.app c.in_err-matches.ensures.kinds)

pub returns-in-Ok-clause-taken : goal.returns-in-Ok-clause-taken
returns-in-Ok-clause-taken c = no_kind _ _ c.in_ok-program.ensures.app c.in_ok-matches.ensures.kinds

pub returns-in-Ok-clause-request : goal.returns-in-Ok-clause-request
returns-in-Ok-clause-request c = some_request _ _ _ c.in-Ok.request c.in_ok-program.ensures.app c.in_ok-matches.ensures.ok.2 c.in-Ok.ensures.request

pub returns-clause-refused : goal.returns-clause-refused
returns-clause-refused c = no_request _ _ _ _ _ c.in_ok-program.ensures.app c.in_ok-matches.ensures.ok.2 c.in-Err.ensures.refused c.in-Err.ensures.fault
    c.in_ok-error_with_usage-in-Err.ensures
