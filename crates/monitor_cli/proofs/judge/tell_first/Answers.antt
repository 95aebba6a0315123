use Rattle.std.proofs.Common.{ap, option_map}
use Rattle.std.proofs.lemmas.Result.{err_from_is_err_and}
use Rattle.trace_answers.specs.Comparisons.{found_in}
use Rattle.monitor_cli.proofs.judge.tell_first.Goals as goal

pub returns-in_err-write_whole-in-Some-clause-broken : goal.returns-in_err-write_whole-in-Some-clause-broken
returns-in_err-write_whole-in-Some-clause-broken g c =
    let p = err_from_is_err_and c.from_residual.result c.from_residual.ensures.1 in
    rw p.1 (found_in c.in-Some.difference, ap (λ d. option_map found_in d) c.in-Some.is, _, c.in_err-write_whole-in-Some.ensures)
