-- A fault of the version stands after the magic, and one of the count after both.
use Rattle.std.proofs.Common.{◌∙◌, ◌++◌, ap, List, ℕ}
use Rattle.std.proofs.lemmas.Result.{err_from_is_err_and}
use Rattle.certificate_format.specs.Spelling.{magic}
use Rattle.certificate_format.specs.Faults.{in_version, in_count}
use Rattle.certificate_format.proofs.reader.header_of.Goals as goal

pub returns-in_err-version : goal.returns-in_err-version
returns-in_err-version c =
    let p = err_from_is_err_and c.from_residual-in_err-version.result c.from_residual-in_err-version.ensures.1 in
    rw (p.1, p.2) (in_version c.in_ok-rest.rest.now c.in_ok-rest.ensures c.in_err-version.ensures)

pub returns-in_err-count : goal.returns-in_err-count
returns-in_err-count c =
    let p = err_from_is_err_and c.from_residual-in_err-count.result c.from_residual-in_err-count.ensures.1 in
    let stands = c.in_ok-rest.ensures ∙ ap (λ (rest : List ℕ). magic ++ rest) c.in_ok-version.ensures in
    rw (p.1, p.2) (in_count c.in_ok-version.version c.in_ok-version.rest.now stands c.in_err-count.ensures)
