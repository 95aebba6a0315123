-- A header is spelled in one way, and at most one fault stands in its place.
use Rattle.std.proofs.Common.{◌∙◌, Ok, ap, sym}
use Rattle.std.proofs.lemmas.Result.{err_from_is_err_and}
use Rattle.certificate_format.proofs.Headers.{header_stands, same_header, err_exactly}
use Rattle.certificate_format.proofs.reader.Reader.header.Goals as goal

pub returns-in_err-header-clause-whole : goal.returns-in_err-header-clause-whole
returns-in_err-header-clause-whole c = λ header rest fits e.
    absurd (header_stands c.rest.result.now header rest c.in_err-header.field-0.0 (c.rest.ensures ∙ e) c.in_err-header.ensures)

pub returns-in_err-header-clause-fault : goal.returns-in_err-header-clause-fault
returns-in_err-header-clause-fault c =
    let p = err_from_is_err_and c.from_residual.result c.from_residual.ensures.1 in
    rw (p.1, p.2) (err_exactly c.rest.result.now c.args.self.now c.in_err-header.field-0.0 c.rest.ensures c.in_err-header.ensures)

pub returns-clause-whole : goal.returns-clause-whole
returns-clause-whole c = λ header rest fits e.
    let stands = c.in_ok-header.ensures in
    let same = same_header c.in_ok-header.header header c.in_ok-header.rest.now rest stands.1 fits (sym stands.0 ∙ c.rest.ensures ∙ e) in
    (ap Ok same.0, c.new.ensures ∙ same.1)

pub returns-clause-fault : goal.returns-clause-fault
returns-clause-fault c = λ f.
    let stands = c.in_ok-header.ensures in (
      λ q. cc,
      λ w. absurd (header_stands c.args.self.now c.in_ok-header.header c.in_ok-header.rest.now f (sym c.rest.ensures ∙ stands.0) w),
    )
