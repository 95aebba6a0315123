use Rattle.std.proofs.Common.{sym}
use Rattle.register_audit.specs.Audits.{judged, unmodelled}
use Rattle.register_audit.proofs.listing_audit.answer_of.Goals as goal

pub returns-in-Some : goal.returns-in-Some
returns-in-Some c = unmodelled c.in-Some.bit (sym c.in-Some.ensures)

pub returns : goal.returns
returns c = rw c.is_meant.ensures (judged (sym c.in_default.ensures) c.in_ok-verdict.verdict c.in_ok-verdict.ensures)
