-- Nine bytes spell one pair.
use Rattle.std.proofs.Common.{◌∙◌, ◌++◌, List, ℕ, Ok, ap, sym}
use Rattle.certificate_format.proofs.CostBytes.{same_pair, short_pair, front_and_rest}
use Rattle.certificate_format.proofs.reader.Reader.entry.Goals as goal

pub returns-in_default-clause-whole : goal.returns-in_default-clause-whole
returns-in_default-clause-whole c = λ pair rest fits e. absurd (short_pair c.rest.result.now c.args.self.now rest pair c.rest.ensures c.in_default.ensures.cases
    e)

pub returns-clause-whole : goal.returns-clause-whole
returns-clause-whole c = λ pair rest fits e.
    let tail = c.in-Some.rest.now in
    let cases = c.in-Some.ensures.cases in
    let stands = front_and_rest 9 c.rest.result.now c.in-Some.bytes.now tail c.args.self.now cases.1 cases.2 c.rest.ensures in
    let both = ap (λ (front : List ℕ). front ++ tail) (sym c.of.ensures.spelled) ∙ stands ∙ e in
    let same = same_pair c.of.result pair tail rest c.of.ensures.fits fits both in
    (ap Ok same.0, c.new.ensures ∙ same.1)
