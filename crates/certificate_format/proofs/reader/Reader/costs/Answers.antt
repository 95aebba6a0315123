-- Twenty-four bytes spell one row of costs.
use Rattle.std.proofs.Common.{◌∙◌, ◌++◌, List, ℕ, Ok, ap, sym}
use Rattle.certificate_format.specs.Costs.{cost_of}
use Rattle.certificate_format.proofs.CostBytes.{same_costs, short_costs, front_and_rest}
use Rattle.certificate_format.proofs.reader.Reader.costs.Goals as goal

pub returns-in_default-clause-whole : goal.returns-in_default-clause-whole
returns-in_default-clause-whole c = λ costs rest fits e. absurd (short_costs c.rest.result.now c.args.self.now rest costs c.rest.ensures
    c.in_default.ensures.cases e)

pub returns-clause-whole : goal.returns-clause-whole
returns-clause-whole c = λ costs rest fits e.
    let tail = c.in-Some.rest.now in
    let cases = c.in-Some.ensures.cases in
    let stands = front_and_rest 24 c.rest.result.now c.in-Some.bytes.now tail c.args.self.now cases.1 cases.2 c.rest.ensures in
    let both = ap (λ (front : List ℕ). front ++ tail) (sym c.of.ensures.spelled) ∙ stands ∙ e in
    let same = same_costs (cost_of c.of.result) costs tail rest c.of.ensures.fits fits both in
    (ap Ok same.0, c.new.ensures ∙ same.1)
