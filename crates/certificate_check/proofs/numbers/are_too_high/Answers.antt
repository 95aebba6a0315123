use Rattle.std.proofs.Common.{inl, inr, arith, sym, ◌∙◌}
use Rattle.certificate_check.proofs.Six.{none_above, some_above}
use Rattle.certificate_check.proofs.numbers.are_too_high.Goals as goal

pub returns-then-is_some-clause-high : goal.returns-then-is_some-clause-high
returns-then-is_some-clause-high c =
    λ said. let high = some_above _ _ _ (sym c.is_some.ensures ∙ c.if-is_some.true) c.above.ensures.some in (high.0, high.0, inl high.1)

pub returns-clause-high : goal.returns-clause-high
returns-clause-high c =
    λ said.
    let high = some_above _ _ _ (sym c.is_some-2.ensures ∙ said) c.above-2.ensures.some in
    let least = c.least.ensures.one in
    (high.0, least.0, inr (omega (arith, high.1, c.the_same.ensures high.0, least.1)))

pub returns-clause-same : goal.returns-clause-same
returns-clause-same c = λ said. none_above _ _ _ (sym c.is_some.ensures ∙ c.if-is_some.false) c.above.ensures.none

pub returns-clause-any : goal.returns-clause-any
returns-clause-any c =
    λ said p q. let low = none_above _ _ _ (sym c.is_some-2.ensures ∙ said) c.above-2.ensures.none p in omega
    (arith, low, c.the_same.ensures p, c.least.ensures.low q)
