-- The extents one after another.
use Rattle.std.proofs.Common.{refl, arith}
use Rattle.std.proofs.lemmas.Bool.{both_ways}
use Rattle.pmp_match.specs.RegisterDecision.{Meets}
use Rattle.pmp_match.specs.Tor.{nowhere}
use Rattle.register_audit.specs.Findings.{load_of_eight}
use Rattle.register_audit.proofs.Cut.{some_meets}
use Rattle.register_audit.proofs.Each.{all_more, all_whole}
use Rattle.register_audit.proofs.cut_access.all_miss.Goals as goal

pub returns-then-has_some : goal.returns-then-has_some
returns-then-has_some c = (
  (λ no'. absurd cc),
  (λ none. absurd (some_meets c.args.extents.now c.loop-extent.extent-index c.args.at c.loop-extent-test.true (c.has_some.ensures.0 c.if-has_some.true) none)),
)

pub loop-extent-preserved : goal.loop-extent-preserved
loop-extent-preserved c =
    all_more (λ x. ¬ Meets x (load_of_eight c.args.at)) c.args.extents.now c.loop-extent.extent-index nowhere c.loop-extent-test.true c.loop-extent.invariant
    (λ m. both_ways c.has_some.result c.if-has_some.false (c.has_some.ensures.1 m))

pub returns : goal.returns
returns c =
    let all = all_whole (λ x. ¬ Meets x (load_of_eight c.args.at)) c.args.extents.now c.loop-extent.extent-index
    (omega (arith, c.loop-extent-test.false)) c.loop-extent.invariant in
    ((λ yes. all), (λ none. refl))
