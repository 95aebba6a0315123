use Rattle.std.proofs.Common.{arith, sym, ◌∙◌}
use Rattle.platforms.proofs.Among.{covered_by, among_none}
use Rattle.platforms.proofs.ranges.end_at.Goals as goal

pub returns-then-has-clause-covered : goal.returns-then-has-clause-covered
returns-then-has-clause-covered c = λ q low high.
    covered_by c.args.ranges.now c.loop-range.range-index _ c.of_bytes-pages.result.first c.of_bytes-pages.result.count c.args.page q c.loop-range-test.true
    c.of_bytes-pages.ensures.first c.of_bytes-pages.ensures.count (sym c.has.ensures ∙ c.if-has.true) low high

pub returns-clause-none : goal.returns-clause-none
returns-clause-none c = among_none c.args.ranges.now c.args.page (λ k d low. c.loop-range.invariant k d (omega arith))
