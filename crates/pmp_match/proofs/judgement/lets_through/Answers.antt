use Rattle.std.proofs.Common.{sym, ◌∙◌, arith}
use Rattle.std.proofs.lemmas.Grind.{common_steps}
use Rattle.pmp_match.proofs.Scanned.{decided_at}
use Rattle.pmp_match.proofs.judgement.lets_through.Goals as goal

pub returns-then-touches : goal.returns-then-touches
returns-then-touches c =
    c.grants.ensures
    ∙ decided_at _ c.loop-extent.extent-index _ c.args.access.now c.loop-extent-test.true (sym c.touches.ensures ∙ c.if-touches.true) ∙ c.loop-extent.invariant

pub returns : goal.returns
returns c = grind (arith, common_steps)
