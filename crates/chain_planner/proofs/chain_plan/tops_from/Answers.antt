-- Each change makes one.
use Rattle.pmp_encoding.specs.declared.perm.Perm.TheVariants.{NoAccess}
use Rattle.chain_planner.proofs.TopsMade.{next_top, next_within}
use Rattle.chain_planner.proofs.chain_plan.tops_from.Goals as goal

pub loop-turn-preserved : goal.loop-turn-preserved
loop-turn-preserved c = record {
  made = next_top c.args.turns.now c.loop-turn.turn-index _ c.loop-turn.perm c.loop-turn.tops.items c.push.new.self.items _ c.loop-turn-test.true
      c.loop-turn.invariant.made c.in_ok-push.ensures.items;
  within = next_within c.args.turns.now c.loop-turn.turn-index _ (record { page = 0; perm = NoAccess }) c.loop-turn-test.true c.loop-turn.invariant.within;
}
