use Rattle.hart_sim.proofs.Groups.{forgets_more}
use Rattle.hart_sim.proofs.page_group.PageGroup.forget.Goals as goal

pub loop-place-preserved : goal.loop-place-preserved
loop-place-preserved c = forgets_more c.loop-place.self.pages c.args.self.now c.args.from c.loop-place.place c.loop-place.auto.place c.loop-place.invariant
