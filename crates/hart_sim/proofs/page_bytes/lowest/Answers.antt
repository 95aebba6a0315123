use Rattle.hart_sim.proofs.Lowest.{masked}
use Rattle.hart_sim.proofs.page_bytes.lowest.Goals as goal

pub returns : goal.returns
returns c = masked c.args.number c.args.size c.requires
