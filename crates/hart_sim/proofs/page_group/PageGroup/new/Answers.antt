use Rattle.std.proofs.Common.{ap}
use Rattle.hart_sim.specs.Groups.{bytes_of}
use Rattle.hart_sim.proofs.Groups.{none_at}
use Rattle.hart_sim.proofs.page_group.PageGroup.new.Goals as goal

pub returns : goal.returns
returns c = λ place. ap bytes_of (none_at 64 place)
