use Rattle.hart_sim.proofs.KnownEvents.{event_said, few_said, hart_said}
use Rattle.hart_sim.proofs.machine.Machine.event_in.Goals as goal

pub returns-clause-hart : goal.returns-clause-hart
returns-clause-hart c = rw c.harts.ensures.value at (hart_said c.harts.result c.args.line.now c.parse_line.result c.harts.ensures.some c.parse_line.ensures)

pub returns-clause-event : goal.returns-clause-event
returns-clause-event c = event_said c.harts.result c.args.line.now c.parse_line.result c.harts.ensures.some c.parse_line.ensures

pub returns-clause-few : goal.returns-clause-few
returns-clause-few c = few_said c.harts.result c.args.line.now c.parse_line.result c.harts.ensures.some c.harts.ensures.most c.parse_line.ensures
