use Rattle.hart_sim.proofs.Reported.{is_reported}
use Rattle.hart_sim.proofs.laws.report_law.Goals as goal

pub returns : goal.returns
returns c = is_reported
