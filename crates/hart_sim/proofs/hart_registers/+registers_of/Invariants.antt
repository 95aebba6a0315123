use Rattle.std.proofs.Common.{length}
use Rattle.hart_sim.proofs.hart_registers.+registers_of.Given as goal

abbrev pub decreases-registers_of : goal.decreases-registers_of
decreases-registers_of l = length l.harts.now
