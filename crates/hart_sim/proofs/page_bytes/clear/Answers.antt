use Rattle.std.proofs.Common.{sym}
use Rattle.hart_sim.proofs.Bytes.{zeros_are}
use Rattle.hart_sim.proofs.page_bytes.clear.Goals as goal

pub returns : goal.returns
returns c = sym (zeros_are 0 4096)
