use Rattle.monitor_core.proofs.Loaded.{keeps_loaded}
use Rattle.monitor_core.proofs.laws.loading_law.Goals as goal

pub returns : goal.returns
returns c = keeps_loaded
