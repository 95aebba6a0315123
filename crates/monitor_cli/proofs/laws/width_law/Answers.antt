-- The law is the lemmas.
use Rattle.monitor_cli.proofs.FarPages.{is_beyond, page_beyond}
use Rattle.monitor_cli.proofs.laws.width_law.Goals as goal

pub returns : goal.returns
returns c = λ view xlen most entries planned. (page_beyond view xlen most entries planned, is_beyond view xlen most entries planned)
