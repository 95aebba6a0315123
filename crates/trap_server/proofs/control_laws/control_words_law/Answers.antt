use Rattle.trap_server.proofs.Own.{each_its_own}
use Rattle.trap_server.proofs.control_laws.control_words_law.Goals as goal

pub returns : goal.returns
returns c = each_its_own
