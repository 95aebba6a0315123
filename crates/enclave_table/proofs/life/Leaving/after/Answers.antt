-- What the prover finds by itself, written down for the edits that break it.
use Rattle.std.proofs.Common.{rules}
use Rattle.enclave_table.proofs.life.Leaving.after.Goals as goal

pub returns-in-Exit : goal.returns-in-Exit
returns-in-Exit c = search rules
