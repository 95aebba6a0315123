-- What the prover finds by itself, written down for the edits that break it.
use Rattle.std.proofs.Common.{arith}
use Rattle.std.proofs.lemmas.Grind.{common_steps}
use Rattle.measurement.proofs.measure.word.Goals as goal

pub returns : goal.returns
returns c = grind (arith, common_steps)
