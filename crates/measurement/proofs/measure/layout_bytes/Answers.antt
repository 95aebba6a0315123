-- What the prover finds by itself, written down for the edits that break it.
use Rattle.std.proofs.Common.{rules}
use Rattle.measurement.proofs.measure.layout_bytes.Goals as goal

pub returns : goal.returns
returns c = search rules
