-- What the prover finds by itself, written down for the edits that break it.
use Rattle.std.proofs.Common.{rules}
use Rattle.measurement.proofs.request.Create.private_pages.Goals as goal

pub returns-clause-value : goal.returns-clause-value
returns-clause-value c = search rules
