-- What the prover finds by itself, written down for the edits that break it.
use Rattle.std.proofs.Common.{rules}
use Rattle.pmp_encoding.proofs.pages.pages_of.Goals as goal

pub returns : goal.returns
returns c = search rules
