-- What the prover finds by itself, written down for the edits that break it.
use Rattle.std.proofs.Common.{rules}
use Rattle.prefix_tree.proofs.chains.Chain.goes_up.Goals as goal

pub returns : goal.returns
returns c = search rules
