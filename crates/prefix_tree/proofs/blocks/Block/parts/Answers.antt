-- What the prover finds by itself, written down for the edits that break it.
use Rattle.std.proofs.Common.{rules}
use Rattle.prefix_tree.proofs.blocks.Block.parts.Goals as goal

pub returns-in-Branch : goal.returns-in-Branch
returns-in-Branch c = search rules
