-- What the prover finds by itself, written down for the edits that break it.
use Rattle.std.proofs.Common.{rules}
use Rattle.prefix_tree.proofs.overwrite.overlap_of.Goals as goal

pub returns-then-end-run_end : goal.returns-then-end-run_end
returns-then-end-run_end c = search rules
