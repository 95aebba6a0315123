-- What the prover finds by itself, written down for the edits that break it.
use Rattle.std.proofs.Common.{rules}
use Rattle.platforms.proofs.platform.Platform.new.Goals as goal

pub returns-then-not-each_apart-clause-fault : goal.returns-then-not-each_apart-clause-fault
returns-then-not-each_apart-clause-fault c = search rules
