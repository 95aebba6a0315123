-- What the prover finds by itself, written down for the edits that break it.
use Rattle.std.proofs.Common.{rules}
use Rattle.pmp_match.proofs.judgement.access_fault.Goals as goal

pub returns-in-Store : goal.returns-in-Store
returns-in-Store c = search rules
