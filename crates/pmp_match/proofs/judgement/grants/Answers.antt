-- What the prover finds by itself, written down for the edits that break it.
use Rattle.std.proofs.Common.{rules}
use Rattle.pmp_match.proofs.judgement.grants.Goals as goal

pub returns-then-is_machine : goal.returns-then-is_machine
returns-then-is_machine c = search rules

pub returns-else-is_machine : goal.returns-else-is_machine
returns-else-is_machine c = search rules
