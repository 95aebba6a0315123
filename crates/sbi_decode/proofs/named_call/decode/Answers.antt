-- What the prover finds by itself, written down for the edits that break it.
use Rattle.std.proofs.Common.{rules}
use Rattle.sbi_decode.proofs.named_call.decode.Goals as goal

pub returns-in-6 : goal.returns-in-6
returns-in-6 c = search rules

pub returns-in-0 : goal.returns-in-0
returns-in-0 c = search rules

pub returns-in-1 : goal.returns-in-1
returns-in-1 c = search rules

pub returns-in-2 : goal.returns-in-2
returns-in-2 c = search rules

pub returns-in-3 : goal.returns-in-3
returns-in-3 c = search rules

pub returns-in-4 : goal.returns-in-4
returns-in-4 c = search rules

pub returns-in-5 : goal.returns-in-5
returns-in-5 c = search rules
