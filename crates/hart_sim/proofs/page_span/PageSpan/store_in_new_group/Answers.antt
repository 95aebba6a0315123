-- What the prover finds by itself, written down for the edits that break it.
use Rattle.std.proofs.Common.{rules}
use Rattle.hart_sim.proofs.page_span.PageSpan.store_in_new_group.Goals as goal

pub returns-clause-bytes : goal.returns-clause-bytes
returns-clause-bytes c = search rules

pub returns-clause-written : goal.returns-clause-written
returns-clause-written c = search rules

pub returns-clause-others : goal.returns-clause-others
returns-clause-others c = search rules
