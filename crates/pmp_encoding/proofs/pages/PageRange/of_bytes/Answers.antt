-- What the prover finds by itself, written down for the edits that break it.
use Rattle.std.proofs.Common.{rules}
use Rattle.pmp_encoding.proofs.pages.PageRange.of_bytes.Goals as goal

pub returns-clause-first : goal.returns-clause-first
returns-clause-first c = search rules

pub returns-clause-count : goal.returns-clause-count
returns-clause-count c = search rules
