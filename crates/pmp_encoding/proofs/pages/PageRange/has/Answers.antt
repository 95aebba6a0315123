-- What the prover finds by itself, written down for the edits that break it.
use Rattle.std.proofs.Common.{rules}
use Rattle.pmp_encoding.proofs.pages.PageRange.has.Goals as goal

pub returns-else-self-page : goal.returns-else-self-page
returns-else-self-page c = search rules

pub returns-then-self-page : goal.returns-then-self-page
returns-then-self-page c = search rules
