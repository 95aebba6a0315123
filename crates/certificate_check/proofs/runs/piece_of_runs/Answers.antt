use Rattle.certificate_check.proofs.Views.{before_first, first_begins, first_whole}
use Rattle.certificate_check.proofs.runs.piece_of_runs.Goals as goal

pub returns-then-page-run-clause-value : goal.returns-then-page-run-clause-value
returns-then-page-run-clause-value c = λ at after before. before_first c.args.runs.now _ at c.requires.later c.in-len1-up.len_at_least before

pub returns-then-page-run-clause-whole : goal.returns-then-page-run-clause-whole
returns-then-page-run-clause-whole c = λ inside. first_begins c.args.runs.now _ c.requires.later c.in-len1-up.len_at_least

pub returns-else-page-run-clause-whole : goal.returns-else-page-run-clause-whole
returns-else-page-run-clause-whole c = λ inside. first_whole c.args.runs.now _ c.requires.later c.in-len1-up.len_at_least
