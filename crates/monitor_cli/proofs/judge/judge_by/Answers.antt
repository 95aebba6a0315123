use Rattle.monitor_cli.proofs.judge.judge_by.Goals as goal

pub returns-in-Plain : goal.returns-in-Plain
returns-in-Plain g c = rw (c.in-Plain.is, c.with_notes.ensures) c.judge_plainly.ensures

pub returns-in-Explained : goal.returns-in-Explained
returns-in-Explained g c = rw (c.in-Explained.is, c.with_notes-in-Explained.ensures) c.judge_explaining.ensures

pub returns-in-Compared : goal.returns-in-Compared
returns-in-Compared g c = rw c.in-Compared.is c.judge_expecting.ensures
