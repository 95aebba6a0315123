-- The clauses are the lemmas.
use Rattle.pmp_match.proofs.Instance.{entries_decision, entries_meaning, registers_decision, registers_meaning}
use Rattle.pmp_match.proofs.register_laws.instance_law.Goals as goal

pub returns-clause-decision : goal.returns-clause-decision
returns-clause-decision c = entries_decision

pub returns-clause-meaning : goal.returns-clause-meaning
returns-clause-meaning c = entries_meaning

pub returns-clause-registers_decision : goal.returns-clause-registers_decision
returns-clause-registers_decision c = registers_decision

pub returns-clause-registers_meaning : goal.returns-clause-registers_meaning
returns-clause-registers_meaning c = registers_meaning
