-- The clauses are the lemmas.
use Rattle.pmp_match.proofs.Matched.{all_defined, all_inside, all_words, one_list}
use Rattle.pmp_match.proofs.register_laws.extents_law.Goals as goal

pub returns-clause-one : goal.returns-clause-one
returns-clause-one c = one_list

pub returns-clause-defined : goal.returns-clause-defined
returns-clause-defined c = all_defined

pub returns-clause-words : goal.returns-clause-words
returns-clause-words c = all_words

pub returns-clause-inside : goal.returns-clause-inside
returns-clause-inside c = all_inside
