use Rattle.std.proofs.Common.{ap, ◌∙◌, ◌+◌, ◌≡◌, arith}
use Rattle.prefix_tree.proofs.Meant.{own_means, perm_in-means}
use Rattle.prefix_tree.proofs.laws.meaning_law.Goals as goal

pub returns-clause-own : goal.returns-clause-own
returns-clause-own c = λ tree fits. own_means tree fits

pub returns-clause-other : goal.returns-clause-other
returns-clause-other c = λ view tree means page h. let e : 0 + page ≡ page = omega arith in perm_in-means view 44 0 tree means page h ∙ ap view e
