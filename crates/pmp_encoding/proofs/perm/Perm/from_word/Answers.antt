-- What the prover finds by itself, written down for the edits that break it.
use Rattle.std.proofs.Common.{arith, rules}
use Rattle.std.proofs.lemmas.Grind.{common_steps}
use Rattle.pmp_encoding.proofs.perm.Perm.from_word.Goals as goal

pub returns-in-rx-clause-value : goal.returns-in-rx-clause-value
returns-in-rx-clause-value c = grind (arith, common_steps)

pub returns-in-rx-clause-some : goal.returns-in-rx-clause-some
returns-in-rx-clause-some c = grind (arith, common_steps)

pub returns-in-rx-clause-back : goal.returns-in-rx-clause-back
returns-in-rx-clause-back c = search rules
