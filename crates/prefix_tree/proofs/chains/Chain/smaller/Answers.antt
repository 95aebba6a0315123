use Rattle.std.proofs.Common.{arith}
use Rattle.prefix_tree.proofs.Nested.{smaller_is, smaller_stays}
use Rattle.prefix_tree.proofs.chains.Chain.smaller.Goals as goal

pub returns-then-half-self : goal.returns-then-half-self
returns-then-half-self c = smaller_is _ _ c.pages_of-half.ensures (omega (arith, c.if-half-self.true))

pub returns : goal.returns
returns c = smaller_stays _ _ c.pages_of-half.ensures (omega (arith, c.if-half-self.false))
