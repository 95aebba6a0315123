-- The part's size is told by the digits in which the places of the page before the first edge and of the last edge differ.
use Rattle.std.proofs.Common.{refl, arith}
use Rattle.prefix_tree.proofs.Nested.{part_is}
use Rattle.prefix_tree.proofs.chains.part_around.Goals as goal

pub pages_of-size-requires : goal.pages_of-size-requires
pages_of-size-requires c =
    omega (
      arith,
      (part_is c.args.first c.args.height c.args.edges.low c.args.edges.high _ c.requires.height c.requires.low c.requires.rising c.requires.high
          refl).0,
      c.requires.height,
    )

pub overflow_sub-result : goal.overflow_sub-result
overflow_sub-result c = (part_is c.args.first c.args.height c.args.edges.low c.args.edges.high _ c.requires.height c.requires.low c.requires.rising
    c.requires.high refl).0

pub returns : goal.returns
returns c =
    rw c.pages_of-size.ensures ((part_is c.args.first c.args.height c.args.edges.low c.args.edges.high _ c.requires.height c.requires.low c.requires.rising
    c.requires.high refl).1)
