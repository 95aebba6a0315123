-- A block of pages is a block that an entry can have.
use Rattle.std.proofs.Common.{arith}
use Rattle.entry_planner.proofs.BlockPages.{pages_block, pages_small}
use Rattle.entry_planner.proofs.placement.entry_of.Goals as goal

pub overflow_add-result : goal.overflow_add-result
overflow_add-result c = omega (arith, pages_small _ _ c.requires)

pub invariant_of-result : goal.invariant_of-result
invariant_of-result c = record { block = pages_block _ _ c.requires }
