use Rattle.std.proofs.Common.{ap, arith}
use Rattle.prefix_tree.specs.Counts.{splits}
use Rattle.prefix_tree.proofs.Canonical.{halves_fit}
use Rattle.prefix_tree.proofs.map_tree.+build_block.Goals as goal

pub build_block-requires : goal.build_block-requires
build_block-requires t c = (omega (arith, c.decreases, ap splits c.halves-lower.ensures), (halves_fit _ _ _ c.halves-lower.ensures c.requires).0)

pub build_block-requires-2 : goal.build_block-requires-2
build_block-requires-2 t c = (omega (arith, c.decreases, ap splits c.halves-lower.ensures), (halves_fit _ _ _ c.halves-lower.ensures c.requires).1)
