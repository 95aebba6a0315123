use Rattle.device_tree.specs.Trees.{reservations_of, strings_of, structure_of}
use Rattle.device_tree.specs.Nodes.{parts_of_tree}
use Rattle.device_tree.proofs.OneTree.{same_tree}
use Rattle.device_tree.proofs.TreeParts.{same_parts}
use Rattle.device_tree.proofs.Reserved.{same_reservations}
use Rattle.device_tree.proofs.tree.one_tree_law.Goals as goal

pub returns : goal.returns
returns c = λ bytes tree other reservations others h w. (
  same_tree tree other (same_parts (strings_of bytes) (structure_of bytes) (parts_of_tree tree) (parts_of_tree other) h.structure w.structure),
  same_reservations (reservations_of bytes) reservations others h.reserved w.reserved,
)
