use Rattle.std.proofs.Common.{◌≡◌, ◌++◌, drop}
use Rattle.device_tree.specs.Meaning.{said_of}
use Rattle.host_tree.specs.Boards.{extents_of}
use Rattle.host_tree.proofs.board.extents_of.Given as goal

abbrev pub invariant-loop-one : goal.invariant-loop-one
invariant-loop-one l = l.list.items ++ extents_of l.is_hart (said_of (drop l.one-index l.found)) ≡ extents_of l.is_hart (said_of l.found)
