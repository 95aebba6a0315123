use Rattle.std.proofs.Common.{◌≡◌, drop}
use Rattle.std.specs.List.{list_any}
use Rattle.device_tree.specs.Meaning.{said_of}
use Rattle.board_texts.specs.Monitors.{begins_in}
use Rattle.board_texts.proofs.monitor.memory_begins_in.Given as goal

abbrev pub invariant-loop-one : goal.invariant-loop-one
invariant-loop-one l = list_any (begins_in l.extent) (said_of (drop l.one-index l.found))
    ≡ list_any (begins_in l.extent) (said_of l.found)
