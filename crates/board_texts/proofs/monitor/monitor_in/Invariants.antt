use Rattle.std.proofs.Common.{◌≡◌, drop}
use Rattle.device_tree.specs.Meaning.{said_of}
use Rattle.board_texts.specs.Monitors.{monitor_in}
use Rattle.board_texts.proofs.monitor.monitor_in.Given as goal

abbrev pub invariant-loop-one : goal.invariant-loop-one
invariant-loop-one l = monitor_in (said_of l.found) (said_of (drop l.one-index l.found)) ≡ monitor_in (said_of l.found) (said_of l.found)
