use Rattle.std.proofs.Common.{◌≡◌, ◌++◌, drop}
use Rattle.board_texts.specs.Platforms.{devices_of}
use Rattle.board_texts.proofs.platform.devices_of.Given as goal

abbrev pub invariant-loop-run : goal.invariant-loop-run
invariant-loop-run l = l.devices.items ++ devices_of (drop l.run-index l.run-items) ≡ devices_of l.map
