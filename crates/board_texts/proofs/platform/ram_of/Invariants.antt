use Rattle.std.proofs.Common.{◌≡◌, ◌++◌, drop}
use Rattle.board_texts.specs.Platforms.{ram_of}
use Rattle.board_texts.proofs.platform.ram_of.Given as goal

abbrev pub invariant-loop-run : goal.invariant-loop-run
invariant-loop-run l = l.ram.items ++ ram_of (drop l.run-index l.run-items) ≡ ram_of l.map
