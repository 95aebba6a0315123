use Rattle.std.proofs.Common.{◌≡◌, ◌+◌, ◌≤◌, drop}
use Rattle.device_tree.specs.Meaning.{said_of}
use Rattle.board_texts.specs.Monitors.{harts_of}
use Rattle.board_texts.proofs.harts.harts_of.Given as goal

abbrev pub invariant-loop-one : goal.invariant-loop-one
invariant-loop-one l = record {
  few : l.harts ≤ l.one-index;
  all : l.harts + harts_of (said_of (drop l.one-index l.found)) ≡ harts_of (said_of l.found);
}
