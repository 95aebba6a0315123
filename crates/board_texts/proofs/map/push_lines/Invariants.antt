use Rattle.std.proofs.Common.{◌≡◌, ◌++◌, drop}
use Rattle.device_tree.specs.Meaning.{said_of}
use Rattle.board_texts.specs.Boards.{lines_text}
use Rattle.board_texts.proofs.map.push_lines.Given as goal

abbrev pub invariant-loop-run : goal.invariant-loop-run
invariant-loop-run l = l.text.items ++ lines_text (said_of l.found) (drop l.run-index l.run-items)
    ≡ l.initial.text.items ++ lines_text (said_of l.found) l.map
