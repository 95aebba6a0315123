use Rattle.std.proofs.Common.{◌≡◌, ◌++◌, drop}
use Rattle.device_tree.specs.Meaning.{said_of}
use Rattle.board_texts.specs.Platforms.{tables_text}
use Rattle.board_texts.proofs.platform_lines.push_tables.Given as goal

abbrev pub invariant-loop-run : goal.invariant-loop-run
invariant-loop-run l = l.text.items ++ tables_text (said_of l.found) (drop l.run-index l.run-items)
    ≡ l.initial.text.items ++ tables_text (said_of l.found) l.map
