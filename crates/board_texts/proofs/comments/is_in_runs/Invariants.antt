use Rattle.std.proofs.Common.{◌≡◌, drop}
use Rattle.std.specs.List.{list_any}
use Rattle.board_texts.specs.Comments.{is_from}
use Rattle.board_texts.specs.Pages.{range_of}
use Rattle.board_texts.proofs.comments.is_in_runs.Given as goal

abbrev pub invariant-loop-run : goal.invariant-loop-run
invariant-loop-run l = list_any (λ run. is_from run (range_of l.found)) (drop l.run-index l.runs)
    ≡ list_any (λ run. is_from run (range_of l.found)) l.runs
