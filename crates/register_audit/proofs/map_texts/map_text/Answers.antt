use Rattle.std.proofs.Common.{◌≡◌, ℕ, ◌+◌, ◌++◌, ◌<◌, List, append_assoc, drop, get_or, length}
use Rattle.std.proofs.lemmas.List.{drop_more}
use Rattle.permission_map.specs.declared.runs.Run.{Run}
use Rattle.permission_map.specs.Runs.{AreRuns}
use Rattle.permission_map.proofs.Parted.{ends_small}
use Rattle.register_audit.specs.MapTexts.{map_text, run_text}
use Rattle.register_audit.proofs.map_texts.map_text.Goals as goal

next_line :
    (text line whole : List ℕ) (runs : List Run) (i : ℕ) (d : Run) → i < length runs → text ++ map_text (drop i runs) ≡ whole
    → line ≡ run_text (get_or runs i d)
    → (text ++ line) ++ map_text (drop (i + 1) runs) ≡ whole
next_line text line whole runs i d inside so_far is =
    let more = rw (drop_more runs i d inside) at so_far in
    rw (is, append_assoc) more

pub run_line-line-requires : goal.run_line-line-requires
run_line-line-requires c =
    let are : AreRuns c.ranges-run-items.result.now = rw c.ranges-run-items.ensures.value c.ranges-run-items.ensures.runs in
    ends_small c.ranges-run-items.result.now c.loop-run.run-index _ are c.loop-run-test.true

pub loop-run-preserved : goal.loop-run-preserved
loop-run-preserved c =
    rw (c.in_ok-extend_from_slice.ensures.items, c.as_slice.ensures.value)
    (next_line c.loop-run.text.items _ _ c.ranges-run-items.result.now c.loop-run.run-index _ c.loop-run-test.true c.loop-run.invariant c.run_line-line.ensures)
