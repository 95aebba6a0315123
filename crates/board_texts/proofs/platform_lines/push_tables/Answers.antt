use Rattle.std.proofs.Common.{refl}
use Rattle.device_tree.specs.Meaning.{said_of}
use Rattle.permission_map.specs.Runs.{AreRuns}
use Rattle.permission_map.proofs.Parted.{ends_small}
use Rattle.board_texts.specs.Platforms.{tables_text, part_text}
use Rattle.board_texts.proofs.Parts.{next_part}
use Rattle.board_texts.proofs.platform_lines.push_tables.Goals as goal

pub push_part-requires-clause-inside : goal.push_part-requires-clause-inside
push_part-requires-clause-inside c =
    let are : AreRuns c.ranges-run-items.result.now = rw c.ranges-run-items.ensures.value c.ranges-run-items.ensures.runs in
    ends_small c.ranges-run-items.result.now c.loop-run.run-index _ are c.loop-run-test.true

pub loop-run-preserved : goal.loop-run-preserved
loop-run-preserved c = next_part (tables_text (said_of c.args.found.now)) (part_text (said_of c.args.found.now))
    (λ x xs. refl) _ _ _ c.ranges-run-items.result.now
    c.loop-run.run-index _ c.loop-run-test.true c.loop-run.invariant c.in_ok-push_part.ensures
