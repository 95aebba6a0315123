use Rattle.permission_map.specs.Runs.{AreRuns}
use Rattle.permission_map.proofs.Parted.{ends_small}
use Rattle.board_texts.proofs.platform.ram_of.Goals as goal

pub bytes_of-requires : goal.bytes_of-requires
bytes_of-requires c =
    let are : AreRuns c.ranges-run-items.result.now = rw c.ranges-run-items.ensures.value c.ranges-run-items.ensures.runs in
    ends_small c.ranges-run-items.result.now c.loop-run.run-index _ are c.loop-run-test.true
