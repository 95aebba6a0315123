use Rattle.permission_map.specs.Runs.{AreRuns}
use Rattle.permission_map.proofs.Parted.{ends_small}
use Rattle.board_texts.proofs.platform.devices_of.Goals as goal

pub device_of-requires : goal.device_of-requires
device_of-requires c =
    let are : AreRuns c.ranges-run-items.result.now = rw c.ranges-run-items.ensures.value c.ranges-run-items.ensures.runs in
    ends_small c.ranges-run-items.result.now c.loop-run.run-index _ are c.loop-run-test.true
