use Rattle.std.proofs.Common.{◌<◌, arith}
use Rattle.monitor_cli.specs.OnFiles.{whole, refused, stopped}
use Rattle.monitor_cli.proofs.on_files.close_output.Goals as goal
use Rattle.monitor_cli.proofs.on_files.close_output.Goals.{then-is_whole-via-then-is_whole, then-is_whole-via-else-is_whole+then-status-ge2}

pub returns-then-is_whole : goal.returns-then-is_whole
returns-then-is_whole g c = elim c.then-is_whole.branch [
  | then-is_whole-via-then-is_whole w ↦ rw c.report-status.ensures (whole (c.close-is_whole.ensures.whole w.if-is_whole.true))
  | then-is_whole-via-else-is_whole+then-status-ge2 w ↦
      let high = rw c.report-status.ensures at w.if-status-ge2.true in
      rw c.report-status.ensures (stopped high c.close-is_whole.ensures.part)
]

pub returns : goal.returns
returns g c =
    let low : c.report-status.result < 2 = omega (arith, c.if-status-ge2.false) in
    rw c.status.ensures (refused (rw c.report-status.ensures at low) c.close-is_whole.ensures.part)
