use Rattle.std.proofs.Common.{◌∙◌, List, ℕ, ap}
use Rattle.monitor_core.specs.Changes.{having_digest}
use Rattle.sbi_decode.specs.Registers.{zeros}
use Rattle.trap_server.specs.Sets.{bare}
use Rattle.trap_server.proofs.Served.{frame_reads, frame_writes, measure_stops}
use Rattle.trap_server.proofs.service.measure_made.Goals as goal

pub returns-in-Ok-clause-measured : goal.returns-in-Ok-clause-measured
returns-in-Ok-clause-measured g c =
    let r = c.in-Ok.ensures.read in (
      r.0,
      r.1,
      r.2,
      λ e live. c.give_digest.ensures e (λ who. zeros) live ∙ ap (having_digest (bare c.args.core.now) c.args.id e) r.4,
      r.3,
      c.in-Ok.ensures.asked,
    )

pub returns-in-Err-clause-measured : goal.returns-in-Err-clause-measured
returns-in-Err-clause-measured g c =
    measure_stops c.end.result c.in-Err.fault c.args.parts.now _ _ _ _ _ c.in-Err.ensures.read c.in-Err.ensures.asked c.end.ensures.last

pub returns-in-Err-clause-reads : goal.returns-in-Err-clause-reads
returns-in-Err-clause-reads g c = c.end.ensures.reads _ _ (frame_reads (List ℕ) c.in-Err.fault _ _ c.in-Err.ensures.failures)

pub returns-in-Err-clause-writes : goal.returns-in-Err-clause-writes
returns-in-Err-clause-writes g c = c.end.ensures.writes _ _ (frame_writes c.in-Err.fault _ _ _ _ c.in-Err.ensures.writes)
