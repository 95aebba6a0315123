use Rattle.measurement.specs.Progress.{HasMeasured}
use Rattle.measurement.specs.Digests.{pages_from}
use Rattle.monitor_cli.specs.Measure.{page_of}
use Rattle.monitor_cli.proofs.measure.enclave_digest.Given as goal

abbrev pub invariant-loop-i : goal.invariant-loop-i
invariant-loop-i l = HasMeasured l.measure l.layout (pages_from (page_of l.bytes) 0 l.i)
