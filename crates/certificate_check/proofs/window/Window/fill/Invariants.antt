use Rattle.std.proofs.Common.{◌≡◌, ◌≤◌, length}
use Rattle.certificate_check.specs.declared.window.Inflow.TheVariants.{Open}
use Rattle.certificate_check.specs.Windows.{place, Reads, Stays}
use Rattle.certificate_check.proofs.window.Window.fill.Given as goal

abbrev pub invariant-loop : goal.invariant-loop
invariant-loop g l = record {
  reads : Reads (place g.R.Source.remaining g.R.Source.failures l.initial.self l.initial.source)
      (place g.R.Source.remaining g.R.Source.failures l.self l.source) Stays;
  longer : l.self.inflow ≡ Open → l.counter ≤ length l.self.buffer;
}
