use Rattle.std.proofs.Common.{◌≡◌, ◌≤◌, ◌<◌}
use Rattle.std.specs.Prelude.{⊤}
use Rattle.certificate_check.specs.declared.window.Inflow.TheVariants.{Open}
use Rattle.certificate_check.specs.Windows.{place, Reads}
use Rattle.certificate_check.proofs.window.Window.drain.Given as goal

abbrev pub invariant-loop : goal.invariant-loop
invariant-loop g l = record {
  reads : Reads (place g.R.Source.remaining g.R.Source.failures l.initial.self l.initial.source)
      (place g.R.Source.remaining g.R.Source.failures l.self l.source) (λ _ _. ⊤);
  most : l.self.most ≡ l.initial.self.most;
  more : l.self.inflow ≡ Open → l.counter ≤ l.self.came;
  few : 0 < l.counter → l.self.inflow ≡ Open → l.self.came ≤ l.self.most;
}
