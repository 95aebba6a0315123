use Rattle.std.proofs.Common.{List, ℕ}
use Rattle.certificate_check.specs.Windows.{place, Reads}
use Rattle.certificate_check.proofs.Listing.{AreHeld}
use Rattle.certificate_check.proofs.source.stop_among.Given as goal

abbrev pub invariant-loop : goal.invariant-loop
invariant-loop g l = record {
  read : Reads (place g.R.Source.remaining g.R.Source.failures l.initial.window l.initial.source)
      (place g.R.Source.remaining g.R.Source.failures l.window l.source)
      (λ left mid. (list : List ℕ) × AreHeld l.counter list left mid);
}
