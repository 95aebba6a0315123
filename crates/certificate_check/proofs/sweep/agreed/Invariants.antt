use Rattle.std.proofs.Common.{◌≡◌, ℕ, ◌^◌, ◌<◌, ◌≤◌, ◌-◌}
use Rattle.permission_map.specs.Runs.{view_of_runs}
use Rattle.certificate_check.specs.declared.entries.Span.{Span}
use Rattle.certificate_check.specs.Spans.{Decides, AreBlocks}
use Rattle.certificate_check.specs.InOrder.{AreBegun, HaveEndedBut, NoneBegins}
use Rattle.certificate_check.specs.Later.{AreLaterRuns}
use Rattle.certificate_check.proofs.sweep.agreed.Given as goal

abbrev pub invariant-loop-page : goal.invariant-loop-page
invariant-loop-page l = record {
  low : l.from ≤ l.page;
  high : l.page ≤ l.to;
  few : l.sizes.bits < 2 ^ 45;
  ended : HaveEndedBut l.sizes l.page l.slots;
  later : AreLaterRuns l.rest;
  same : (at : ℕ) → l.page ≤ at → view_of_runs l.rest at ≡ view_of_runs l.runs at;
  given :
      (spans : ℕ → Span) (count below : ℕ) → AreBlocks spans count → AreBegun spans count below l.from l.slots → NoneBegins spans count below l.to
      → (at : ℕ) → l.from ≤ at → at < l.page → Decides spans count at (view_of_runs l.runs at);
}

abbrev pub decreases-loop-page : goal.decreases-loop-page
decreases-loop-page l = l.to - l.page
