use Rattle.std.proofs.Common.{◌≡◌, ℕ, ◌<◌, ◌≤◌, ◌^◌, ◌-◌}
use Rattle.permission_map.specs.Runs.{view_of_runs}
use Rattle.certificate_check.specs.declared.entries.Span.{Span}
use Rattle.certificate_check.specs.Spans.{ReadsAs, Decides, count_in}
use Rattle.certificate_check.specs.Places.{ArePlaces}
use Rattle.certificate_check.specs.Later.{AreLaterRuns}
use Rattle.certificate_check.proofs.sweep.agrees_in_chains.Given as goal

abbrev pub invariant-loop-page : goal.invariant-loop-page
invariant-loop-page l = record {
  inside : l.page ≤ 2 ^ 44;
  later : AreLaterRuns l.rest;
  same : (at : ℕ) → l.page ≤ at → view_of_runs l.rest at ≡ view_of_runs l.runs at;
  places : (spans : ℕ → Span) → ReadsAs l.entries spans → ArePlaces spans l.ends l.page l.places;
  given : (spans : ℕ → Span) → ReadsAs l.entries spans → (at : ℕ) → at < l.page → Decides spans (count_in l.entries) at (view_of_runs l.runs at);
}

abbrev pub decreases-loop-page : goal.decreases-loop-page
decreases-loop-page l = 2 ^ 44 - l.page
