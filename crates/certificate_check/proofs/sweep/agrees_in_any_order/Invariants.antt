use Rattle.std.proofs.Common.{◌≡◌, ℕ, ◌*◌, ◌<◌, ◌≤◌, ◌^◌, ◌-◌, slice_index_or}
use Rattle.permission_map.specs.Runs.{view_of_runs}
use Rattle.certificate_check.specs.declared.entries.Span.{Span}
use Rattle.certificate_check.specs.Spans.{ReadsAs, Decides, count_in}
use Rattle.certificate_check.specs.InOrder.{AreBegun, HaveEndedBut}
use Rattle.certificate_check.specs.Later.{AreLaterRuns}
use Rattle.certificate_check.proofs.sweep.agrees_in_any_order.Given as goal

abbrev pub invariant-loop-low : goal.invariant-loop-low
invariant-loop-low g l = record {
  inside : l.page ≤ 2 ^ 44;
  keys : l.low ≤ 2 ^ 63;
  order : l.page * 2 ^ 19 ≤ l.low;
  later : AreLaterRuns l.rest;
  few : l.sizes.bits < 2 ^ 45;
  ended : HaveEndedBut l.sizes l.page l.slots;
  same : (at : ℕ) → l.page ≤ at → view_of_runs l.rest at ≡ view_of_runs l.runs at;
  begun : (spans : ℕ → Span) → ReadsAs l.entries spans → AreBegun spans (count_in l.entries) l.low l.page l.slots;
  given : (spans : ℕ → Span) → ReadsAs l.entries spans → (at : ℕ) → at < l.page → Decides spans (count_in l.entries) at (view_of_runs l.runs at);
}

abbrev pub decreases-loop-low : goal.decreases-loop-low
decreases-loop-low g l = 2 ^ 63 - l.low

abbrev pub invariant-loop-key : goal.invariant-loop-key
invariant-loop-key g l = record {
  inside : l.page ≤ 2 ^ 44;
  order : l.page * 2 ^ 19 ≤ slice_index_or l.key-items l.key-index l.low;
  later : AreLaterRuns l.rest;
  few : l.sizes.bits < 2 ^ 45;
  ended : HaveEndedBut l.sizes l.page l.slots;
  same : (at : ℕ) → l.page ≤ at → view_of_runs l.rest at ≡ view_of_runs l.runs at;
  begun : (spans : ℕ → Span) → ReadsAs l.entries spans → AreBegun spans (count_in l.entries) (slice_index_or l.key-items l.key-index l.low) l.page l.slots;
  given : (spans : ℕ → Span) → ReadsAs l.entries spans → (at : ℕ) → at < l.page → Decides spans (count_in l.entries) at (view_of_runs l.runs at);
}
