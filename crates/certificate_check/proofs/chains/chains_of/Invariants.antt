use Rattle.std.proofs.Common.{ℕ, ◌<◌, ◌≤◌}
use Rattle.certificate_check.specs.declared.entries.Span.{Span}
use Rattle.certificate_check.specs.Spans.{ReadsAs, IsChain, RiseTo, AreChains}
use Rattle.certificate_check.proofs.chains.chains_of.Given as goal

abbrev pub invariant-loop-i : goal.invariant-loop-i
invariant-loop-i l =
    (from : ℕ) × (from ≤ l.i) × RiseTo 0 l.ends.items from
    × ((spans : ℕ → Span) → ReadsAs l.entries spans
    → AreChains spans 0 l.ends.items from × IsChain spans from l.i × ((j : ℕ) → from ≤ j → j < l.i → (spans j).end ≤ l.last))
