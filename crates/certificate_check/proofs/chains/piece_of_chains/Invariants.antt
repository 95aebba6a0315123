use Rattle.std.proofs.Common.{◌≡◌, ℕ, ◌<◌, ◌≤◌, ◌^◌, length, drop}
use Rattle.certificate_check.specs.declared.entries.Span.{Span}
use Rattle.certificate_check.specs.Spans.{ReadsAs, AreClear, RiseTo, AreChains, count_in}
use Rattle.certificate_check.specs.Places.{start_of, ArePlaces}
use Rattle.certificate_check.proofs.chains.piece_of_chains.Given as goal

abbrev pub invariant-loop-i : goal.invariant-loop-i
invariant-loop-i l = record {
  some : l.page < l.end;
  inside : l.end ≤ 2 ^ 44;
  long : length l.places ≡ 45;
  rise : RiseTo (start_of l.ends l.i) (drop l.i l.ends) (count_in l.entries);
  chains : (spans : ℕ → Span) → ReadsAs l.entries spans → AreChains spans (start_of l.ends l.i) (drop l.i l.ends) (count_in l.entries);
  clear : (spans : ℕ → Span) → ReadsAs l.entries spans → AreClear spans (start_of l.ends l.i) l.page l.end;
  places : (spans : ℕ → Span) → ReadsAs l.entries spans → ArePlaces spans l.ends l.page l.places;
}
