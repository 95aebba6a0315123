use Rattle.std.proofs.Common.{◌-◌, ℕ, ◌≤◌}
use Rattle.certificate_check.specs.declared.entries.Span.{Span}
use Rattle.certificate_check.specs.Spans.{ReadsAs}
use Rattle.certificate_check.specs.Places.{IsPlace}
use Rattle.certificate_check.proofs.chains.next_in_chain.Given as goal

abbrev pub invariant-loop-span : goal.invariant-loop-span
invariant-loop-span l = record {
  low : l.from ≤ l.next;
  value : (spans : ℕ → Span) → ReadsAs l.entries spans → IsPlace spans l.from l.to l.page l.fn.place
      → IsPlace spans l.from l.to l.page (record { next = l.next; span = l.span });
}

abbrev pub decreases-loop-span : goal.decreases-loop-span
decreases-loop-span l = l.to - l.next
