use Rattle.std.proofs.Common.{◌≡◌, ℕ, ◌^◌, ◌<◌, ◌≤◌, IfSome, IfNone, slice_index_or}
use Rattle.std.specs.Int.{bit_at}
use Rattle.certificate_check.specs.declared.begun.Begun.{Begun}
use Rattle.certificate_check.specs.InOrder.{HaveEndedBut}
use Rattle.certificate_check.proofs.begun.first_open.Given as goal

abbrev pub invariant-loop-size : goal.invariant-loop-size
invariant-loop-size l = record {
  few : l.sizes.bits < 2 ^ 45;
  left : l.left.bits < 2 ^ 45;
  among : (k : ℕ) → k < 45 → bit_at l.left.bits k ≡ 1 → bit_at l.sizes.bits k ≡ 1;
  ended : HaveEndedBut l.sizes l.page l.slots;
  stays : IfSome l.open (λ entry. l.page < entry.span.end);
  one : IfSome l.open (λ entry. (k : ℕ) × (k < 45) × ((d : Begun) → slice_index_or l.slots k d ≡ entry));
  least : IfSome l.open (λ entry. (k : ℕ) (d : Begun) → k < 45 → bit_at l.left.bits k ≡ 0 → l.page < (slice_index_or l.slots k d).span.end
      → entry.number ≤ (slice_index_or l.slots k d).number);
  none : IfNone l.open ((k : ℕ) (d : Begun) → k < 45 → bit_at l.left.bits k ≡ 0 → (slice_index_or l.slots k d).span.end ≤ l.page);
}

abbrev pub decreases-loop-size : goal.decreases-loop-size
decreases-loop-size l = l.left.bits
