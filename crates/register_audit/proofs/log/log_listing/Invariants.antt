use Rattle.std.proofs.Common.{◌≡◌, ◌+◌, ◌≤◌, List, ℕ, ◌++◌, Some, length}
use Rattle.text_lines.specs.Lines.{raw_lines}
use Rattle.register_audit.specs.RegisterListings.{nothing_set, set_by_lines, sets_next}
use Rattle.register_audit.proofs.log.log_listing.Given as goal

abbrev pub invariant-loop-rest : goal.invariant-loop-rest
invariant-loop-rest l = record {
  followed : (before : List (List ℕ)) × (raw_lines l.bytes ≡ before ++ raw_lines l.rest) × (length before ≡ l.number)
      × (set_by_lines (sets_next l.xlen) (nothing_set l.xlen) 1 before ≡ Some l.listing);
  width : l.listing.registers.xlen ≡ l.xlen;
  few : l.listing.pairs ≤ l.number;
  counted : l.number + length l.rest ≤ length l.bytes;
}

abbrev pub decreases-loop-rest : goal.decreases-loop-rest
decreases-loop-rest l = length l.rest
