use Rattle.std.proofs.Common.{◌≡◌, ◌≤◌, ◌+◌, ◌-◌, ◌^◌, ℕ, List, ◌++◌, Some, length}
use Rattle.text_lines.specs.LineReaders.{came_of, most_of, number_of}
use Rattle.text_lines.specs.WholeTexts.{left_of}
use Rattle.text_lines.specs.Lines.{raw_lines}
use Rattle.register_audit.specs.RegisterListings.{nothing_set, set_by_lines, sets_alone}
use Rattle.register_audit.proofs.listing.register_listing.Given as goal

abbrev pub invariant-loop-lines : goal.invariant-loop-lines
invariant-loop-lines l = record {
  followed : (before : List (List ℕ)) × (raw_lines l.bytes ≡ before ++ raw_lines (left_of l.lines l.rest)) × (length before ≡ number_of l.lines)
      × (set_by_lines (sets_alone l.xlen) (nothing_set l.xlen) 1 before ≡ Some l.listing);
  came : came_of l.lines + length l.rest ≡ length l.bytes;
  width : l.listing.registers.xlen ≡ l.xlen;
  counted : l.count ≡ number_of l.lines;
  few : l.listing.pairs ≤ number_of l.lines;
  limit : most_of l.lines ≡ 2 ^ 64 - 1;
}

abbrev pub decreases-loop-lines : goal.decreases-loop-lines
decreases-loop-lines l = length (left_of l.lines l.rest)
