use Rattle.std.proofs.Common.{◌≡◌, ℕ, List, length, ◌+◌}
use Rattle.pmp_encoding.specs.declared.region.Entry.{Entry}
use Rattle.certificate_check.specs.Listed.{IsListed}
use Rattle.certificate_check.proofs.entry_list.entries.Given as goal

abbrev pub invariant-loop : goal.invariant-loop
invariant-loop l = record {
  read : (es : List Entry) × IsListed l.initial.reader l.reader es × (length es ≡ l.counter);
  given : (es : List Entry) (rest : List ℕ) → IsListed l.initial.reader rest es → length es ≡ l.count
      → (later : List Entry) × IsListed l.reader rest later × (length later + l.counter ≡ l.count);
}
