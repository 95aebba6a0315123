use Rattle.std.proofs.Common.{◌≡◌, List, length}
use Rattle.pmp_encoding.specs.declared.region.Entry.{Entry}
use Rattle.certificate_format.specs.Spelling.{SpellsEntries}
use Rattle.certificate_check.specs.Listed.{IsListed}
use Rattle.certificate_check.specs.Windows.{place, Reads}
use Rattle.certificate_check.proofs.source.entries_from.Given as goal

abbrev pub invariant-loop : goal.invariant-loop
invariant-loop g l = record {
  read : Reads (place g.R.Source.remaining g.R.Source.failures l.initial.window l.initial.source)
      (place g.R.Source.remaining g.R.Source.failures l.window l.source)
      (λ left mid. (es : List Entry) × IsListed left mid es × (length es ≡ l.counter) × SpellsEntries l.list.items es);
}
