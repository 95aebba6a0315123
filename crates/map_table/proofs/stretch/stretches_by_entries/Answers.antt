-- The extents of entries are of whole words.
use Rattle.std.proofs.lemmas.List.Elements.{All-from_recursion}
use Rattle.pmp_match.specs.RegisterDecision.{IsWords}
use Rattle.pmp_match.specs.Lists.{matched_by}
use Rattle.pmp_match.proofs.Instance.{entries_words}
use Rattle.map_table.proofs.stretch.stretches_by_entries.Goals as goal

pub stretches-requires : goal.stretches-requires
stretches-requires c = rw (c.as_slice.ensures.value, c.in_ok-extents.ensures)
    (All-from_recursion IsWords (matched_by c.args.entries.now) (entries_words c.args.entries.now))
