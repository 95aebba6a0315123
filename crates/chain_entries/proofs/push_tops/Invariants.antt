-- The entries appended so far, and the remaining ones, are all.
use Rattle.std.proofs.Common.{◌≡◌, ◌<◌, ◌^◌, ◌++◌, drop}
use Rattle.chain_entries.specs.ChainEntries.{AreBelow, top_entries}
use Rattle.chain_entries.proofs.push_tops.Given as goal

abbrev pub invariant-loop-top : goal.invariant-loop-top
invariant-loop-top l = record {
  small : l.bottom < 2 ^ 54;
  below : AreBelow (2 ^ 54) (drop l.top-index l.tops);
  all : l.entries.items ++ top_entries l.bottom (drop l.top-index l.tops) ≡ l.initial.entries.items ++ top_entries l.initial.bottom l.tops;
}
