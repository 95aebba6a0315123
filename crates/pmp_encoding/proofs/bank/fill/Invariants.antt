use Rattle.std.proofs.Common.{◌≡◌, ◌/◌, ◌%◌, length, map, slice_index, take}
use Rattle.pmp_encoding.specs.Extents.{extent_of}
use Rattle.pmp_encoding.specs.Filled.{IsFilled}
use Rattle.pmp_encoding.proofs.bank.fill.Given as goal

abbrev pub invariant-loop-i : goal.invariant-loop-i
invariant-loop-i l = record {
  filled : IsFilled l.entries l.words l.addresses l.i;
  begun : (l.i % 8 ≡ 0 → ⊥) → l.word ≡ slice_index l.words (l.i / 8);
  room : length l.extents ≡ 64;
  in_order : take l.i l.extents ≡ map extent_of (take l.i l.entries);
}
