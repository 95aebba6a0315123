-- The entries before the next stand at their places.
use Rattle.std.proofs.Common.{◌≡◌, length, take}
use Rattle.pmp_encoding.proofs.bank.unpacked.Given as goal

abbrev pub invariant-loop-i : goal.invariant-loop-i
invariant-loop-i l = record {
  room : length l.list ≡ 64;
  in_order : take l.i l.list ≡ take l.i l.entries;
}
