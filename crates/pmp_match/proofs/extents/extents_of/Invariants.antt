-- The first entries: what they match, and that none has a reserved value.
use Rattle.std.proofs.Common.{◌≡◌, ◌<◌, ℕ, length, take}
use Rattle.pmp_match.specs.RegisterMatching.{AreExtentsFrom}
use Rattle.pmp_match.specs.Registers.{cfg_at}
use Rattle.pmp_match.specs.Reserved.{IsDefined}
use Rattle.pmp_match.proofs.extents.extents_of.Given as goal

abbrev pub invariant-loop-place : goal.invariant-loop-place
invariant-loop-place l = record {
  room : length l.extents ≡ 64;
  each : AreExtentsFrom l.registers 0 (take l.place l.extents);
  below : (place : ℕ) → place < l.place → IsDefined l.registers.security (cfg_at l.registers place);
}
