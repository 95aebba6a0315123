-- The space of bytes, cut where the permission of a view or the deciding extent of a list changes.
use Rattle.std.specs.Prelude.{◌≡◌, ◌≢◌, ◌⊎◌, ℕ, ◌+◌, ◌/◌, ◌^◌, ◌<◌, ◌≤◌, if◌then◌else◌, List, []}
use Rattle.std.specs.Prelude.{◌∷◌, Option, None, Some}
use Rattle.pmp_encoding.specs.declared.extent.Extent.{Extent}
use Rattle.pmp_encoding.specs.Views.{View}
use Rattle.pmp_match.specs.RegisterBytes.{has_byte, perm_at}
use Rattle.map_table.specs.declared.stretch.Stretch.{Stretch}

-- the number of the first extent that contains the byte, if the first of the list has the number n
abbrev pub decider_from : ℕ → List Extent → ℕ → Option ℕ
decider_from n [] byte = None
decider_from n (x ∷ extents) byte = if has_byte x byte then Some n
    else decider_from (n + 1) extents byte

-- the number of the first extent that contains a byte
abbrev pub decider : List Extent → ℕ → Option ℕ
decider extents byte = decider_from 0 extents byte

-- the stretch is maximal from its first byte on: all its bytes have one permission of the view and
-- one deciding extent
pub record IsStretch (view : View) (extents : List Extent) (s : Stretch) : Type 0 where
  pub some : s.first < s.end
  pub inside : s.end ≤ 2 ^ 56
  pub wanted : (byte : ℕ) → s.first ≤ byte → byte < s.end → view (byte / 4096) ≡ s.wanted
  pub decided : (byte : ℕ) → s.first ≤ byte → byte < s.end → decider extents byte ≡ s.entry
  pub given : (byte : ℕ) → s.first ≤ byte → byte < s.end → perm_at extents byte ≡ s.given
  pub maximal : s.end < 2 ^ 56 → (view (s.end / 4096) ≢ s.wanted)
      ⊎ (decider extents s.end ≢ s.entry)

-- consecutive stretches, from one byte up to another
abbrev pub AreStretches : View → List Extent → ℕ → List Stretch → ℕ → Type 0
AreStretches view extents from [] to = from ≡ to
AreStretches view extents from (s ∷ stretches) to =
    (s.first ≡ from) × IsStretch view extents s × AreStretches view extents s.end stretches to
