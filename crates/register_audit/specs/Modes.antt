-- The permissions that the entries of registers grant a mode, and the meaning of registers as a
-- view for it.
use Rattle.std.specs.Prelude.{◌≡◌, ℕ, ◌+◌, ◌/◌, ◌^◌, ◌<◌, ◌↔◌, true, List, [], ◌∷◌, ◌++◌}
use Rattle.pmp_encoding.specs.declared.extent.Extent.{Extent}
use Rattle.pmp_encoding.specs.declared.perm.Perm.{Perm}
use Rattle.pmp_encoding.specs.declared.xlen.Xlen.{Xlen}
use Rattle.pmp_encoding.specs.Views.{View}
use Rattle.pmp_encoding.specs.Widths.{space_end}
use Rattle.pmp_match.specs.declared.access.Access.{Access}
use Rattle.pmp_match.specs.declared.access.Mode.{Mode}
use Rattle.pmp_match.specs.declared.registers.Registers.{Registers}
use Rattle.pmp_match.specs.Accesses.{IsAligned}
use Rattle.pmp_match.specs.Kinds.{holds}
use Rattle.pmp_match.specs.RegisterMatching.{AreExtents}
use Rattle.register_audit.specs.Decision.{RegistersAllow, default_perm, perm_in}

-- the addresses of an extent, with another permission
abbrev pub with_perm : Extent → Perm → Extent
with_perm x perm = record { base = x.base; end = x.end; perm = perm }

-- the whole space of a hart of that width, with one permission
abbrev pub everywhere : Xlen → Perm → Extent
everywhere xlen perm = record { base = 0; end = space_end xlen; perm = perm }

-- the entries from an index on, with the permissions that they grant a mode
abbrev pub entries_from : Registers → Mode → ℕ → List Extent → List Extent
entries_from registers mode place [] = []
entries_from registers mode place (x ∷ extents) =
    with_perm x (perm_in registers mode place x)
    ∷ entries_from registers mode (place + 1) extents

-- all entries with the permissions that they grant a mode, followed by the whole space with the
-- mode's default permission
abbrev pub given_by : Registers → Mode → List Extent → List Extent
given_by registers mode extents = entries_from registers mode 0 extents
    ++ everywhere registers.xlen (default_perm registers mode) ∷ []

-- the permissions that registers without a reserved value grant a mode
abbrev pub AreGiven : Mode → Registers → List Extent → Type 0
AreGiven mode registers given = (extents : List Extent) × AreExtents registers extents
    × (given ≡ given_by registers mode extents)

-- the registers have no reserved value, and they allow the mode each aligned access at an address
-- of the hart iff the view does; the view allows no access elsewhere
pub record MeanFor (mode : Mode) (registers : Registers) (view : View) : Type 0 where
  pub extents : List Extent
  pub are_extents : AreExtents registers extents
  pub means : (a : Access) → a.mode ≡ mode → IsAligned a → a.address < 2 ^ 56
      → ((a.address < space_end registers.xlen) × RegistersAllow registers a)
      ↔ (holds (view (a.address / 4096)) a.kind ≡ true)
