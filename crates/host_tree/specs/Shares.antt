-- The part of a board that its host may use, and the nodes that are closed to the host.
use Rattle.std.specs.Prelude.{ℕ, ◌-◌, Bool, true, false, ◌&&◌, ◌||◌, not, leb, ltb}
use Rattle.std.specs.Prelude.{List, [], ◌∷◌, Option, None, Some, codes}
use Rattle.device_tree.specs.Pieces.{Part}
use Rattle.device_tree.specs.declared.kinds.Kind.{Kind}
use Rattle.device_tree.specs.declared.kinds.Kind.TheVariants.{Memory, Device, Machine}
use Rattle.device_tree.specs.declared.kinds.Kind.TheVariants.{Reserved, Hart, Untranslated}
use Rattle.device_tree.specs.declared.rows.Extent.{Extent}
use Rattle.device_tree.specs.Windows.{Path, at_root}
use Rattle.device_tree.specs.Properties.{value_in}
use Rattle.device_tree.specs.Meaning.{is_there}

-- all of an extent is in the range
abbrev pub is_around : Extent → Extent → Bool
is_around range extent = leb range.base extent.base
    && (ltb (extent.base - range.base) range.size
    && leb extent.size (range.size - (extent.base - range.base)))

-- all of an extent is in one of the ranges
abbrev pub is_within : List Extent → Extent → Bool
is_within [] extent = false
is_within (first ∷ later) extent = is_around first extent || is_within later extent

-- an extent has an address at the root and is in one of the ranges there
abbrev pub is_reached : List Extent → Option Extent → Bool
is_reached ranges None = false
is_reached ranges (Some extent) = is_within ranges extent

-- the host may use a row of registers
abbrev pub is_hosts : List Extent → Path → Extent → Bool
is_hosts ranges way row = is_reached ranges (at_root way row)

-- the host may use all rows of registers
abbrev pub are_hosts : List Extent → Path → List Extent → Bool
are_hosts ranges way [] = true
are_hosts ranges way (first ∷ later) = is_hosts ranges way first && are_hosts ranges way later

-- the host may use the hart: the first of its numbers is below the limit
abbrev pub has_hart : ℕ → List Extent → Bool
has_hart harts [] = false
has_hart harts (first ∷ later) = ltb first.base harts

-- the host may use a node with these registers: a hart must be the host's, and so must all
-- registers of a device
abbrev pub is_kept : ℕ → List Extent → Path → Option Kind → List Extent → Bool
is_kept harts ranges way None rows = true
is_kept harts ranges way (Some Memory) rows = true
is_kept harts ranges way (Some Reserved) rows = true
is_kept harts ranges way (Some Untranslated) rows = true
is_kept harts ranges way (Some Hart) rows = has_hart harts rows
is_kept harts ranges way (Some Device) rows = are_hosts ranges way rows
is_kept harts ranges way (Some Machine) rows = are_hosts ranges way rows

-- a node is closed: the host may not use it, or its registers are another node's (`regmap`)
abbrev pub is_closed : ℕ → List Extent → Path → Option Kind → List Extent → List Part → Bool
is_closed harts ranges way kind rows properties = not (is_kept harts ranges way kind rows)
    || is_there (value_in (codes "regmap") properties)
