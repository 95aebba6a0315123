-- The location of the monitor according to a tree, and the number of harts.
use Rattle.std.specs.Prelude.{ℕ, ◌+◌, ◌*◌, Bool, true, false, cond, leb, ltb, ◌&&◌}
use Rattle.std.specs.Prelude.{List, [], ◌∷◌, Option, Some, None, option_map}
use Rattle.std.specs.List.{list_any}
use Rattle.pmp_encoding.specs.declared.pages.PageRange.{PageRange}
use Rattle.device_tree.specs.declared.rows.Extent.{Extent}
use Rattle.device_tree.specs.declared.kinds.Kind.{Kind}
use Rattle.device_tree.specs.declared.kinds.Kind.TheVariants.{Memory, Reserved, Hart}
use Rattle.device_tree.specs.Meaning.{Range}
use Rattle.board_texts.specs.Pages.{outer}

-- the extent contains the byte
abbrev pub has_byte : Extent → ℕ → Bool
has_byte extent at = leb extent.base at && ltb at (extent.base + extent.size)

-- a range is memory
abbrev pub is_memory : Kind → Bool
is_memory Memory = true
is_memory _ = false

-- a range is memory that must not be mapped
abbrev pub is_reserved : Kind → Bool
is_reserved Reserved = true
is_reserved _ = false

-- a range is a hart
abbrev pub is_hart : Kind → Bool
is_hart Hart = true
is_hart _ = false

-- a range is memory and its start is inside the extent
abbrev pub begins_in : Extent → Range → Bool
begins_in extent range = is_memory range.kind && has_byte extent range.extent.base

-- the pages of the first reserved range that contains the start of a range of memory
abbrev pub monitor_in : List Range → List Range → Option PageRange
monitor_in all [] = None
monitor_in all (range ∷ ranges) = cond
    (is_reserved range.kind && list_any (begins_in range.extent) all) (Some (outer range.extent))
    (monitor_in all ranges)

-- the monitor's base and size: the given ones, otherwise those from the tree
abbrev pub monitor_of : Option (ℕ × ℕ) → List Range → Option (ℕ × ℕ)
monitor_of (Some given) ranges = Some given
monitor_of None ranges = option_map
    (λ (pages : PageRange). (4096 * pages.first, 4096 * pages.count)) (monitor_in ranges ranges)

-- the number of harts that the tree has in use
abbrev pub harts_of : List Range → ℕ
harts_of [] = 0
harts_of (range ∷ ranges) = cond (is_hart range.kind) 1 0 + harts_of ranges
