-- The firmware's platform, and the part of it that a board has.
use Rattle.std.specs.Prelude.{◌≡◌, ℕ, zero, suc, ◌*◌, cond, eqb}
use Rattle.std.specs.Prelude.{List, [], ◌∷◌, ◌++◌, drop, true, false}
use Rattle.device_tree.specs.declared.reservations.Reservation.{Reservation}
use Rattle.device_tree.specs.Nodes.{Tree}
use Rattle.device_tree.specs.Trees.{ReadsAs}
use Rattle.device_tree.specs.declared.rows.Extent.{Extent}
use Rattle.device_tree.specs.Meaning.{Range, TreeSays}
use Rattle.host_tree.specs.declared.platform.PlatformWords.{PlatformWords}
use Rattle.host_tree.specs.declared.reserved.Purpose.TheVariants.{Monitor, Pool}
use Rattle.host_tree.specs.declared.reserved.Reserved.{Reserved}
use Rattle.host_tree.specs.Boards.{AreThere, HartsThere, extents_of}
use Rattle.host_tree.specs.HostNodes.{Portion}

-- the first `count` pairs of a base and a size, or all if there are fewer
abbrev pub pairs_in : ℕ → List ℕ → List Extent
pairs_in zero words = []
pairs_in (suc count) [] = []
pairs_in (suc count) (base ∷ []) = []
pairs_in (suc count) (base ∷ size ∷ later) = record { base = base; size = size }
    ∷ pairs_in count later

-- the first `count` triples of a base, a size and another number, or all if there are fewer
abbrev pub triples_in : ℕ → List ℕ → List Extent
triples_in zero words = []
triples_in (suc count) [] = []
triples_in (suc count) (base ∷ []) = []
triples_in (suc count) (base ∷ size ∷ []) = []
triples_in (suc count) (base ∷ size ∷ other ∷ later) = record { base = base; size = size }
    ∷ triples_in count later

-- the words of ranges, one after another
abbrev pub flat_words : List Extent → List ℕ
flat_words [] = []
flat_words (first ∷ later) = first.base ∷ first.size ∷ flat_words later

-- the part of a range that a board with this memory has
abbrev pub clipped_one : List Extent → Extent → List Extent → Type 0
clipped_one memory range kept = (there : ℕ) × AreThere memory range.base range.size there
    × (kept ≡ cond (eqb there 0) [] (record { base = range.base; size = there } ∷ []))

-- the parts of ranges that a board with this memory has, in their order
abbrev pub IsClipped : List Extent → List Extent → List Extent → Type 0
IsClipped memory [] kept = kept ≡ []
IsClipped memory (first ∷ later) kept = (one others : List Extent) × clipped_one memory first one
    × IsClipped memory later others × (kept ≡ one ++ others)

-- `new` is `old` clipped to the board whose tree the bytes begin with, and otherwise unchanged
pub record IsFound (bytes : List ℕ) (old new : PlatformWords) : Type 0 where
  pub tree : Tree
  pub reservations : List Reservation
  pub ranges : List Range
  pub read : ReadsAs bytes tree reservations
  pub said : TreeSays tree ranges
  pub harts : HartsThere (extents_of true ranges) old.harts new.harts
  pub memory : IsClipped (extents_of false ranges) (pairs_in old.ram_count old.ram)
      (pairs_in new.ram_count new.ram)
  -- the words after these pairs are unchanged
  pub behind : drop (2 * new.ram_count) new.ram ≡ drop (2 * new.ram_count) old.ram
  pub tag : new.tag ≡ old.tag
  pub entries : new.entries ≡ old.entries
  pub monitor_base : new.monitor_base ≡ old.monitor_base
  pub monitor_size : new.monitor_size ≡ old.monitor_size
  pub device_count : new.device_count ≡ old.device_count
  pub device : new.device ≡ old.device

-- the portion of a platform's host
abbrev pub portion_in : PlatformWords → Portion
portion_in platform = record {
  harts = platform.harts;
  ranges = pairs_in platform.ram_count platform.ram
      ++ triples_in platform.device_count platform.device;
}

-- the reserved ranges: the monitor's, and the pool of enclaves if it has a size
abbrev pub reserved_in : PlatformWords → Extent → List Reserved
reserved_in platform pool = record {
  purpose = Monitor;
  extent = record { base = platform.monitor_base; size = platform.monitor_size };
} ∷ cond (eqb pool.size 0) [] (record { purpose = Pool; extent = pool } ∷ [])
