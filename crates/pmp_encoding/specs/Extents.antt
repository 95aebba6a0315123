-- The extents of a bank's entries, against which accesses are matched.
use Rattle.std.specs.Prelude.{◌≡◌, ℕ, ◌+◌, ◌^◌, ◌≤◌, List, length, take, map}
use Rattle.pmp_encoding.specs.declared.extent.Extent.{Extent}
use Rattle.pmp_encoding.specs.declared.region.Entry.{Entry}
use Rattle.pmp_encoding.specs.Lists.{MeansList}
use Rattle.pmp_encoding.specs.Registers.{pairs_from}

-- the range of addresses of an entry's region, with its permission
abbrev pub extent_of : Entry → Extent
extent_of e = record {
  base = e.region.base;
  end = e.region.base + 2 ^ e.region.log2;
  perm = e.perm;
}

-- the first `used` extents are those of the entries that the pairs below `count` mean, in order
pub record AreExtents (words addresses : List ℕ) (count : ℕ) (extents : List Extent) (used : ℕ) :
    Type 0 where
  pub room : used ≤ length extents
  pub in_order : (entries : List Entry) → MeansList (pairs_from words addresses 0 count) entries
      → take used extents ≡ map extent_of entries
