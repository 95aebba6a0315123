-- The pages of a board's ranges.
use Rattle.std.specs.Prelude.{ℕ, ◌+◌, ◌-◌, ◌*◌, ◌/◌, ◌^◌, Bool, cond, min, nat_lt, nat_le}
use Rattle.std.specs.Prelude.{◌==◌, ◌&&◌, List, map}
use Rattle.pmp_encoding.specs.declared.pages.PageRange.{PageRange}
use Rattle.device_tree.specs.declared.rows.Extent.{Extent}
use Rattle.device_tree.specs.declared.registers.Found.{Found}
use Rattle.device_tree.specs.declared.kinds.Kind.{Kind}
use Rattle.device_tree.specs.declared.kinds.Kind.TheVariants.{Memory, Device, Machine}
use Rattle.device_tree.specs.declared.kinds.Kind.TheVariants.{Reserved, Hart, Untranslated}
use Rattle.device_tree.specs.Meaning.{Range}

-- the range that the program found, as a value
abbrev pub range_of : Found → Range
range_of one = record { kind = one.kind; extent = one.extent; name = one.name.now }

-- the page of a byte, at most the end of the space
abbrev pub page_of : ℕ → ℕ
page_of byte = min (byte / 4096) (2 ^ 44)

-- the first page that does not begin before a byte, at most the end of the space
abbrev pub page_from : ℕ → ℕ
page_from byte = min ((byte + 4095) / 4096) (2 ^ 44)

-- the pages from `first` up to `end`, empty if `end` is lower
abbrev pub span : ℕ → ℕ → PageRange
span first end = record { first = first; count = end - first }

-- the pages that contain a byte of an extent
abbrev pub outer : Extent → PageRange
outer extent = cond (extent.size == 0) (span 0 0)
    (span (page_of extent.base) (page_from (extent.base + extent.size)))

-- the pages that lie entirely in an extent
abbrev pub inner : Extent → PageRange
inner extent = span (page_from extent.base) (page_of (extent.base + extent.size))

-- the pages of a range: whole pages for memory, every page with a byte of the range for other kinds
abbrev pub pages_by : Kind → Extent → PageRange
pages_by Memory extent = inner extent
pages_by Device extent = outer extent
pages_by Machine extent = outer extent
pages_by Reserved extent = outer extent
pages_by Hart extent = span 0 0
pages_by Untranslated extent = span 0 0

-- the pages of a range of a board
abbrev pub pages_of : Range → PageRange
pages_of range = pages_by range.kind range.extent

-- the pages of each range that the program found
abbrev pub all_pages : List Found → List PageRange
all_pages found = map (λ one. pages_of (range_of one)) found

-- the extent has a byte in the page, which is the meaning of `outer`
abbrev pub has_byte_of : Extent → ℕ → Bool
has_byte_of extent page = nat_lt 0 extent.size
    && (nat_lt (4096 * page) (extent.base + extent.size)
    && nat_lt extent.base (4096 * page + 4096))

-- the page lies entirely in the extent, which is the meaning of `inner`
abbrev pub has_all_of : Extent → ℕ → Bool
has_all_of extent page = nat_le extent.base (4096 * page)
    && nat_le (4096 * page + 4096) (extent.base + extent.size)
