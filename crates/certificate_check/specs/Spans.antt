-- The entries of a list as spans of whole pages.
use Rattle.std.specs.Prelude.{◌≡◌, ℕ, ◌+◌, ◌*◌, ◌/◌, ◌^◌, ◌<◌, ◌≤◌, List, [], ◌∷◌, length, drop}
use Rattle.std.specs.Prelude.{slice_index}
use Rattle.byteorder.specs.Endian.{little_number}
use Rattle.pmp_encoding.specs.declared.perm.Perm.{Perm}
use Rattle.pmp_encoding.specs.declared.perm.Perm.TheVariants.{NoAccess}
use Rattle.pmp_encoding.specs.declared.region.Entry.{Entry}
use Rattle.pmp_encoding.specs.Encoding.{MeansEntry}
use Rattle.certificate_check.specs.declared.entries.Bounds.{Bounds}
use Rattle.certificate_check.specs.declared.entries.Span.{Span}

-- the span consists of the pages of the entry's region, which are whole, with its permission
pub record IsSpanOf (e : Entry) (s : Span) : Type 0 where
  pub first : s.first * 4096 ≡ e.region.base
  pub last : s.end * 4096 ≡ e.region.base + 2 ^ e.region.log2
  pub size : s.size + 12 ≡ e.region.log2
  pub perm : s.perm ≡ e.perm

-- the bounds are those of the pages of the entry's region, which are whole
pub record AreBoundsOf (e : Entry) (b : Bounds) : Type 0 where
  pub first : b.first * 4096 ≡ e.region.base
  pub end : b.end * 4096 ≡ e.region.base + 2 ^ e.region.log2

-- the i-th nine bytes mean an entry of at least a page, with the pages of the span
pub record IsSpanAt (bytes : List ℕ) (i : ℕ) (s : Span) : Type 0 where
  pub entry : Entry
  pub means : MeansEntry (slice_index bytes (9 * i)) (little_number 8 (drop (9 * i + 1) bytes))
      entry
  pub page : 12 ≤ entry.region.log2
  pub span : IsSpanOf entry s

-- the number of entries of nine bytes
abbrev pub count_in : List ℕ → ℕ
count_in bytes = length bytes / 9

-- each nine bytes mean an entry, with the pages of the span of its number
abbrev pub ReadsAs : List ℕ → (ℕ → Span) → Type 0
ReadsAs bytes spans = (i : ℕ) → i < count_in bytes → IsSpanAt bytes i (spans i)

-- each nine bytes mean an entry of at least a page
abbrev pub AreEntries : List ℕ → Type 0
AreEntries bytes = (i : ℕ) → i < count_in bytes → (s : Span) × IsSpanAt bytes i s

-- the span contains the page
abbrev pub Covers : Span → ℕ → Type 0
Covers s page = (s.first ≤ page) × (page < s.end)

-- the permission of the first span that covers the page, or no access if no span does
pub data Decides (spans : ℕ → Span) (count page : ℕ) : Perm → Type 0 where
  first : (i : ℕ) → i < count → Covers (spans i) page
      → ((j : ℕ) → j < i → Covers (spans j) page → ⊥) → Decides spans count page (spans i).perm
  none : ((j : ℕ) → j < count → Covers (spans j) page → ⊥) → Decides spans count page NoAccess

-- none of the first `count` spans covers a page in `from` up to but excluding `to`
abbrev pub AreClear : (ℕ → Span) → ℕ → ℕ → ℕ → Type 0
AreClear spans count from to = (j page : ℕ) → j < count → from ≤ page → page < to
    → Covers (spans j) page → ⊥

-- each of the spans `from` up to but excluding `to` ends at or before the start of the next
abbrev pub IsChain : (ℕ → Span) → ℕ → ℕ → Type 0
IsChain spans from to = (j k : ℕ) → from ≤ j → j < k → k < to → (spans j).end ≤ (spans k).first

-- the spans `from` up to but excluding `to` have ended at or before the page
abbrev pub HaveEnded : (ℕ → Span) → ℕ → ℕ → ℕ → Type 0
HaveEnded spans from to page = (j : ℕ) → from ≤ j → j < to → (spans j).end ≤ page

-- the numbers are ascending, from `from` to `to`
abbrev pub RiseTo : ℕ → List ℕ → ℕ → Type 0
RiseTo from [] to = from ≡ to
RiseTo from (x ∷ xs) to = (from ≤ x) × (x ≤ to) × RiseTo x xs to

-- the spans `from` up to but excluding `to` are chains that end at the numbers of the list
abbrev pub AreChains : (ℕ → Span) → ℕ → List ℕ → ℕ → Type 0
AreChains spans from [] to = from ≡ to
AreChains spans from (x ∷ xs) to = IsChain spans from x × AreChains spans x xs to

-- the spans are aligned blocks of the space, so two of one size with a common page are equal
pub record AreBlocks (spans : ℕ → Span) (count : ℕ) : Type 0 where
  pub small : (j : ℕ) → j < count → (spans j).size < 45
  pub inside : (j : ℕ) → j < count → (spans j).first < 2 ^ 44
  pub same :
      (i j page : ℕ) → i < count → j < count → (spans i).size ≡ (spans j).size
      → Covers (spans i) page → Covers (spans j) page
      → ((spans i).first ≡ (spans j).first) × ((spans i).end ≡ (spans j).end)
