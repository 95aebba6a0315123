-- The bytes of a certificate. All numbers are little-endian.
use Rattle.std.specs.Prelude.{◌≡◌, ℕ, zero, suc, ◌+◌, ◌^◌, ◌<◌, ◌≤◌, List, [], ◌∷◌, ◌++◌, length}
use Rattle.byteorder.specs.Endian.{little_bytes}
use Rattle.pmp_encoding.specs.declared.perm.Perm.{Perm}
use Rattle.pmp_encoding.specs.declared.perm.Perm.TheVariants.{NoAccess, Read, ReadWrite, Execute}
use Rattle.pmp_encoding.specs.declared.perm.Perm.TheVariants.{ReadExecute, ReadWriteExecute}
use Rattle.pmp_encoding.specs.declared.region.Entry.{Entry}
use Rattle.pmp_encoding.specs.declared.limit.Limit.{Limit}
use Rattle.pmp_encoding.specs.declared.limit.Limit.TheVariants.{Sixteen}
use Rattle.pmp_encoding.specs.Limits.{limit_number}
use Rattle.pmp_encoding.specs.Perms.{bits_of}
use Rattle.pmp_encoding.specs.Encoding.{MeansEntry}
use Rattle.pmp_match.specs.Bounds.{BoundTree, Leaf, Branch, bound_of}
use Rattle.certificate_format.specs.declared.header.Version.{Version}
use Rattle.certificate_format.specs.declared.header.Version.TheVariants.{One, Two}
use Rattle.certificate_format.specs.declared.header.Header.{Header}

-- a number in four bytes, the lowest first
unfoldable pub u32_bytes : ℕ → List ℕ
u32_bytes n = little_bytes 4 n

-- a number in eight bytes, the lowest first
unfoldable pub u64_bytes : ℕ → List ℕ
u64_bytes n = little_bytes 8 n

-- the first four bytes: PMPC
abbrev pub magic : List ℕ
magic = 0x50 ∷ 0x4D ∷ 0x50 ∷ 0x43 ∷ []

-- the limit of a version: sixteen for version 1
abbrev pub limit_of_version : Version → Limit
limit_of_version One = Sixteen
limit_of_version (Two limit) = limit

-- the byte 1, or the bytes 2 and the limit
abbrev pub version_bytes : Version → List ℕ
version_bytes One = 1 ∷ []
version_bytes (Two limit) = 2 ∷ limit_number limit ∷ []

-- the magic, the version, and the number of entries
abbrev pub header_bytes : Header → List ℕ
header_bytes header = magic ++ (version_bytes header.version ++ u32_bytes header.count)

-- the bytes of a configuration byte and an address register
abbrev pub pair_bytes : ℕ × ℕ → List ℕ
pair_bytes pair = pair.0 ∷ u64_bytes pair.1

-- an entry is encoded as any pair that means it, canonical or not
pub record SpellsEntry (bytes : List ℕ) (e : Entry) : Type 0 where
  pub pair : ℕ × ℕ
  pub means : MeansEntry pair.0 pair.1 e
  pub spelled : bytes ≡ pair_bytes pair

-- the encoded entries one after another
abbrev pub SpellsEntries : List ℕ → List Entry → Type 0
SpellsEntries bytes [] = bytes ≡ []
SpellsEntries bytes (e ∷ entries) = (first rest : List ℕ) × (bytes ≡ first ++ rest)
    × SpellsEntry first e × SpellsEntries rest entries

-- the bytes of the costs, in the fixed order of the permissions
abbrev pub costs_bytes : (Perm → ℕ) → List ℕ
costs_bytes costs =
    u32_bytes (costs NoAccess)
    ++ (u32_bytes (costs Read) ++ (u32_bytes (costs ReadWrite)
    ++ (u32_bytes (costs Execute) ++ (u32_bytes (costs ReadExecute)
    ++ u32_bytes (costs ReadWriteExecute)))))

-- a leaf is its tag and its permission; a branch is its tag, its costs, its lower half and its
-- upper half
abbrev pub node_bytes : BoundTree → List ℕ
node_bytes (Leaf perm) = 0 ∷ bits_of perm ∷ []
node_bytes (Branch costs lower upper) = 1
    ∷ (costs_bytes costs ++ (node_bytes lower ++ node_bytes upper))

-- a block of 2 ^ k pages is split at most down to its pages, and each cost fits in four bytes
abbrev pub FitsNode : ℕ → BoundTree → Type 0
FitsNode k (Leaf perm) = Unit {0}
FitsNode zero (Branch costs lower upper) = ⊥
FitsNode (suc k) (Branch costs lower upper) = ((p : Perm) → costs p < 2 ^ 32) × FitsNode k lower
    × FitsNode k upper

-- the bytes are the header, the entries and the root of the whole space of 2 ^ 44 pages, and
-- nothing else
pub record Spells (bytes : List ℕ) (version : Version) (entries : List Entry) (tree : BoundTree) :
    Type 0 where
  pub listed : List ℕ
  pub spelled : bytes ≡ header_bytes (record { version = version; count = length entries })
      ++ (listed ++ node_bytes tree)
  pub counted : length entries < 2 ^ 32
  pub in_order : SpellsEntries listed entries
  pub fits : FitsNode 44 tree

-- each entry's region has at least one page
abbrev pub AreNoSubPages : List Entry → Type 0
AreNoSubPages [] = Unit {0}
AreNoSubPages (e ∷ entries) = (12 ≤ e.region.log2) × AreNoSubPages entries

-- at each branch and for each permission, one more than the sum of the halves' costs fits in four
-- bytes
abbrev pub HasNoOverflow : BoundTree → Type 0
HasNoOverflow (Leaf perm) = Unit {0}
HasNoOverflow (Branch costs lower upper) =
    ((p : Perm) → bound_of lower p + bound_of upper p + 1 < 2 ^ 32) × HasNoOverflow lower
    × HasNoOverflow upper

-- a certificate: entries of whole pages, sums that fit, and at most as many entries as the root's
-- cost for no access
pub record IsCertificate (bytes : List ℕ) (version : Version) (entries : List Entry)
    (tree : BoundTree) : Type 0 where
  pub spells : Spells bytes version entries tree
  pub pages : AreNoSubPages entries
  pub sums : HasNoOverflow tree
  pub few : length entries ≤ bound_of tree NoAccess
