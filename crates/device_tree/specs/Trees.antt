-- The bytes of a flattened device tree: its header, its blocks, and its contents. Devicetree
-- Specification 0.4, chapter 5.
use Rattle.std.specs.Prelude.{◌≡◌, ℕ, ◌+◌, ◌%◌, ◌≤◌, List, [], ◌∷◌, length, take, drop}
use Rattle.device_tree.specs.declared.reservations.Reservation.{Reservation}
use Rattle.device_tree.specs.Words.{word_at, double_word_at}
use Rattle.device_tree.specs.Pieces.{SpellsParts}
use Rattle.device_tree.specs.Nodes.{AreWithin, Tree, parts_of_tree}

-- a block with this offset and size is inside the tree, after its header of forty bytes
pub record IsBlock (bytes : List ℕ) (place size : ℕ) : Type 0 where
  pub behind : 40 ≤ place
  pub inside : place + size ≤ length bytes

-- the offsets and sizes of the structure, the strings and the reservations
pub record AreBlocks (bytes : List ℕ) : Type 0 where
  pub structure : IsBlock bytes (word_at bytes 8) (word_at bytes 36)
  pub structure_aligned : word_at bytes 8 % 4 ≡ 0
  pub strings : IsBlock bytes (word_at bytes 12) (word_at bytes 32)
  pub reservations : IsBlock bytes (word_at bytes 16) 0
  pub reservations_aligned : word_at bytes 16 % 8 ≡ 0

-- the header: the magic number, the total size, the version, the last compatible version, and the
-- blocks
pub record IsHeader (bytes : List ℕ) : Type 0 where
  pub long : 40 ≤ length bytes
  pub magic : word_at bytes 0 ≡ 0xd00d_feed
  pub size : word_at bytes 4 ≡ length bytes
  pub version : 17 ≤ word_at bytes 20
  pub oldest : word_at bytes 24 ≤ 17
  pub blocks : AreBlocks bytes

-- the structure block, by the header's size and offset
abbrev pub structure_of : List ℕ → List ℕ
structure_of bytes = take (word_at bytes 36) (drop (word_at bytes 8) bytes)

-- the strings block, by the header's size and offset
abbrev pub strings_of : List ℕ → List ℕ
strings_of bytes = take (word_at bytes 32) (drop (word_at bytes 12) bytes)

-- the bytes from the memory reservations on
abbrev pub reservations_of : List ℕ → List ℕ
reservations_of bytes = drop (word_at bytes 16) bytes

-- the bytes begin with these reservations, each an address and a size of eight bytes, and the pair
-- of zeros at the end
abbrev pub BeginsWithReservations : List ℕ → List Reservation → Type 0
BeginsWithReservations bytes [] = (16 ≤ length bytes)
    × (double_word_at bytes 0 ≡ 0) × (double_word_at bytes 8 ≡ 0)
BeginsWithReservations bytes (first ∷ later) = (16 ≤ length bytes)
    × (double_word_at bytes 0 ≡ first.address) × (double_word_at bytes 8 ≡ first.size)
    × (first.address ≡ 0 → first.size ≡ 0 → ⊥)
    × BeginsWithReservations (drop 16 bytes) later

-- the bytes are a flattened device tree with these contents and these reservations
pub record SpellsTree (bytes : List ℕ) (tree : Tree) (reservations : List Reservation) :
    Type 0 where
  pub header : IsHeader bytes
  pub reserved : BeginsWithReservations (reservations_of bytes) reservations
  pub structure : SpellsParts (strings_of bytes) (structure_of bytes) (parts_of_tree tree)

-- the tree at the front of bytes: up to the total size in its header
abbrev pub front_of : List ℕ → List ℕ
front_of bytes = take (word_at bytes 4) bytes

-- the bytes begin with a flattened device tree of at most 64 levels
pub record ReadsAs (bytes : List ℕ) (tree : Tree) (reservations : List Reservation) : Type 0 where
  pub long : 40 ≤ length bytes
  pub spelt : SpellsTree (front_of bytes) tree reservations
  pub within : AreWithin 63 tree.children
