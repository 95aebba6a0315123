-- Reasons why bytes are not a supported flattened device tree, and the offsets at which they occur.
-- Devicetree Specification 0.4, chapter 5.
use Rattle.std.specs.Prelude.{◌≡◌, ◌≢◌, ◌⊎◌, ℕ, ◌+◌, ◌%◌, ◌<◌, ◌≤◌, List, [], ◌∷◌, ◌++◌}
use Rattle.std.specs.Prelude.{length, drop}
use Rattle.device_tree.specs.declared.fault.TreeReason.{TreeReason}
use Rattle.device_tree.specs.declared.fault.TreeReason.TheVariants as reasons
use Rattle.device_tree.specs.declared.fault.TreeFault.{TreeFault}
use Rattle.device_tree.specs.declared.pieces.Token.{Token}
use Rattle.device_tree.specs.declared.pieces.PlacedPiece.{PlacedPiece}
use Rattle.device_tree.specs.declared.reservations.Reservation.{Reservation}
use Rattle.device_tree.specs.Words.{word_at, BeginsWith, BeginsWithText, padded}
use Rattle.device_tree.specs.Pieces.{Part, Setting, begins, has, ends, token_number, SpellsParts}
use Rattle.device_tree.specs.Pieces.{parts_of}
use Rattle.device_tree.specs.Nodes.{Tree, parts_of_tree}
use Rattle.device_tree.specs.Trees.{IsHeader, IsBlock, BeginsWithReservations, reservations_of}
use Rattle.device_tree.specs.Places.{Block, BeginsAt, ComesTo, block_of, from_offset}

-- the fault of the header of a tree's bytes: its length, its magic number, its size, its version,
-- or its last compatible version (section 5.2); or one of the three blocks has an offset that is
-- not a multiple of eight or four (section 5.6), or is not inside the tree
abbrev pub IsHeaderFault : List ℕ → TreeReason → Type 0
IsHeaderFault bytes reasons.ShortHeader = length bytes < 40
IsHeaderFault bytes reasons.BadMagic = word_at bytes 0 ≢ 0xd00d_feed
IsHeaderFault bytes reasons.BadSize = word_at bytes 4 ≢ length bytes
IsHeaderFault bytes reasons.OldVersion = word_at bytes 20 < 17
IsHeaderFault bytes reasons.NewVersion = 17 < word_at bytes 24
IsHeaderFault bytes reasons.BadStructureBlock = word_at bytes 8 % 4 ≡ 0
    → IsBlock bytes (word_at bytes 8) (word_at bytes 36) → ⊥
IsHeaderFault bytes reasons.BadStringsBlock =
    IsBlock bytes (word_at bytes 12) (word_at bytes 32) → ⊥
IsHeaderFault bytes reasons.BadReservationBlock = word_at bytes 16 % 8 ≡ 0
    → IsBlock bytes (word_at bytes 16) 0 → ⊥
IsHeaderFault bytes _ = ⊥

-- the offset of the wrong number in the header
abbrev pub field_of : TreeReason → ℕ
field_of reasons.BadSize = 4
field_of reasons.BadStructureBlock = 8
field_of reasons.BadStringsBlock = 12
field_of reasons.BadReservationBlock = 16
field_of reasons.OldVersion = 20
field_of reasons.NewVersion = 24
field_of _ = 0

-- the reservations in these bytes lack the pair of zeros at the end (section 5.3.2); `read` bytes
-- are whole pairs, and the rest is shorter than a pair
pub record IsUnended (bytes : List ℕ) (read : ℕ) : Type 0 where
  pub none : (list : List Reservation) → BeginsWithReservations bytes list → ⊥
  pub whole : read % 16 ≡ 0
  pub inside : read ≤ length bytes
  pub few : length bytes < read + 16

-- a name at the front with its padding extends past the bytes, or a value does, or the two numbers
-- before a value
abbrev pub IsPast : List ℕ → Type 0
IsPast bytes = (BeginsWith bytes 1 × (name : List ℕ) × BeginsWithText (drop 4 bytes) name
    × (length bytes < 4 + padded (length name + 1)))
    ⊎ (BeginsWith bytes 3 × ((length bytes < 12) ⊎ (length bytes < 12 + padded (word_at bytes 4))))

-- the name of the property at the front, in the strings block (section 5.5) at the offset in the
-- second number after the token, lacks its final zero
pub record HasNoName (strings bytes : List ℕ) : Type 0 where
  pub token : BeginsWith bytes 3
  pub long : 12 ≤ length bytes
  pub none : (name : List ℕ) → BeginsWithText (drop (word_at bytes 8) strings) name → ⊥

-- the fault of bytes in a structure block at which a token is expected (section 5.4.1): there are
-- fewer than four; they do not begin with one of the five tokens; the name of the node lacks its
-- final zero; a name or a value extends past the block; the name of the property lacks its final
-- zero; or bytes follow the end token
abbrev pub IsTokenFault : List ℕ → List ℕ → TreeReason → Type 0
IsTokenFault strings bytes reasons.NoToken = length bytes < 4
IsTokenFault strings bytes reasons.UnknownToken = (4 ≤ length bytes)
    × ((token : Token) → BeginsWith bytes (token_number token) → ⊥)
IsTokenFault strings bytes reasons.UnendedName = BeginsWith bytes 1
    × ((name : List ℕ) → BeginsWithText (drop 4 bytes) name → ⊥)
IsTokenFault strings bytes reasons.PastBlock = IsPast bytes
IsTokenFault strings bytes reasons.NoPropertyName = HasNoName strings bytes
IsTokenFault strings bytes reasons.BytesBehindEnd = BeginsWith bytes 9 × (4 < length bytes)
IsTokenFault strings bytes _ = ⊥

-- the fault occurs in the bytes of a block from its offset on, which follow some first parts
pub record IsTokenFaultIn (block : Block) (fault : TreeFault) : Type 0 where
  pub before : List Part
  pub inside : block.start ≤ fault.offset
  pub comes : ComesTo block.strings block.bytes before (from_offset block fault.offset)
  pub wrong : IsTokenFault block.strings (from_offset block fault.offset) fault.reason

-- the number of nodes that begin among the parts
abbrev pub begun : List Part → ℕ
begun [] = 0
begun (begins name ∷ later) = 1 + begun later
begun (has property ∷ later) = begun later
begun (ends ∷ later) = begun later

-- the number of nodes that end among the parts
abbrev pub ended : List Part → ℕ
ended [] = 0
ended (begins name ∷ later) = ended later
ended (has property ∷ later) = ended later
ended (ends ∷ later) = 1 + ended later

-- the fault of the first part in `left`, which follow the parts before of nested nodes (section
-- 5.4.2): it begins a node, and the maximum number of nodes are open; it is a property after the
-- end of a node, inside a node; or it is missing, and a node is open
pub data IsNestingFault (levels : ℕ) (before left : List Part) : TreeReason → Type 0 where
  deep : (name : List ℕ) (later : List Part) → left ≡ begins name ∷ later
      → begun before ≡ ended before + levels
      → IsNestingFault levels before left reasons.TooDeep
  late : (earlier : List Part) (property : Setting) (later : List Part)
      → before ≡ earlier ++ ends ∷ [] → left ≡ has property ∷ later
      → ended before < begun before → IsNestingFault levels before left reasons.LateProperty
  unended : left ≡ [] → ended before < begun before
      → IsNestingFault levels before left reasons.UnendedNode

-- the fault of the first part in `left` in a tree of at most 64 levels: the parts do not begin with
-- a node whose name is empty, a part follows the root, or a fault of the nested nodes
pub data IsShapeFault (before left : List Part) : TreeReason → Type 0 where
  no_root : before ≡ [] → ((later : List Part) → left ≡ begins [] ∷ later → ⊥)
      → IsShapeFault before left reasons.NoRoot
  behind_root : (tree : Tree) → before ≡ parts_of_tree tree → left ≢ []
      → IsShapeFault before left reasons.PieceBehindRoot
  in_root : (reason : TreeReason) → IsNestingFault 64 before left reason
      → IsShapeFault before left reason

-- the offset of the first piece, or `end` if there is none
abbrev pub offset_of : List PlacedPiece → ℕ → ℕ
offset_of [] end = end
offset_of (first ∷ later) end = first.offset

-- pieces are split in two, and the reason is the fault of the first of the second half, at the
-- offset
pub record IsWrongAt (IsWrong : List Part → List Part → TreeReason → Type 0)
    (pieces : List PlacedPiece) (end : ℕ) (fault : TreeFault) : Type 0 where
  pub before : List Part
  pub count : ℕ
  pub parts_are : parts_of pieces ≡ before ++ parts_of (drop count pieces)
  pub offset_is : fault.offset ≡ offset_of (drop count pieces) end
  pub wrong : IsWrong before (parts_of (drop count pieces)) fault.reason

-- the reason why a node is still open at these parts, which neither begin nor end a node
abbrev pub open_reason : List Part → TreeReason
open_reason [] = reasons.UnendedNode
open_reason (first ∷ later) = reasons.LateProperty

-- the parts of a structure block are not a tree: the fault of the first of the parts in `left`,
-- which begin at the offset
pub record IsPartsFault (block : Block) (fault : TreeFault) : Type 0 where
  pub before : List Part
  pub left : List Part
  pub spelt : SpellsParts block.strings block.bytes (before ++ left)
  pub place : BeginsAt block fault.offset left
  pub wrong : IsShapeFault before left fault.reason

-- the reason why the bytes of a tree are rejected, and its offset: a number of the header; or,
-- after a valid header, the reservations, a token, or the nesting of the parts
pub data IsTreeFault (bytes : List ℕ) (fault : TreeFault) : Type 0 where
  of_header : IsHeaderFault bytes fault.reason → fault.offset ≡ field_of fault.reason
      → IsTreeFault bytes fault
  of_reservations : (read : ℕ) → IsHeader bytes → fault.reason ≡ reasons.UnendedReservations
      → IsUnended (reservations_of bytes) read → fault.offset ≡ word_at bytes 16 + read
      → IsTreeFault bytes fault
  of_token : IsHeader bytes → IsTokenFaultIn (block_of bytes) fault → IsTreeFault bytes fault
  of_parts : IsHeader bytes → IsPartsFault (block_of bytes) fault → IsTreeFault bytes fault
