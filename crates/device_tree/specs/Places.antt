-- Offsets of the pieces of a structure block in the bytes of a tree.
use Rattle.std.specs.Prelude.{ℕ, ◌-◌, ◌≤◌, ⊤, List, [], ◌∷◌, ◌++◌, drop}
use Rattle.device_tree.specs.declared.pieces.PlacedPiece.{PlacedPiece}
use Rattle.device_tree.specs.Words.{word_at, BeginsWith}
use Rattle.device_tree.specs.Pieces.{Part, SpellsPart, SpellsParts, part_of, parts_of}
use Rattle.device_tree.specs.Trees.{strings_of, structure_of}

-- a structure block in a tree: the strings block, its own bytes, and its offset in the tree
pub record Block : Type 0 where
  pub strings : List ℕ
  pub bytes : List ℕ
  pub start : ℕ

-- the block with these strings and bytes at this offset
abbrev pub block_at : List ℕ → List ℕ → ℕ → Block
block_at strings bytes start = record { strings = strings; bytes = bytes; start = start }

-- the structure block of a tree's bytes
abbrev pub block_of : List ℕ → Block
block_of bytes = block_at (strings_of bytes) (structure_of bytes) (word_at bytes 8)

-- the bytes of a block from an offset in the tree on
abbrev pub from_offset : Block → ℕ → List ℕ
from_offset block offset = drop (offset - block.start) block.bytes

-- the first of these parts, or the end token if there are none, begins at the offset, where there
-- is no NOP token; and the other parts follow to the end of the block
pub record BeginsAt (block : Block) (offset : ℕ) (parts : List Part) : Type 0 where
  pub inside : block.start ≤ offset
  pub spelt : SpellsParts block.strings (from_offset block offset) parts
  pub no_skip : BeginsWith (from_offset block offset) 4 → ⊥

-- each piece begins at its offset, followed by the later ones
abbrev pub ArePlaced : Block → List PlacedPiece → Type 0
ArePlaced block [] = ⊤
ArePlaced block (first ∷ later) =
    BeginsAt block first.offset (part_of first.piece ∷ parts_of later) × ArePlaced block later

-- a block begins with these parts, with any NOP tokens between them, and continues with these bytes
pub data ComesTo (strings bytes : List ℕ) : List Part → List ℕ → Type 0 where
  at_front : ComesTo strings bytes [] bytes
  behind_skip : (before : List Part) (rest : List ℕ) → ComesTo strings bytes before rest
      → BeginsWith rest 4 → ComesTo strings bytes before (drop 4 rest)
  behind_part : (before : List Part) (rest later : List ℕ) (first : Part)
      → ComesTo strings bytes before rest → SpellsPart strings rest first later
      → ComesTo strings bytes (before ++ first ∷ []) later
