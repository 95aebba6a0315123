-- The structure block of a flattened device tree: its pieces, and the bytes that spell them.
-- Devicetree Specification 0.4, section 5.4.
use Rattle.std.specs.Prelude.{◌≡◌, ℕ, ◌+◌, ◌≤◌, List, [], ◌∷◌, length, map, take, drop}
use Rattle.device_tree.specs.declared.pieces.Token.{Token}
use Rattle.device_tree.specs.declared.pieces.Token.TheVariants.{BeginNode, EndNode, Property}
use Rattle.device_tree.specs.declared.pieces.Token.TheVariants.{Nop, End}
use Rattle.device_tree.specs.declared.pieces.Piece.{Piece}
use Rattle.device_tree.specs.declared.pieces.Piece.TheVariants.{Begins, Has, Ends}
use Rattle.device_tree.specs.declared.pieces.PlacedPiece.{PlacedPiece}
use Rattle.device_tree.specs.declared.pieces.Step.{Step}
use Rattle.device_tree.specs.declared.pieces.Step.TheVariants.{Stop, Skip, Take}
use Rattle.device_tree.specs.Words.{word_at, BeginsWith, BeginsWithText, padded, Leaves}

-- the numbers of the tokens
abbrev pub token_number : Token → ℕ
token_number BeginNode = 1
token_number EndNode = 2
token_number Property = 3
token_number Nop = 4
token_number End = 9

-- a property: its name and its value
pub record Setting : Type 0 where
  pub name : List ℕ
  pub value : List ℕ

-- a piece of the structure block: the start of a node with this name, a property, or the end of a
-- node
pub data Part : Type 0 where
  begins : List ℕ → Part
  has : Setting → Part
  ends : Part

-- the bytes are a token, the rest of the part, and later bytes. A name is padded after its final
-- zero. The name of a property is in the strings block, at the offset in the second number after
-- the token
abbrev pub SpellsPart : List ℕ → List ℕ → Part → List ℕ → Type 0
SpellsPart strings bytes (begins name) rest = BeginsWith bytes 1
    × BeginsWithText (drop 4 bytes) name
    × Leaves bytes (4 + padded (length name + 1)) rest
SpellsPart strings bytes (has setting) rest = BeginsWith bytes 3
    × (12 ≤ length bytes)
    × BeginsWithText (drop (word_at bytes 8) strings) setting.name
    × (setting.value ≡ take (word_at bytes 4) (drop 12 bytes))
    × Leaves bytes (12 + padded (word_at bytes 4)) rest
SpellsPart strings bytes ends rest = BeginsWith bytes 2 × Leaves bytes 4 rest

-- the bytes do not begin with a part
abbrev pub NoPart : List ℕ → List ℕ → Type 0
NoPart strings bytes = (first : Part) (rest : List ℕ) → SpellsPart strings bytes first rest → ⊥

-- the bytes are these parts, with any NOP tokens between them, and the end token
pub data SpellsParts (strings : List ℕ) : List ℕ → List Part → Type 0 where
  the_end : {bytes : List ℕ} → BeginsWith bytes 9 → length bytes ≡ 4 → SpellsParts strings bytes []
  skipped : {bytes : List ℕ} {parts : List Part} → BeginsWith bytes 4
      → SpellsParts strings (drop 4 bytes) parts → SpellsParts strings bytes parts
  part : {bytes rest : List ℕ} {first : Part} {parts : List Part}
      → SpellsPart strings bytes first rest → SpellsParts strings rest parts
      → SpellsParts strings bytes (first ∷ parts)

-- the piece of the program, as a value
abbrev pub part_of : Piece → Part
part_of (Begins name) = begins name.now
part_of (Has name value) = has (record { name = name.now; value = value.now })
part_of Ends = ends

-- the parts of pieces, without their offsets
abbrev pub parts_of : List PlacedPiece → List Part
parts_of pieces = map (λ placed. part_of placed.piece) pieces

-- the first token of the bytes: the end token and no byte after it, a NOP token, or a part; with
-- the rest
abbrev pub IsStep : List ℕ → List ℕ → Step → Type 0
IsStep strings bytes Stop = BeginsWith bytes 9 × (length bytes ≡ 4)
IsStep strings bytes (Skip rest) = BeginsWith bytes 4 × Leaves bytes 4 rest.now
IsStep strings bytes (Take piece rest) = SpellsPart strings bytes (part_of piece) rest.now
