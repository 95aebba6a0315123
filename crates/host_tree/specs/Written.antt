-- The output of a tree writer. Devicetree Specification 0.4, section 5.4.
use Rattle.std.specs.Prelude.{◌≡◌, ◌≤◌, ℕ, ◌+◌, ◌-◌, ◌*◌, List, [], ◌∷◌, ◌++◌, length, replicate}
use Rattle.byteorder.specs.Endian.{big_bytes}
use Rattle.device_tree.specs.Words.{padded, text_len, word_at}
use Rattle.device_tree.specs.declared.reservations.Reservation.{Reservation}
use Rattle.device_tree.specs.Pieces.{Part, Setting, SpellsParts, begins, ends, has}
use Rattle.device_tree.specs.Nodes.{Tree, parts_of_tree}
use Rattle.host_tree.specs.declared.writer.TreeWriter.{TreeWriter}

-- big-endian numbers of four bytes and of eight
unfoldable pub word_bytes : ℕ → List ℕ
word_bytes word = big_bytes 4 word

unfoldable pub double_word_bytes : ℕ → List ℕ
double_word_bytes word = big_bytes 8 word

abbrev pub words_bytes : List ℕ → List ℕ
words_bytes [] = []
words_bytes (first ∷ later) = word_bytes first ++ words_bytes later

-- no byte of a text is zero
abbrev pub IsText : List ℕ → Type 0
IsText text = text_len text ≡ length text

-- a property with this name and value
abbrev pub setting : List ℕ → List ℕ → Setting
setting name value = record { name = name; value = value }

-- a value, padded with zeros to a multiple of four
abbrev pub value_bytes : List ℕ → List ℕ
value_bytes value = value ++ replicate (padded (length value + 0) - length value) 0

-- a text and its terminating zero, padded with zeros to a multiple of four
abbrev pub text_bytes : List ℕ → List ℕ
text_bytes text = text ++ replicate (padded (length text + 1) - length text) 0

-- these bytes, before any others, spell these parts before the others' parts
pub record SpellsFront (names bytes : List ℕ) (parts : List Part) : Type 0 where
  pub before : (rest : List ℕ) (later : List Part) → SpellsParts names rest later
      → SpellsParts names (bytes ++ rest) (parts ++ later)

-- the size of the whole tree: its header, the reservations and their terminating pair, the
-- structure and its end token, the names, and the free bytes
abbrev pub whole_size : TreeWriter → ℕ → ℕ → ℕ
whole_size writer reservations free = 40 + 16 * (reservations + 1)
    + (length writer.block.items + 4) + length writer.names.items + free

-- `free` bytes are free after the names, at the end of the tree
abbrev pub HasFree : List ℕ → ℕ → Type 0
HasFree bytes free = length bytes ≡ word_at bytes 12 + word_at bytes 32 + free

-- the number of bytes that a part needs if each property has a name of its own
abbrev pub part_size : Part → ℕ
part_size (begins name) = 4 + padded (length name + 1)
part_size (has one) = 12 + padded (length one.value) + (length one.name + 1)
part_size ends = 4

-- the number of bytes that parts need
abbrev pub parts_size : List Part → ℕ
parts_size [] = 0
parts_size (first ∷ later) = part_size first + parts_size later

-- the number of bytes that a tree needs with its reservations and without free bytes, if each
-- property has a name of its own; a tree whose properties share names is smaller
abbrev pub plain_size : Tree → List Reservation → ℕ
plain_size tree reservations = 40 + 16 * (length reservations + 1)
    + (parts_size (parts_of_tree tree) + 4)

-- the writer has written these parts: its bytes spell them whatever names it adds later, and are no
-- more than the parts need
pub record HasWritten (writer : TreeWriter) (parts : List Part) : Type 0 where
  pub spelt : (more : List ℕ)
      → SpellsFront (writer.names.items ++ more) writer.block.items parts
  pub size : length writer.block.items + length writer.names.items ≤ parts_size parts

-- the writer has also written these parts
abbrev pub Adds : TreeWriter → TreeWriter → List Part → Type 0
Adds old new added = (parts : List Part) → HasWritten old parts → HasWritten new (parts ++ added)
