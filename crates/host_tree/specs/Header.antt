-- The bytes of a header. Devicetree Specification 0.4, section 5.2.
use Rattle.std.specs.Prelude.{ℕ, List, [], ◌∷◌, ◌++◌}
use Rattle.host_tree.specs.declared.header.Header.{Header}

-- the magic number, the total size, and the offsets of structure, strings and reservations
abbrev pub first_words : Header → List ℕ
first_words header = 0xd00d_feed ∷ header.size ∷ header.block ∷ header.names ∷ 40 ∷ []

-- the version, the oldest compatible one, the boot hart, and the sizes of strings and structure
abbrev pub other_words : Header → List ℕ
other_words header = 17 ∷ 16 ∷ header.boot_hart ∷ header.names_size ∷ header.block_size ∷ []

abbrev pub header_words : Header → List ℕ
header_words header = first_words header ++ other_words header
