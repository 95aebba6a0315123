-- The first byte of a node.
use Rattle.std.specs.Prelude.{ℕ}
use Rattle.certificate_format.specs.declared.reader.Tag.{Tag}
use Rattle.certificate_format.specs.declared.reader.Tag.TheVariants.{Leaf, Branch}

-- the first byte of a leaf or a branch
abbrev pub tag_byte : Tag → ℕ
tag_byte Leaf = 0
tag_byte Branch = 1
