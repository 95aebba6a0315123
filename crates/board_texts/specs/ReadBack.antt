-- The relation between a text and the platform that it describes.
use Rattle.std.specs.Prelude.{◌≡◌, ℕ, List, Some}
use Rattle.std.specs.Str.{IsUtf8}
use Rattle.toml.specs.Data.{Members}
use Rattle.toml.specs.Parse.{parse_document}
use Rattle.pmp_encoding.specs.declared.perm.Perm.{Perm}
use Rattle.input_files.specs.Document.{HasForm}

-- the text is a document with this monitor, these ranges of memory and devices, this number of
-- harts, and sixteen PMP entries
pub record IsTextOf (text : List ℕ) (monitor : ℕ × ℕ) (ram : List (ℕ × ℕ))
    (devices : List (ℕ × ℕ × Perm)) (harts : ℕ) : Type 0 where
  pub utf8 : IsUtf8 text
  pub document : Members
  pub parsed : parse_document text ≡ Some document
  pub form : HasForm document monitor ram devices harts 16
