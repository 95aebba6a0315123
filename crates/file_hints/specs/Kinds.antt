-- The kinds of inputs, by their contents.
use Rattle.std.specs.Prelude.{◌≡◌, ◌⊎◌, ℕ, List, true, false}
use Rattle.std.specs.Option.{is_some}
use Rattle.pmp_encoding.specs.declared.xlen.Xlen.TheVariants.{Rv32, Rv64}
use Rattle.permission_map.specs.declared.runs.Run.{Run}
use Rattle.map_text.specs.MapFile.{Makes}
use Rattle.register_audit.specs.RegisterListings.{listed}
use Rattle.board_texts.specs.Boards.{is_tree}
use Rattle.file_hints.specs.declared.kinds.FileKind.{FileKind}
use Rattle.file_hints.specs.declared.kinds.FileKind.TheVariants as kinds

-- the bytes are a map, a listing of registers or a device tree, if that is the kind
abbrev pub IsOfKind : List ℕ → FileKind → Type 0
IsOfKind bytes kinds.Map = (runs : List Run) × Makes bytes runs
IsOfKind bytes kinds.Listing = (is_some (listed Rv64 bytes) ≡ true)
    ⊎ (is_some (listed Rv32 bytes) ≡ true)
IsOfKind bytes kinds.Tree = is_tree bytes ≡ true
IsOfKind bytes kinds.Platform = Unit {0}
IsOfKind bytes kinds.Trace = Unit {0}
IsOfKind bytes kinds.TreeSource = Unit {0}
IsOfKind bytes kinds.Certificate = Unit {0}
IsOfKind bytes kinds.Elf = Unit {0}

-- the bytes are neither a device tree nor a listing of registers
pub record IsUnlisted (bytes : List ℕ) : Type 0 where
  pub no_tree : is_tree bytes ≡ false
  pub no_rv64 : is_some (listed Rv64 bytes) ≡ false
  pub no_rv32 : is_some (listed Rv32 bytes) ≡ false
