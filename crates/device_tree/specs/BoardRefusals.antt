-- Reasons why a tree gives no ranges, and the nodes at which they occur.
use Rattle.std.specs.Prelude.{◌≡◌, ◌⊎◌, ℕ, ◌+◌, ◌*◌, ◌^◌, ◌≤◌, ⊤}
use Rattle.std.specs.Prelude.{List, [], ◌∷◌, ◌++◌, Option, None, Some, length, drop, codes, map}
use Rattle.device_tree.specs.Pieces.{Part, Setting, has, ends, parts_of}
use Rattle.device_tree.specs.Nodes.{Nodes, node, Tree, parts_of_nodes, parts_of_tree}
use Rattle.device_tree.specs.Places.{Block, BeginsAt}
use Rattle.device_tree.specs.declared.pieces.PlacedPiece.{PlacedPiece}
use Rattle.device_tree.specs.declared.cells.Cells.{Cells}
use Rattle.device_tree.specs.declared.kinds.Kind.{Kind}
use Rattle.device_tree.specs.declared.kinds.Place.{Place}
use Rattle.device_tree.specs.declared.kinds.Place.TheVariants.{BelowRoot}
use Rattle.device_tree.specs.declared.rows.RowFault.{RowFault}
use Rattle.device_tree.specs.declared.rows.RowFault.TheVariants.{BadLength, LargeNumber}
use Rattle.device_tree.specs.declared.rows.RowFault.TheVariants as rows
use Rattle.device_tree.specs.declared.board_fault.BoardReason.{BoardReason}
use Rattle.device_tree.specs.declared.board_fault.BoardReason.TheVariants.{BadCells, BadRows}
use Rattle.device_tree.specs.declared.board_fault.BoardFault.{BoardFault}
use Rattle.device_tree.specs.Cells.{number_of, row_len}
use Rattle.device_tree.specs.Windows.{Path, same, window_len}
use Rattle.device_tree.specs.Properties.{value_in}
use Rattle.device_tree.specs.Meaning.{AreCells, IsInnerWay, inner_place, live_kind, path_or}

-- the length of the bytes is not a multiple of `len`
abbrev pub IsUneven : ℕ → List ℕ → Type 0
IsUneven len bytes = (rows : ℕ) → length bytes ≡ rows * len → ⊥

-- one of the rows of `len` bytes has this property
pub record HasRow (len : ℕ) (bytes : List ℕ) (IsSo : List ℕ → Type 0) : Type 0 where
  pub before : ℕ
  pub inside : before * len + len ≤ length bytes
  pub so : IsSo (drop (before * len) bytes)

-- the address or the size at the front does not fit in 64 bits
abbrev pub IsLargeRow : Cells → List ℕ → Type 0
IsLargeRow cells bytes = (2 ^ 64 ≤ number_of cells.address bytes)
    ⊎ (2 ^ 64 ≤ number_of cells.size (drop (4 * cells.address) bytes))

-- the reason why bytes are not rows of an address and a size. Failed allocations and too many
-- ranges have no condition
abbrev pub IsRowFault : Cells → List ℕ → RowFault → Type 0
IsRowFault cells bytes BadLength = IsUneven (row_len cells) bytes
IsRowFault cells bytes LargeNumber = HasRow (row_len cells) bytes (IsLargeRow cells)
IsRowFault cells bytes rows.TooMany = ⊤
IsRowFault cells bytes rows.Memory = ⊤

-- a fault without a condition
abbrev pub IsRefusal : RowFault → Type 0
IsRefusal BadLength = ⊥
IsRefusal LargeNumber = ⊥
IsRefusal rows.TooMany = ⊤
IsRefusal rows.Memory = ⊤

-- one of the numbers of the first row of `ranges` does not fit in 64 bits
abbrev pub IsLargeWindow : Cells → ℕ → List ℕ → Type 0
IsLargeWindow cells outer bytes = (2 ^ 64 ≤ number_of cells.address bytes)
    ⊎ ((2 ^ 64 ≤ number_of outer (drop (4 * cells.address) bytes))
    ⊎ (2 ^ 64 ≤ number_of cells.size (drop (4 * (cells.address + outer)) bytes)))

-- the reason why bytes are not rows of `ranges`
abbrev pub IsWindowFault : Cells → ℕ → List ℕ → RowFault → Type 0
IsWindowFault cells outer bytes BadLength = IsUneven (window_len cells outer) bytes
IsWindowFault cells outer bytes LargeNumber =
    HasRow (window_len cells outer) bytes (IsLargeWindow cells outer)
IsWindowFault cells outer bytes rows.TooMany = ⊥
IsWindowFault cells outer bytes rows.Memory = ⊤

-- the registers of a node are used, and the rows of its `reg` are invalid
abbrev pub IsOwnFault : Option Kind → Option (List ℕ) → Cells → RowFault → Type 0
IsOwnFault None reg cells fault = ⊥
IsOwnFault (Some kind) None cells fault = ⊥
IsOwnFault (Some kind) (Some reg) cells fault = IsRowFault cells reg fault

-- the rows of a `ranges` are invalid. An empty one fails only if an allocation fails
abbrev pub IsPassFault : List ℕ → Cells → ℕ → RowFault → Type 0
IsPassFault [] inner outer fault = fault ≡ rows.Memory
IsPassFault (byte ∷ bytes) inner outer fault = IsWindowFault inner outer (byte ∷ bytes) fault

-- child addresses have at most two cells, and the rows of `ranges` are invalid
abbrev pub IsWayFault : Option (List ℕ) → Cells → ℕ → RowFault → Type 0
IsWayFault None inner outer fault = ⊥
IsWayFault (Some bytes) inner outer fault = (inner.address ≤ 2)
    × IsPassFault bytes inner outer fault

-- the cells are not numbers from 0 to 4
abbrev pub HasNoCells : List Part → Type 0
HasNoCells properties = (cells : Cells) → AreCells properties cells → ⊥

-- the fault of a node with these properties, on a bus with these cells: its registers, its cells,
-- or the translation of its children's addresses
pub data IsNodeFault (place : Place) (cells : Cells) (properties : List Part) : BoardReason
    → Type 0 where
  of_registers : (fault : RowFault)
      → IsOwnFault (live_kind place properties) (value_in (codes "reg") properties) cells fault
      → IsNodeFault place cells properties (BadRows fault)
  of_cells : HasNoCells properties → IsNodeFault place cells properties BadCells
  of_way : (inner : Cells) (fault : RowFault) → AreCells properties inner
      → IsWayFault (value_in (codes "ranges") properties) inner cells.address fault
      → IsNodeFault place cells properties (BadRows fault)

-- nodes on a bus with these cells and this translation to the root give no ranges, because of the
-- node at which these parts begin
pub data SayNone : Place → Cells → Path → Nodes → List Part → BoardReason → Type 0 where
  at_node : {place : Place} {cells : Cells} {way : Path} {name : List ℕ} {properties : List Setting}
      {children later : Nodes} (reason : BoardReason)
      → IsNodeFault place cells (map has properties) reason
      → SayNone place cells way (node name properties children later)
      (parts_of_nodes (node name properties children later)) reason
  in_child : {place : Place} {cells : Cells} {way : Path} {name : List ℕ}
      {properties : List Setting} {children later : Nodes} (from : List Part)
      (reason : BoardReason) (inner : Cells) (found : Option Path)
      → AreCells (map has properties) inner
      → IsInnerWay (value_in (codes "ranges") (map has properties)) inner cells.address way found
      → SayNone (inner_place place name (map has properties) found) inner (path_or found) children
      from reason
      → SayNone place cells way (node name properties children later)
      (from ++ (ends ∷ parts_of_nodes later)) reason
  in_later : {place : Place} {cells : Cells} {way : Path} {name : List ℕ}
      {properties : List Setting} {children later : Nodes} (from : List Part)
      (reason : BoardReason) → SayNone place cells way later from reason
      → SayNone place cells way (node name properties children later) from reason

-- a tree gives no ranges for this reason, at its root or at a node below it
pub data TreeSaysNone (tree : Tree) : List Part → BoardReason → Type 0 where
  at_root : HasNoCells (map has tree.properties) → TreeSaysNone tree (parts_of_tree tree) BadCells
  below_root : (cells : Cells) (from : List Part) (reason : BoardReason)
      → AreCells (map has tree.properties) cells
      → SayNone BelowRoot cells same tree.children from reason
      → TreeSaysNone tree (from ++ (ends ∷ [])) reason

-- a tree gives no ranges for this reason, at one of its nodes
abbrev pub HasNoRanges : Tree → BoardReason → Type 0
HasNoRanges tree reason = (from : List Part) × TreeSaysNone tree from reason

-- these parts are the pieces from the one at the offset on
pub record BeginAt (pieces : List PlacedPiece) (from : List Part) (offset : ℕ) : Type 0 where
  pub before : List PlacedPiece
  pub first : PlacedPiece
  pub later : List PlacedPiece
  pub pieces_are : pieces ≡ before ++ (first ∷ later)
  pub parts_are : parts_of (first ∷ later) ≡ from
  pub offset_is : first.offset ≡ offset

-- the reason why a tree of these pieces gives no ranges, with the offset of the node
abbrev pub IsBoardFault : List PlacedPiece → Tree → BoardFault → Type 0
IsBoardFault pieces tree fault = (from : List Part) × TreeSaysNone tree from fault.reason
    × BeginAt pieces from fault.offset

-- the reason why a tree in this structure block gives no ranges, with the offset at which the node
-- begins
abbrev pub IsBoardFaultIn : Block → Tree → BoardFault → Type 0
IsBoardFaultIn block tree fault = (from : List Part) × TreeSaysNone tree from fault.reason
    × BeginsAt block fault.offset from
