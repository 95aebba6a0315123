-- The reasons why a host gets no tree, or why a board's harts and memory are unknown: the errors of
-- the board's tree. No condition is stated for failed allocations and for a host's tree of 4 GiB.
use Rattle.std.specs.Prelude.{◌≡◌, ◌≢◌, ◌⊎◌, ℕ, ◌*◌, ◌^◌, ◌≤◌, ⊤}
use Rattle.std.specs.Prelude.{List, [], ◌∷◌, length, map}
use Rattle.device_tree.specs.declared.fault.TreeFault.{TreeFault}
use Rattle.device_tree.specs.declared.fault.TreeReason.TheVariants as trees
use Rattle.device_tree.specs.declared.reservations.Reservation.{Reservation}
use Rattle.device_tree.specs.Pieces.{Part, begins, has, ends}
use Rattle.device_tree.specs.Nodes.{Nodes, Tree, parts_of_nodes, parts_of_tree}
use Rattle.device_tree.specs.Trees.{ReadsAs}
use Rattle.device_tree.specs.declared.cells.Cells.{Cells}
use Rattle.device_tree.specs.declared.kinds.Place.{Place}
use Rattle.device_tree.specs.declared.rows.Extent.{Extent}
use Rattle.device_tree.specs.Windows.{Path}
use Rattle.device_tree.specs.Meaning.{AreCells}
use Rattle.device_tree.specs.BoardRefusals.{HasNoRanges, IsNodeFault, SayNone}
use Rattle.host_tree.specs.declared.fault.HostTreeFault.{HostTreeFault}
use Rattle.host_tree.specs.declared.fault.HostTreeFault.TheVariants.{NotRead, NotMade}
use Rattle.host_tree.specs.declared.fault.MakeFault.{MakeFault}
use Rattle.host_tree.specs.declared.fault.MakeFault.TheVariants.{NotUnderstood, BadCells}
use Rattle.host_tree.specs.declared.fault.MakeFault.TheVariants.{NotWritten}
use Rattle.host_tree.specs.declared.in_place.PlaceFault.{PlaceFault}
use Rattle.host_tree.specs.declared.in_place.PlaceFault.TheVariants.{NoRoom, NoTree}
use Rattle.host_tree.specs.declared.platform.PlatformWords.{PlatformWords}
use Rattle.host_tree.specs.declared.reserved.Reserved.{Reserved}
use Rattle.host_tree.specs.declared.write_fault.WriteFault.{WriteFault}
use Rattle.host_tree.specs.declared.write_fault.WriteFault.TheVariants.{EmptyReservation}
use Rattle.host_tree.specs.declared.write_fault.WriteFault.TheVariants.{Memory, TooLarge}
use Rattle.host_tree.specs.declared.write_fault.WriteFault.TheVariants.{ZeroInName}
use Rattle.host_tree.specs.HostTrees.{LacksRoom}
use Rattle.host_tree.specs.Platforms.{portion_in, reserved_in}
use Rattle.host_tree.specs.declared.writer.TreeWriter.{TreeWriter}
use Rattle.host_tree.specs.Written.{IsText, whole_size}

-- the name of one of the parts contains a zero byte
abbrev pub HasZeroName : List Part → Type 0
HasZeroName [] = ⊥
HasZeroName (begins name ∷ later) = ¬ IsText name ⊎ HasZeroName later
HasZeroName (has setting ∷ later) = ¬ IsText setting.name ⊎ HasZeroName later
HasZeroName (ends ∷ later) = HasZeroName later

-- one of the reservations has address 0 and size 0
abbrev pub HasEmpty : List Reservation → Type 0
HasEmpty [] = ⊥
HasEmpty (first ∷ later) = ((first.address ≡ 0) × (first.size ≡ 0)) ⊎ HasEmpty later

-- the reason why a node of this name cannot begin: the name contains a zero byte
abbrev pub IsBeginFault : List ℕ → WriteFault → Type 0
IsBeginFault name ZeroInName = ¬ IsText name
IsBeginFault name EmptyReservation = ⊥
IsBeginFault name TooLarge = ⊥
IsBeginFault name Memory = ⊤

-- the reason why a property cannot be written: its name contains a zero byte, or its value or the
-- names so far have 4 GiB
abbrev pub IsPropertyFault : TreeWriter → List ℕ → List ℕ → WriteFault → Type 0
IsPropertyFault writer name value ZeroInName = ¬ IsText name
IsPropertyFault writer name value EmptyReservation = ⊥
IsPropertyFault writer name value TooLarge = (2 ^ 32 ≤ length value)
    ⊎ (2 ^ 32 ≤ length writer.names.items)
IsPropertyFault writer name value Memory = ⊤

-- the reason why a tree cannot be finished: a reservation would terminate the list, or the tree has
-- 4 GiB
abbrev pub IsFinishFault : TreeWriter → List Reservation → ℕ → WriteFault → Type 0
IsFinishFault writer reservations free ZeroInName = ⊥
IsFinishFault writer reservations free EmptyReservation = HasEmpty reservations
IsFinishFault writer reservations free TooLarge =
    2 ^ 32 ≤ whole_size writer (length reservations) free
IsFinishFault writer reservations free Memory = ⊤

-- the reason why a tree of these parts and reservations cannot be written: a name contains a zero
-- byte, or one of the reservations would terminate the list
abbrev pub IsWriteFault : List Part → List Reservation → WriteFault → Type 0
IsWriteFault parts reservations ZeroInName = HasZeroName parts
IsWriteFault parts reservations EmptyReservation = HasEmpty reservations
IsWriteFault parts reservations TooLarge = ⊤
IsWriteFault parts reservations Memory = ⊤

-- the reason why these parts of a tree that was read cannot be written
abbrev pub IsPutFault : List Part → MakeFault → Type 0
IsPutFault parts (NotUnderstood reason) = ⊥
IsPutFault parts BadCells = ⊥
IsPutFault parts (NotWritten fault) = IsWriteFault parts [] fault

-- a number does not fit into `cells`: these are not one or two, or it has more bits
abbrev pub IsUnfit : ℕ → ℕ → Type 0
IsUnfit cells number = ((cells ≢ 1) × (cells ≢ 2)) ⊎ (256 ^ (4 * cells) ≤ number)

-- the address or the size of a range does not fit into these cells
abbrev pub IsUnfitRange : Cells → Extent → Type 0
IsUnfitRange cells extent = IsUnfit cells.address extent.base ⊎ IsUnfit cells.size extent.size

-- one of the ranges does not fit into these cells
abbrev pub HasUnfitRange : Cells → List Reserved → Type 0
HasUnfitRange cells [] = ⊥
HasUnfitRange cells (first ∷ later) = IsUnfitRange cells first.extent
    ⊎ HasUnfitRange cells later

-- the reason why ranges cannot be written
abbrev pub IsRangeFault : Cells → List Reserved → MakeFault → Type 0
IsRangeFault cells ranges (NotUnderstood reason) = ⊥
IsRangeFault cells ranges BadCells = HasUnfitRange cells ranges
IsRangeFault cells ranges (NotWritten fault) = IsWriteFault [] [] fault

-- the reason why the head of a node with these properties, on a bus with these cells, cannot be
-- written
abbrev pub IsHeadFault : Place → Cells → List Part → List Part → MakeFault → Type 0
IsHeadFault place cells properties parts (NotUnderstood reason) =
    IsNodeFault place cells properties reason
IsHeadFault place cells properties parts BadCells = ⊥
IsHeadFault place cells properties parts (NotWritten fault) = IsWriteFault parts [] fault

-- the reason why the host's nodes cannot be written, with reserved ranges, for the nodes on a bus
-- with these cells and this way to the root's addresses
abbrev pub AreRefused : Place → Cells → Path → List Reserved → Nodes → MakeFault → Type 0
AreRefused place cells way ranges nodes (NotUnderstood reason) = (from : List Part)
    × SayNone place cells way nodes from reason
AreRefused place cells way ranges nodes BadCells = HasUnfitRange cells ranges
AreRefused place cells way ranges nodes (NotWritten fault) =
    IsWriteFault (parts_of_nodes nodes) [] fault

-- the reason why no tree can be made from this one with ranges and reservations: the ranges of one
-- of its nodes cannot be read, or a reserved range does not fit into the cells of its root
abbrev pub IsMakeFault : Tree → List Reserved → List Reservation → MakeFault → Type 0
IsMakeFault tree ranges reservations (NotUnderstood reason) = HasNoRanges tree reason
IsMakeFault tree ranges reservations BadCells = (cells : Cells)
    × AreCells (map has tree.properties) cells × HasUnfitRange cells ranges
IsMakeFault tree ranges reservations (NotWritten fault) =
    IsWriteFault (parts_of_tree tree) reservations fault

-- the bytes begin with no readable tree
abbrev pub IsNotRead : List ℕ → TreeFault → Type 0
IsNotRead bytes fault = fault.reason ≢ trees.Memory → (tree : Tree)
    (reservations : List Reservation) → ReadsAs bytes tree reservations → ⊥

-- the bytes begin with a tree that satisfies `IsSo`
abbrev pub BeginsWithTree : List ℕ → (Tree → Type 0) → Type 0
BeginsWithTree bytes IsSo = (tree : Tree) × (reservations : List Reservation)
    × ReadsAs bytes tree reservations × IsSo tree

-- the reason why harts and memory of a board are unknown: no tree is read, the ranges of one of its
-- nodes cannot be read, or an allocation failed
abbrev pub IsBoardOfFault : List ℕ → HostTreeFault → Type 0
IsBoardOfFault bytes (NotRead fault) = IsNotRead bytes fault
IsBoardOfFault bytes (NotMade (NotUnderstood reason)) =
    BeginsWithTree bytes (λ tree. HasNoRanges tree reason)
IsBoardOfFault bytes (NotMade BadCells) = ⊥
IsBoardOfFault bytes (NotMade (NotWritten fault)) = fault ≡ Memory

-- the reason why a host gets no tree with these ranges: no tree is read, the ranges of one of its
-- nodes cannot be read, a reserved range does not fit into the cells of the root, or the tree
-- cannot be written
abbrev pub IsHostTreeFault : List Reserved → List ℕ → HostTreeFault → Type 0
IsHostTreeFault ranges bytes (NotRead fault) = IsNotRead bytes fault
IsHostTreeFault ranges bytes (NotMade (NotUnderstood reason)) =
    BeginsWithTree bytes (λ tree. HasNoRanges tree reason)
IsHostTreeFault ranges bytes (NotMade BadCells) = BeginsWithTree bytes (λ tree. (cells : Cells)
    × AreCells (map has tree.properties) cells × HasUnfitRange cells ranges)
IsHostTreeFault ranges bytes (NotMade (NotWritten fault)) = IsWriteFault [] [] fault

-- the reason why a board's tree is unchanged: the host's tree cannot be made, or it does not fit
abbrev pub IsPlaceFault : PlatformWords → Extent → List ℕ → PlaceFault → Type 0
IsPlaceFault platform pool place (NoTree fault) =
    IsHostTreeFault (reserved_in platform pool) place fault
IsPlaceFault platform pool place NoRoom =
    LacksRoom (portion_in platform) (reserved_in platform pool) place 0
