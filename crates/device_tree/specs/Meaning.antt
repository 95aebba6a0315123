-- The memory and the devices that the nodes of a tree describe.
use Rattle.std.specs.Prelude.{◌≡◌, ◌⊎◌, ℕ, ◌<◌, ◌≤◌, Bool, true, false, cond, ◌&&◌, bytes_eq}
use Rattle.std.specs.Prelude.{List, [], ◌∷◌, ◌++◌}
use Rattle.std.specs.Prelude.{Option, None, Some, codes, map}
use Rattle.device_tree.specs.Pieces.{Part, Setting, has}
use Rattle.device_tree.specs.Nodes.{Nodes, no_nodes, node, Tree}
use Rattle.device_tree.specs.declared.cells.Cells.{Cells}
use Rattle.device_tree.specs.declared.rows.Extent.{Extent}
use Rattle.device_tree.specs.declared.kinds.Kind.{Kind}
use Rattle.device_tree.specs.declared.kinds.Kind.TheVariants.{Memory, Device, Machine}
use Rattle.device_tree.specs.declared.kinds.Kind.TheVariants.{Reserved, Hart, Untranslated}
use Rattle.device_tree.specs.declared.kinds.Place.{Place}
use Rattle.device_tree.specs.declared.kinds.Place.TheVariants.{BelowRoot, InReserved}
use Rattle.device_tree.specs.declared.kinds.Place.TheVariants.{OnBus, Elsewhere}
use Rattle.device_tree.specs.declared.ways.RowPart.{RowPart}
use Rattle.device_tree.specs.declared.ways.Window.{Window}
use Rattle.device_tree.specs.declared.registers.Found.{Found}
use Rattle.device_tree.specs.Cells.{AreRows}
use Rattle.device_tree.specs.Windows.{AreParts, AreWindows, Path, bus_size, root_address, same}
use Rattle.device_tree.specs.Properties.{value_in, cells_in, is_okay}
use Rattle.device_tree.specs.MachineDevices.{is_machine}

-- a range of addresses: its kind, its extent, and the name of its node
pub record Range : Type 0 where
  pub kind : Kind
  pub extent : Extent
  pub name : List ℕ

-- there is a value, and it is equal to `wanted`
abbrev pub is_value : List ℕ → Option (List ℕ) → Bool
is_value wanted None = false
is_value wanted (Some value) = bytes_eq value wanted

-- a property has a value
abbrev pub is_there : Option (List ℕ) → Bool
is_there None = false
is_there (Some value) = true

-- the `device_type` of a node is this text
abbrev pub has_type : List ℕ → List Part → Bool
has_type text properties = is_value (text ++ 0 ∷ []) (value_in (codes "device_type") properties)

-- a device, which may belong to machine mode
abbrev pub device_by : Bool → Kind
device_by machine = cond machine Machine Device

-- the kind of a node's registers, given its place and whether it is a hart, memory, unmapped, or
-- machine mode's. Children of `/reserved-memory` are reserved if they are unmapped. Elsewhere a
-- node can be a hart, below the root also memory, and below the root or on a bus a device
abbrev pub kind_by : Place → Bool → Bool → Bool → Bool → Option Kind
kind_by Elsewhere hart memory unmapped machine = cond hart (Some Hart) None
kind_by InReserved hart memory unmapped machine = cond unmapped (Some Reserved) None
kind_by BelowRoot hart memory unmapped machine = cond hart (Some Hart)
    (cond memory (Some Memory) (Some (device_by machine)))
kind_by OnBus hart memory unmapped machine = cond hart (Some Hart)
    (cond memory None (Some (device_by machine)))

-- the kind of a node at this place, given its properties, or `None` if it describes no range
abbrev pub kind_of : Place → List Part → Option Kind
kind_of place properties = kind_by place (has_type (codes "cpu") properties)
    (has_type (codes "memory") properties) (is_there (value_in (codes "no-map") properties))
    (is_machine (value_in (codes "compatible") properties)
    (value_in (codes "interrupts-extended") properties)
    (is_there (value_in (codes "riscv,children") properties)))

-- the kind of a node if it is enabled, otherwise `None`
abbrev pub live_kind : Place → List Part → Option Kind
live_kind place properties = cond (is_okay properties) (kind_of place properties) None

-- a range of a node
abbrev pub range_of : Kind → List ℕ → ℕ → ℕ → Range
range_of kind name base size = record {
  kind = kind;
  extent = record { base = base; size = size };
  name = name;
}

-- a part of a row of registers as a range, by its address at the root, or by that on its bus if the
-- root has none
abbrev pub part_range : Kind → List ℕ → RowPart → Option ℕ → Range
part_range kind name part None = range_of Untranslated name part.base part.size
part_range kind name part (Some base) = range_of kind name base part.size

-- the parts of a row of registers as ranges
abbrev pub part_ranges : Kind → List ℕ → List RowPart → List Range
part_ranges kind name parts = map (λ (part : RowPart). part_range kind name part part.root) parts

-- buses do not translate the numbers of harts
abbrev pub is_number : Kind → Bool
is_number Hart = true
is_number Memory = false
is_number Device = false
is_number Machine = false
is_number Reserved = false
is_number Untranslated = false

-- a row needs no translation: it has addresses of the root, or it is the number of a hart
abbrev pub is_plain : Path → Kind → Bool
is_plain [] kind = true
is_plain (bus ∷ outer) kind = is_number kind

-- the ranges of a row of registers: the row itself, otherwise its parts as the buses translate them
abbrev pub AreRowRanges : Bool → Path → Kind → List ℕ → Extent → List Range → Type 0
AreRowRanges true way kind name row ranges = ranges
    ≡ range_of kind name row.base row.size ∷ []
AreRowRanges false way kind name row ranges = (parts : List RowPart)
    × AreParts (root_address way) row.base (bus_size row) parts
    × (ranges ≡ part_ranges kind name parts)

-- the ranges of rows of registers, one row after the other
abbrev pub AreRanges : Path → Kind → List ℕ → List Extent → List Range → Type 0
AreRanges way kind name [] ranges = ranges ≡ []
AreRanges way kind name (row ∷ rows) ranges = (first : List Range) × (later : List Range)
    × AreRowRanges (is_plain way kind) way kind name row first
    × AreRanges way kind name rows later
    × (ranges ≡ first ++ later)

-- the ranges of a node's own registers
abbrev pub AreOwn : Option Kind → Option (List ℕ) → Cells → Path → List ℕ → List Range → Type 0
AreOwn None reg cells way name ranges = ranges ≡ []
AreOwn (Some kind) None cells way name ranges = ranges ≡ []
AreOwn (Some kind) (Some reg) cells way name ranges = (rows : List Extent) × AreRows cells reg rows
    × AreRanges way kind name rows ranges

-- the cells that the properties of a node give its children
pub record AreCells (properties : List Part) (cells : Cells) : Type 0 where
  pub address : cells_in 2 (value_in (codes "#address-cells") properties) ≡ Some cells.address
  pub size : cells_in 1 (value_in (codes "#size-cells") properties) ≡ Some cells.size

-- the translation for the children of a bus with this `ranges`: an empty one changes nothing
abbrev pub IsPassedOn : List ℕ → Cells → ℕ → Path → Option Path → Type 0
IsPassedOn [] inner outer way found = found ≡ Some way
IsPassedOn (byte ∷ bytes) inner outer way found = (windows : List Window)
    × AreWindows inner outer (byte ∷ bytes) windows
    × (found ≡ Some (windows ∷ way))

-- the translation of child addresses to the root: `None` without `ranges`, or if an address has
-- more than two cells, because the first of them is not part of the address; unchanged if `ranges`
-- is empty; otherwise by its rows
abbrev pub IsInnerWay : Option (List ℕ) → Cells → ℕ → Path → Option Path → Type 0
IsInnerWay None inner outer way found = found ≡ None
IsInnerWay (Some bytes) inner outer way found = ((2 < inner.address) × (found ≡ None))
    ⊎ ((inner.address ≤ 2) × IsPassedOn bytes inner outer way found)

-- the ranges that the program found, as values
abbrev pub said_of : List Found → List Range
said_of found = map (λ (one : Found). record {
  kind = one.kind;
  extent = one.extent;
  name = one.name.now;
}) found

-- the place of the children of a node, given its own place and whether it is `/reserved-memory`, is
-- enabled, and translates its children's addresses
abbrev pub place_by : Place → Bool → Bool → Bool → Place
place_by BelowRoot reserved live way = cond reserved InReserved
    (cond (live && way) OnBus Elsewhere)
place_by OnBus reserved live way = cond (live && way) OnBus Elsewhere
place_by InReserved reserved live way = Elsewhere
place_by Elsewhere reserved live way = Elsewhere

-- the addresses of a node are translated to the root
abbrev pub has_path : Option Path → Bool
has_path None = false
has_path (Some way) = true

-- the translation to the root, or the one that changes nothing
abbrev pub path_or : Option Path → Path
path_or None = same
path_or (Some way) = way

-- the place of the children of a node
abbrev pub inner_place : Place → List ℕ → List Part → Option Path → Place
inner_place place name properties way = place_by place (bytes_eq name (codes "reserved-memory"))
    (is_okay properties) (has_path way)

-- nodes on a bus with these cells and this translation to the root describe these ranges: for each
-- node its own, then those of its children, then those of the later nodes
pub data Say : Place → Cells → Path → Nodes → List Range → Type 0 where
  nothing : {place : Place} {cells : Cells} {way : Path} → Say place cells way no_nodes []
  a_node : {place : Place} {cells : Cells} {way : Path} {name : List ℕ} {properties : List Setting}
      {children later : Nodes} (own below behind : List Range) (inner : Cells)
      (found : Option Path)
      → AreOwn (live_kind place (map has properties)) (value_in (codes "reg") (map has properties))
      cells way name own
      → AreCells (map has properties) inner
      → IsInnerWay (value_in (codes "ranges") (map has properties)) inner cells.address way found
      → Say (inner_place place name (map has properties) found) inner (path_or found) children below
      → Say place cells way later behind
      → Say place cells way (node name properties children later) (own ++ (below ++ behind))

-- a tree describes these ranges: those of the nodes below its root, whose addresses are the board's
abbrev pub TreeSays : Tree → List Range → Type 0
TreeSays tree ranges = (cells : Cells) × AreCells (map has tree.properties) cells
    × Say BelowRoot cells same tree.children ranges
