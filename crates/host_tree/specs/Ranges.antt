-- Reserved ranges as nodes below `/reserved-memory`. Devicetree Specification 0.4, section 3.5.
use Rattle.std.specs.Prelude.{ℕ, zero, suc, ◌+◌, ◌*◌, ◌/◌, ◌%◌, ◌^◌, ◌<◌, ⊤, cond, ltb}
use Rattle.std.specs.Prelude.{List, [], ◌∷◌, ◌++◌, codes, bytes_eq}
use Rattle.byteorder.specs.Endian.{big_bytes}
use Rattle.device_tree.specs.Pieces.{Setting}
use Rattle.device_tree.specs.Nodes.{Nodes, no_nodes, node}
use Rattle.host_tree.specs.Written.{setting}
use Rattle.device_tree.specs.declared.cells.Cells.{Cells}
use Rattle.device_tree.specs.declared.rows.Extent.{Extent}
use Rattle.host_tree.specs.declared.reserved.Purpose.{Purpose}
use Rattle.host_tree.specs.declared.reserved.Purpose.TheVariants.{Monitor, Pool}
use Rattle.host_tree.specs.declared.reserved.Reserved.{Reserved}

-- a hexadecimal digit, in lower case
abbrev pub hex_digit : ℕ → ℕ
hex_digit value = cond (ltb value 10) (48 + value) (87 + value)

-- the lowest digits of a hexadecimal number, up to a limit, without leading zeros
abbrev pub hex_text : ℕ → ℕ → List ℕ
hex_text zero value = []
hex_text (suc more) value = cond (ltb value 16) (hex_digit value ∷ [])
    (hex_text more (value / 16) ++ hex_digit (value % 16) ∷ [])

-- the name of a range's node before its unit address
abbrev pub purpose_name : Purpose → List ℕ
purpose_name Monitor = codes "monitor"
purpose_name Pool = codes "enclaves"

-- the name of a range's node: its purpose and its first address
abbrev pub range_name : Reserved → List ℕ
range_name one = purpose_name one.purpose ++ (64 ∷ hex_text 16 one.extent.base)

-- the `compatible` property, which only a pool has: it is for enclaves
abbrev pub compatible_of : Purpose → List Setting
compatible_of Monitor = []
compatible_of Pool = setting (codes "compatible") (codes "pmpmon,pool" ++ 0 ∷ []) ∷ []

-- an address and a size
abbrev pub reg_bytes : Cells → Extent → List ℕ
reg_bytes cells extent = big_bytes (4 * cells.address) extent.base
    ++ big_bytes (4 * cells.size) extent.size

-- an address and a size fit into the cells
pub record Fits (cells : Cells) (extent : Extent) : Type 0 where
  pub address : extent.base < 256 ^ (4 * cells.address)
  pub size : extent.size < 256 ^ (4 * cells.size)

-- address and size of each range fit into the cells
abbrev pub AllFit : Cells → List Reserved → Type 0
AllFit cells [] = ⊤
AllFit cells (first ∷ later) = Fits cells first.extent × AllFit cells later

-- the properties of a range: an address, a size and `no-map`
abbrev pub range_settings : Cells → Reserved → List Setting
range_settings cells one = compatible_of one.purpose
    ++ (setting (codes "reg") (reg_bytes cells one.extent) ∷ setting (codes "no-map") [] ∷ [])

-- the nodes of ranges, in their order
abbrev pub range_nodes : Cells → List Reserved → Nodes
range_nodes cells [] = no_nodes
range_nodes cells (first ∷ later) = node (range_name first) (range_settings cells first) no_nodes
    (range_nodes cells later)

-- the properties of a new `/reserved-memory`: the cells of the root, and identity-mapped addresses
abbrev pub parent_settings : Cells → List Setting
parent_settings cells = setting (codes "#address-cells") (big_bytes 4 cells.address)
    ∷ setting (codes "#size-cells") (big_bytes 4 cells.size) ∷ setting (codes "ranges") [] ∷ []

-- nodes followed by others
abbrev pub and_nodes : Nodes → Nodes → Nodes
and_nodes no_nodes others = others
and_nodes (node name properties children later) others = node name properties children
    (and_nodes later others)

-- the children of the root with the reserved ranges: after the other children of the first
-- `/reserved-memory`, or in a new one if there is none
abbrev pub with_ranges : Cells → List Reserved → Nodes → Nodes
with_ranges cells ranges no_nodes = node (codes "reserved-memory") (parent_settings cells)
    (range_nodes cells ranges) no_nodes
with_ranges cells ranges (node name properties children later) =
    cond (bytes_eq name (codes "reserved-memory"))
    (node name properties (and_nodes children (range_nodes cells ranges)) later)
    (node name properties children (with_ranges cells ranges later))
