-- The nodes of the host's tree.
use Rattle.std.specs.Prelude.{◌≡◌, ℕ, List, [], ◌∷◌, ◌++◌, Option, None, Some, codes, map}
use Rattle.device_tree.specs.Pieces.{Part, Setting, begins, has}
use Rattle.device_tree.specs.Nodes.{BeginsNoNode, Nodes, no_nodes, node, parts_of_nodes}
use Rattle.device_tree.specs.declared.cells.Cells.{Cells}
use Rattle.device_tree.specs.declared.kinds.Kind.{Kind}
use Rattle.device_tree.specs.declared.kinds.Place.{Place}
use Rattle.device_tree.specs.declared.rows.Extent.{Extent}
use Rattle.device_tree.specs.Cells.{AreRows}
use Rattle.device_tree.specs.Windows.{Path}
use Rattle.device_tree.specs.Properties.{value_in}
use Rattle.device_tree.specs.Meaning.{AreCells, IsInnerWay, has_type, inner_place, live_kind}
use Rattle.device_tree.specs.Meaning.{path_or}
use Rattle.host_tree.specs.declared.writer.TreeWriter.{TreeWriter}
use Rattle.host_tree.specs.Written.{Adds}
use Rattle.host_tree.specs.Shares.{is_closed}
use Rattle.host_tree.specs.Settings.{host_settings}

-- the rows of a node's registers: none if the node has no kind or no `reg`
abbrev pub AreRegisters : Option Kind → Option (List ℕ) → Cells → List Extent → Type 0
AreRegisters None reg cells rows = rows ≡ []
AreRegisters (Some kind) None cells rows = rows ≡ []
AreRegisters (Some kind) (Some reg) cells rows = AreRows cells reg rows

-- the part of the board that a host may use: the harts below a number, and ranges of addresses
pub record Portion : Type 0 where
  pub harts : ℕ
  pub ranges : List Extent

-- the properties that the host gets of a node with these registers
abbrev pub node_settings : Portion → Place → Path → List Extent → List Setting → List Setting
node_settings host place way rows own = host_settings (has_type (codes "cpu") (map has own))
    (is_closed host.harts host.ranges way (live_kind place (map has own)) rows (map has own)) own

-- the host gets these nodes for the nodes on a bus with these cells and this way to the root's
-- addresses: the same nodes, nested alike, in the same order, each with the host's properties
pub data HostNodes (host : Portion) : Place → Cells → Path → Nodes → Nodes → Type 0 where
  nothing : {place : Place} {cells : Cells} {way : Path}
      → HostNodes host place cells way no_nodes no_nodes
  a_node : {place : Place} {cells : Cells} {way : Path} {name : List ℕ}
      {properties : List Setting} {children later inside behind : Nodes} (rows : List Extent)
      (inner : Cells) (found : Option Path)
      → AreRegisters (live_kind place (map has properties))
      (value_in (codes "reg") (map has properties)) cells rows
      → AreCells (map has properties) inner
      → IsInnerWay (value_in (codes "ranges") (map has properties)) inner cells.address way found
      → HostNodes host (inner_place place name (map has properties) found) inner (path_or found)
      children inside
      → HostNodes host place cells way later behind
      → HostNodes host place cells way (node name properties children later)
      (node name (node_settings host place way rows properties) inside behind)

-- all of a node of this name and with these properties has been written as the host gets it, except
-- its end, and `behind` are the parts after its children
abbrev pub IsChild : Portion → Place → Cells → Path → List ℕ → List Part → List Part → List Part
    → TreeWriter → TreeWriter → Type 0
IsChild host place cells way name properties inner behind old new = (own : List Setting)
    (children : Nodes) (rest : List Part) → properties ≡ map has own
    → inner ≡ parts_of_nodes children ++ rest → BeginsNoNode rest
    → (behind ≡ rest) × (made : List Setting) × (inside : Nodes)
    × ((later more : Nodes) → HostNodes host place cells way later more
    → HostNodes host place cells way (node name own children later) (node name made inside more))
    × Adds old new (begins name ∷ (map has made ++ parts_of_nodes inside))
