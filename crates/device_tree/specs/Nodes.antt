-- The nodes of a device tree, and their parts in a structure block.
use Rattle.std.specs.Prelude.{◌≡◌, ℕ, zero, suc, ⊤, List, [], ◌∷◌, ◌++◌, map}
use Rattle.device_tree.specs.Pieces.{Part, Setting, begins, has, ends}

-- a sequence of nodes: empty, or a node with its name and unit address, its properties and its
-- children, followed by later nodes
pub data Nodes : Type 0 where
  no_nodes : Nodes
  node : (name : List ℕ) (properties : List Setting) (children later : Nodes) → Nodes

-- the parts of nodes: the start, the properties, the children and the end of each
abbrev pub parts_of_nodes : Nodes → List Part
parts_of_nodes no_nodes = []
parts_of_nodes (node name properties children later) = begins name
    ∷ (map has properties ++ (parts_of_nodes children ++ (ends ∷ parts_of_nodes later)))

-- nodes are nested at most `levels` deep
abbrev pub AreWithin : ℕ → Nodes → Type 0
AreWithin levels no_nodes = ⊤
AreWithin zero (node name properties children later) = ⊥
AreWithin (suc levels) (node name properties children later) = AreWithin levels children
    × AreWithin (suc levels) later

-- a device tree: the properties and the children of its root, whose name is empty
pub record Tree : Type 0 where
  pub properties : List Setting
  pub children : Nodes

-- the parts of a whole tree, from the start to the end of its root
abbrev pub parts_of_tree : Tree → List Part
parts_of_tree tree = begins []
    ∷ (map has tree.properties ++ (parts_of_nodes tree.children ++ (ends ∷ [])))

-- the first part does not begin a node
abbrev pub BeginsNoNode : List Part → Type 0
BeginsNoNode parts = (name : List ℕ) (later : List Part) → parts ≡ begins name ∷ later → ⊥

-- the first part is not a property
abbrev pub HasNoProperty : List Part → Type 0
HasNoProperty parts = (property : Setting) (later : List Part) → parts ≡ has property ∷ later → ⊥

-- the parts are these nodes, of at most `levels` levels, followed by parts that do not begin a node
pub record AreNodesBefore (levels : ℕ) (parts : List Part) (nodes : Nodes) (behind : List Part) :
    Type 0 where
  pub parts_are : parts ≡ parts_of_nodes nodes ++ behind
  pub no_more : BeginsNoNode behind
  pub within : AreWithin levels nodes

-- the parts are this tree, of at most 64 levels with its root
pub record IsTreeOf (parts : List Part) (tree : Tree) : Type 0 where
  pub parts_are : parts ≡ parts_of_tree tree
  pub within : AreWithin 63 tree.children
