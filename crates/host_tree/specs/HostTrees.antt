-- The host's device tree.
use Rattle.std.specs.Prelude.{◌≡◌, ◌⊎◌, ◌<◌, ◌+◌, ℕ, List, length, map}
use Rattle.device_tree.specs.declared.reservations.Reservation.{Reservation}
use Rattle.device_tree.specs.Pieces.{has}
use Rattle.device_tree.specs.Nodes.{Nodes, Tree}
use Rattle.device_tree.specs.Trees.{ReadsAs, SpellsTree}
use Rattle.device_tree.specs.Words.{word_at}
use Rattle.device_tree.specs.declared.cells.Cells.{Cells}
use Rattle.device_tree.specs.declared.kinds.Place.TheVariants.{BelowRoot}
use Rattle.device_tree.specs.Windows.{same}
use Rattle.device_tree.specs.Meaning.{AreCells}
use Rattle.host_tree.specs.declared.reserved.Reserved.{Reserved}
use Rattle.host_tree.specs.declared.share.Share.{Share}
use Rattle.host_tree.specs.HostNodes.{HostNodes, Portion}
use Rattle.host_tree.specs.Ranges.{AllFit, with_ranges}
use Rattle.host_tree.specs.Written.{HasFree, plain_size}

-- the portion that a `Share` of the program describes
abbrev pub portion_of : Share → Portion
portion_of share = record { harts = share.harts; ranges = share.ranges.now }

-- the host's tree for a board's: the root keeps its properties, its children are as the host gets
-- them, and the ranges are reserved
pub record IsHostTree (host : Portion) (ranges : List Reserved) (board made : Tree) : Type 0 where
  pub cells : Cells
  pub cells_are : AreCells (map has board.properties) cells
  pub fit : AllFit cells ranges
  pub nodes : Nodes
  pub nodes_are : HostNodes host BelowRoot cells same board.children nodes
  pub properties : made.properties ≡ board.properties
  pub children : made.children ≡ with_ranges cells ranges nodes

-- `made` is the host's tree for the one that the board's bytes begin with, with these reservations
pub record Makes (host : Portion) (ranges : List Reserved) (bytes : List ℕ) (made : Tree)
    (reservations : List Reservation) : Type 0 where
  pub board : Tree
  pub read : ReadsAs bytes board reservations
  pub is_made : IsHostTree host ranges board made

-- the plain size of the host's tree for the one that these bytes begin with
abbrev pub Needs : Portion → List Reserved → List ℕ → ℕ → Type 0
Needs host ranges bytes size = (made : Tree) × (reservations : List Reservation)
    × Makes host ranges bytes made reservations × (size ≡ plain_size made reservations)

-- the plain size of the host's tree for the one that these bytes begin with, and `free` more bytes,
-- exceed the length of these bytes
abbrev pub LacksRoom : Portion → List Reserved → List ℕ → ℕ → Type 0
LacksRoom host ranges bytes free = (size : ℕ) × Needs host ranges bytes size
    × (length bytes < size + free)

-- 4096 bytes are free at the end of a tree, or none if the place may lack room for them
abbrev pub LeavesFree : Portion → List Reserved → List ℕ → List ℕ → Type 0
LeavesFree host ranges place out = HasFree out 4096
    ⊎ (HasFree out 0 × LacksRoom host ranges place 4096)

-- `out` is the host's tree for the one that the board's bytes begin with, with the same
-- reservations and the same boot hart
pub record IsHosts (host : Portion) (ranges : List Reserved) (bytes out : List ℕ) : Type 0 where
  pub board : Tree
  pub made : Tree
  pub reservations : List Reservation
  pub read : ReadsAs bytes board reservations
  pub is_made : IsHostTree host ranges board made
  pub spelt : SpellsTree out made reservations
  -- the number of the boot hart is unchanged
  pub boot_hart : word_at out 28 ≡ word_at bytes 28
