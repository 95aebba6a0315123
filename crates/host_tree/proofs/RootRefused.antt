-- Why of a whole tree nothing is made.
use Rattle.std.proofs.Common.{◌≡◌, ℕ, List, [], ◌∷◌, ◌++◌, map, inr, subst, sym, refl}
use Rattle.device_tree.specs.declared.reservations.Reservation.{Reservation}
use Rattle.device_tree.specs.Pieces.{Part, has, ends}
use Rattle.device_tree.specs.Nodes.{Tree, parts_of_nodes, parts_of_tree}
use Rattle.device_tree.specs.Trees.{ReadsAs, front_of, reservations_of, strings_of, structure_of}
use Rattle.device_tree.specs.declared.cells.Cells.{Cells}
use Rattle.device_tree.specs.declared.kinds.Place.TheVariants.{BelowRoot}
use Rattle.device_tree.specs.Windows.{same}
use Rattle.device_tree.specs.Meaning.{AreCells}
use Rattle.device_tree.specs.BoardRefusals.{below_root}
use Rattle.host_tree.specs.declared.fault.HostTreeFault.TheVariants.{NotMade}
use Rattle.host_tree.specs.declared.fault.MakeFault.{MakeFault}
use Rattle.host_tree.specs.declared.fault.MakeFault.TheVariants.{NotUnderstood, BadCells, NotWritten}
use Rattle.host_tree.specs.declared.reserved.Reserved.{Reserved}
use Rattle.host_tree.specs.declared.write_fault.WriteFault.TheVariants.{Memory}
use Rattle.host_tree.specs.Refusals.{AreRefused, HasZeroName, IsBoardOfFault, IsHostTreeFault, IsMakeFault, IsPutFault}
use Rattle.host_tree.proofs.ReadNames.{none_empty, none_zero}
use Rattle.host_tree.proofs.WriteFaults.{write_in, zero_first, zero_last}

-- some of its parts are not written
pub parts_refused : (tree : Tree) (ranges : List Reserved) (P : List Part) → (HasZeroName P → HasZeroName (parts_of_tree tree)) → (fault : MakeFault)
    → IsPutFault P fault → IsMakeFault tree ranges [] fault
parts_refused tree ranges P into (NotUnderstood reason) h = absurd h
parts_refused tree ranges P into BadCells h = absurd h
parts_refused tree ranges P into (NotWritten fault) h = write_in P (parts_of_tree tree) [] [] into (λ e. e) fault h

-- the properties of the root
pub own_refused : (tree : Tree) (ranges : List Reserved) (Q : List Part) → Q ≡ map has tree.properties → (fault : MakeFault)
    → IsPutFault Q fault → IsMakeFault tree ranges [] fault
own_refused tree ranges Q are = parts_refused tree ranges Q
    (λ zero. inr (zero_first (map has tree.properties) (parts_of_nodes tree.children ++ (ends ∷ [])) (subst HasZeroName are zero)))

-- its children
pub children_refused : (tree : Tree) (ranges : List Reserved) (cells : Cells) → AreCells (map has tree.properties) cells → (fault : MakeFault)
    → AreRefused BelowRoot cells same ranges tree.children fault → IsMakeFault tree ranges [] fault
children_refused tree ranges cells are (NotUnderstood reason) h = (h.0 ++ (ends ∷ []), below_root cells h.0 reason are h.1)
children_refused tree ranges cells are BadCells h = (cells, are, h)
children_refused tree ranges cells are (NotWritten fault) h = write_in (parts_of_nodes tree.children) (parts_of_tree tree) [] []
    (λ zero. inr (zero_last (map has tree.properties) (parts_of_nodes tree.children ++ (ends ∷ []))
    (zero_first (parts_of_nodes tree.children) (ends ∷ []) zero))) (λ e. e) fault h

-- the same with reservations
pub with_reservations : (tree : Tree) (ranges : List Reserved) (reservations : List Reservation) (fault : MakeFault) → IsMakeFault tree ranges [] fault
    → IsMakeFault tree ranges reservations fault
with_reservations tree ranges reservations (NotUnderstood reason) h = h
with_reservations tree ranges reservations BadCells h = h
with_reservations tree ranges reservations (NotWritten fault) h = write_in (parts_of_tree tree) (parts_of_tree tree) [] reservations (λ z. z)
    (λ e. absurd e) fault h

-- of a tree that was read
pub read_refused : (bytes : List ℕ) (ranges : List Reserved) (tree : Tree) (reservations : List Reservation) → ReadsAs bytes tree reservations
    → (fault : MakeFault) → IsMakeFault tree ranges reservations fault → IsHostTreeFault ranges bytes (NotMade fault)
read_refused bytes ranges tree reservations read (NotUnderstood reason) h = (tree, reservations, read, h)
read_refused bytes ranges tree reservations read BadCells h = (tree, reservations, read, h)
read_refused bytes ranges tree reservations read (NotWritten fault) h =
    let front = front_of bytes in
    write_in (parts_of_tree tree) [] reservations []
    (none_zero (strings_of front) (structure_of front) (parts_of_tree tree) read.spelt.structure)
    (none_empty (reservations_of front) reservations read.spelt.reserved) fault h

-- memory was refused
pub board_lacks_memory : (bytes : List ℕ) (fault : MakeFault) → fault ≡ NotWritten Memory → IsBoardOfFault bytes (NotMade fault)
board_lacks_memory bytes fault is = subst (λ (x : MakeFault). IsBoardOfFault bytes (NotMade x)) (sym is) refl
