-- The translation of addresses by a bus with `ranges`. Devicetree Specification 0.4, section 2.3.8.
use Rattle.std.specs.Prelude.{◌≡◌, ◌≢◌, ◌⊎◌, ℕ, zero, suc, ◌+◌, ◌-◌, ◌*◌, ◌<◌, ◌≤◌, ◌^◌, min}
use Rattle.std.specs.Prelude.{Bool, true, false, cond, leb, ltb, eqb, ◌&&◌}
use Rattle.std.specs.Prelude.{List, [], ◌∷◌, Option, None, Some, option_map, length, drop}
use Rattle.std.specs.Option.{option_and_then}
use Rattle.device_tree.specs.declared.cells.Cells.{Cells}
use Rattle.device_tree.specs.declared.rows.Extent.{Extent}
use Rattle.device_tree.specs.declared.ways.RowPart.{RowPart}
use Rattle.device_tree.specs.declared.ways.Step.{Step}
use Rattle.device_tree.specs.declared.ways.Window.{Window}
use Rattle.device_tree.specs.declared.ways.Way.{Way, Same, Bus'}
use Rattle.device_tree.specs.Cells.{number_of}

-- the size of a row of `ranges`: an address of the bus, one of its parent, and a size
abbrev pub window_len : Cells → ℕ → ℕ
window_len cells outer = 4 * (cells.address + outer + cells.size)

-- the bytes are these rows
abbrev pub AreWindows : Cells → ℕ → List ℕ → List Window → Type 0
AreWindows cells outer bytes [] = bytes ≡ []
AreWindows cells outer bytes (first ∷ later) = (0 < window_len cells outer)
    × (window_len cells outer ≤ length bytes)
    × (first.child ≡ number_of cells.address bytes)
    × (first.parent ≡ number_of outer (drop (4 * cells.address) bytes))
    × (first.size ≡ number_of cells.size (drop (4 * (cells.address + outer)) bytes))
    × AreWindows cells outer (drop (window_len cells outer) bytes) later

-- a window translates an address of the bus: it contains the address, and the address that it
-- becomes has 64 bits
abbrev pub has_address : Window → ℕ → Bool
has_address window address = leb window.child address
    && (ltb (address - window.child) window.size
    && ltb (window.parent + (address - window.child)) (2 ^ 64))

-- the address on the parent for an address of the bus, by the first window that translates it
abbrev pub parent_address : List Window → ℕ → Option ℕ
parent_address [] address = None
parent_address (first ∷ later) address = cond (has_address first address)
    (Some (first.parent + (address - first.child))) (parent_address later address)

-- the buses between some nodes and the root, the nearest first, each by its windows
abbrev pub Path : Type 0
Path = List (List Window)

-- addresses that are the root's own
abbrev pub same : Path
same = []

-- the address at the root for an address of the bus, translated level by level
abbrev pub root_address : Path → ℕ → Option ℕ
root_address [] address = Some address
root_address (bus ∷ outer) address = option_and_then (root_address outer)
    (parent_address bus address)

-- the buses of the program's translation
abbrev pub path_of : Way → Path
path_of Same = []
path_of (Bus' p windows outer) = windows.items ∷ path_of outer

-- the address that is some bytes higher, if there is an address
abbrev pub moved : ℕ → Option ℕ → Option ℕ
moved bytes address = option_map (λ (a : ℕ). a + bytes) address

-- the bytes from an address on are one piece: they are consecutive at the root, or none of them has
-- an address there
abbrev pub IsPiece : (ℕ → Option ℕ) → ℕ → ℕ → Type 0
IsPiece root address size = (k : ℕ) → k < size → root (address + k) ≡ moved k (root address)

-- the bytes from an address on are these parts in order, each of which is one piece of maximal size
abbrev pub AreParts : (ℕ → Option ℕ) → ℕ → ℕ → List RowPart → Type 0
AreParts root address size [] = size ≡ 0
AreParts root address size (first ∷ later) = (first.base ≡ address)
    × (0 < first.size) × (first.size ≤ size)
    × (first.root ≡ root address)
    × IsPiece root address first.size
    × ((first.size ≡ size) ⊎ (root (address + first.size) ≢ moved first.size (root address)))
    × AreParts root (address + first.size) (size - first.size) later

-- the number of bytes of an extent whose addresses have 64 bits
abbrev pub bus_size : Extent → ℕ
bus_size extent = min extent.size (2 ^ 64 - extent.base)

-- the two addresses are equal, or both are missing
abbrev pub is_same_address : Option ℕ → Option ℕ → Bool
is_same_address None None = true
is_same_address None (Some b) = false
is_same_address (Some a) None = false
is_same_address (Some a) (Some b) = eqb a b

-- the bytes from an address on are one piece
abbrev pub is_piece : (ℕ → Option ℕ) → ℕ → ℕ → Bool
is_piece root address zero = true
is_piece root address (suc size) = is_piece root address size
    && is_same_address (root (address + size)) (moved size (root address))

-- an extent of a bus at the root by these addresses, if all of it is one piece
abbrev pub in_one_piece : (ℕ → Option ℕ) → Extent → Option Extent
in_one_piece root extent = cond
    (leb (extent.base + extent.size) (2 ^ 64) && is_piece root extent.base extent.size)
    (option_map (λ (base : ℕ). record { base = base; size = extent.size }) (root extent.base))
    None

-- an extent of a bus at the root, if all of it is one piece there
abbrev pub at_root : Path → Extent → Option Extent
at_root [] extent = Some extent
at_root (bus ∷ outer) extent = in_one_piece (root_address (bus ∷ outer)) extent

-- a step has the address at the root, and a number of bytes that are one piece
pub record IsStep (root : ℕ → Option ℕ) (address : ℕ) (step : Step) : Type 0 where
  pub some : 0 < step.len
  pub is_root : step.root ≡ root address
  pub piece : IsPiece root address step.len

-- the part begins at the address, is one piece, and has at most `most` bytes
pub record IsPart (root : ℕ → Option ℕ) (address most : ℕ) (part : RowPart) : Type 0 where
  pub base : part.base ≡ address
  pub some : 0 < part.size
  pub within : part.size ≤ most
  pub is_root : part.root ≡ root address
  pub piece : IsPiece root address part.size
