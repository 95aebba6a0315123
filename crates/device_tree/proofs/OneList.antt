-- A tree says one list of ranges at most.
use Rattle.std.proofs.Common.{◌≡◌, ℕ, ◌+◌, ◌*◌, List, [], ◌∷◌, ◌++◌, Option, None, Some, Bool, true, false, inl, inr, codes, drop, length, map, ap, ap₂, sym, subst, refl, ◌∙◌, arith}
use Rattle.std.proofs.lemmas.Option.{same_Some}
use Rattle.device_tree.specs.Pieces.{Part, has}
use Rattle.device_tree.specs.Nodes.{Nodes, no_nodes, node, Tree}
use Rattle.device_tree.specs.declared.cells.Cells.{Cells}
use Rattle.device_tree.specs.declared.rows.Extent.{Extent}
use Rattle.device_tree.specs.declared.ways.RowPart.{RowPart}
use Rattle.device_tree.specs.declared.ways.Window.{Window}
use Rattle.device_tree.specs.declared.kinds.Kind.{Kind}
use Rattle.device_tree.specs.declared.kinds.Place.{Place}
use Rattle.device_tree.specs.declared.kinds.Place.TheVariants.{BelowRoot}
use Rattle.device_tree.specs.Cells.{AreRows, number_of, row_len}
use Rattle.device_tree.specs.Windows.{AreWindows, Path, bus_size, root_address, same, window_len}
use Rattle.device_tree.specs.Properties.{value_in}
use Rattle.device_tree.proofs.ExtentParts.{same_parts}
use Rattle.device_tree.specs.Meaning.{AreCells, AreOwn, AreRanges, AreRowRanges, IsInnerWay, IsPassedOn, Range, Say, TreeSays, a_node, inner_place, is_plain, live_kind, nothing, part_ranges, path_or}

-- buses whose addresses and sizes have as many cells
pub record SameCells (c d : Cells) : Type 0 where
  pub address : c.address ≡ d.address
  pub size : c.size ≡ d.size

extent_of : ℕ → ℕ → Extent
extent_of b s = record { base = b; size = s }

same_extent : (x y : Extent) → x.base ≡ y.base → x.size ≡ y.size → x ≡ y
unfolding extent_of
same_extent x y b s = ap₂ (λ (p : ℕ) (q : ℕ). extent_of p q) b s

window_of : ℕ → ℕ → ℕ → Window
window_of c p s = record { child = c; parent = p; size = s }

same_window : (x y : Window) → x.child ≡ y.child → x.parent ≡ y.parent → x.size ≡ y.size → x ≡ y
unfolding window_of
same_window x y c p s = ap (λ (k : ℕ). window_of k x.parent x.size) c ∙ ap₂ (λ (k : ℕ) (l : ℕ). window_of y.child k l) p s

same_rows : (c d : Cells) (bytes : List ℕ) (xs ys : List Extent) → SameCells c d → AreRows c bytes xs → AreRows d bytes ys → xs ≡ ys
same_rows c d bytes [] [] are h w = refl
same_rows c d bytes [] (y ∷ ys) are h w = absurd (omega (arith, w.0, w.1, ap length h))
same_rows c d bytes (x ∷ xs) [] are h w = absurd (omega (arith, h.0, h.1, ap length w))
same_rows c d bytes (x ∷ xs) (y ∷ ys) are h w =
    let row : row_len d ≡ row_len c = ap₂ (λ (a : ℕ) (s : ℕ). 4 * (a + s)) (sym are.address) (sym are.size) in
    let base = h.2 ∙ ap (λ n. number_of n bytes) are.address ∙ sym w.2 in
    let size = h.3 ∙ ap₂ (λ (a : ℕ) (s : ℕ). number_of s (drop (4 * a) bytes)) are.address are.size ∙ sym w.3 in
    let later = subst (λ n. AreRows d (drop n bytes) ys) row w.4 in
    ap₂ (λ (p : Extent) (q : List Extent). p ∷ q) (same_extent x y base size) (same_rows c d (drop (row_len c) bytes) xs ys are h.4 later)

same_windows : (c d : Cells) (o p : ℕ) (bytes : List ℕ) (xs ys : List Window) → SameCells c d → o ≡ p → AreWindows c o bytes xs → AreWindows d p bytes ys
    → xs ≡ ys
same_windows c d o p bytes [] [] are e h w = refl
same_windows c d o p bytes [] (y ∷ ys) are e h w = absurd (omega (arith, w.0, w.1, ap length h))
same_windows c d o p bytes (x ∷ xs) [] are e h w = absurd (omega (arith, h.0, h.1, ap length w))
same_windows c d o p bytes (x ∷ xs) (y ∷ ys) are e h w =
    let row : window_len d p ≡ window_len c o =
    ap₂ (λ (a : ℕ) (s : ℕ). 4 * (a + p + s)) (sym are.address) (sym are.size) ∙ ap (λ k. 4 * (c.address + k + c.size)) (sym e) in
    let child = h.2 ∙ ap (λ n. number_of n bytes) are.address ∙ sym w.2 in
    let parent = h.3 ∙ ap₂ (λ (a : ℕ) (k : ℕ). number_of k (drop (4 * a) bytes)) are.address e ∙ sym w.3 in
    let size = h.4 ∙ ap (λ k. number_of c.size (drop (4 * (c.address + k)) bytes)) e
    ∙ ap₂ (λ (a : ℕ) (s : ℕ). number_of s (drop (4 * (a + p)) bytes)) are.address are.size ∙ sym w.4 in
    let later = subst (λ n. AreWindows d p (drop n bytes) ys) row w.5 in
    ap₂ (λ (r : Window) (q : List Window). r ∷ q) (same_window x y child parent size) (same_windows c d o p (drop (window_len c o) bytes) xs ys are e h.5 later)

same_row_ranges : (plain : Bool) (way : Path) (kind : Kind) (name : List ℕ) (row : Extent) (a b : List Range)
    → AreRowRanges plain way kind name row a → AreRowRanges plain way kind name row b → a ≡ b
same_row_ranges true way kind name row a b h w = h ∙ sym w
same_row_ranges false way kind name row a b h w =
    h.2 ∙ ap (λ (x : List RowPart). part_ranges kind name x) (same_parts (root_address way) row.base (bus_size row) h.0 w.0 h.1 w.1) ∙ sym w.2

same_ranges : (way : Path) (kind : Kind) (name : List ℕ) (rows : List Extent) (a b : List Range)
    → AreRanges way kind name rows a → AreRanges way kind name rows b → a ≡ b
same_ranges way kind name [] a b h w = h ∙ sym w
same_ranges way kind name (row ∷ rows) a b h w =
    let first = same_row_ranges (is_plain way kind) way kind name row h.0 w.0 h.2 w.2 in
    let later = same_ranges way kind name rows h.1 w.1 h.3 w.3 in
    h.4 ∙ ap₂ (λ (x : List Range) (y : List Range). x ++ y) first later ∙ sym w.4

same_own : (kind : Option Kind) (reg : Option (List ℕ)) (c d : Cells) (way : Path) (name : List ℕ) (a b : List Range) → SameCells c d
    → AreOwn kind reg c way name a → AreOwn kind reg d way name b → a ≡ b
same_own None reg c d way name a b are h w = h ∙ sym w
same_own (Some kind) None c d way name a b are h w = h ∙ sym w
same_own (Some kind) (Some reg) c d way name a b are h w =
    let rows : w.0 ≡ h.0 = same_rows d c reg w.0 h.0 (record { address = sym are.address; size = sym are.size }) w.1 h.1 in
    same_ranges way kind name h.0 a b h.2 (subst (λ (x : List Extent). AreRanges way kind name x b) rows w.2)

same_passed : (bytes : List ℕ) (c d : Cells) (o p : ℕ) (way : Path) (f g : Option Path) → SameCells c d → o ≡ p
    → IsPassedOn bytes c o way f → IsPassedOn bytes d p way g → f ≡ g
same_passed [] c d o p way f g are e h w = h ∙ sym w
same_passed (byte ∷ bytes) c d o p way f g are e h w =
    h.2 ∙ ap (λ (x : List Window). Some (x ∷ way)) (same_windows c d o p (byte ∷ bytes) h.0 w.0 are e h.1 w.1) ∙ sym w.2

same_way : (ranges : Option (List ℕ)) (c d : Cells) (o p : ℕ) (way : Path) (f g : Option Path) → SameCells c d → o ≡ p
    → IsInnerWay ranges c o way f → IsInnerWay ranges d p way g → f ≡ g
same_way None c d o p way f g are e h w = h ∙ sym w
same_way (Some bytes) c d o p way f g are e (inl h) (inl w) = h.1 ∙ sym w.1
same_way (Some bytes) c d o p way f g are e (inl h) (inr w) = absurd (omega (arith, h.0, w.0, are.address))
same_way (Some bytes) c d o p way f g are e (inr h) (inl w) = absurd (omega (arith, h.0, w.0, are.address))
same_way (Some bytes) c d o p way f g are e (inr h) (inr w) = same_passed bytes c d o p way f g are e h.1 w.1

same_cells : (P : List Part) (c d : Cells) → AreCells P c → AreCells P d → SameCells c d
same_cells P c d h w = record {
  address = same_Some c.address d.address (sym h.address ∙ w.address);
  size = same_Some c.size d.size (sym h.size ∙ w.size);
}

said_none : (place : Place) (c : Cells) (way : Path) (a : List Range) → Say place c way no_nodes a → a ≡ []
said_none place c way a nothing = refl

pub same_said : (place : Place) (c d : Cells) (way : Path) (nodes : Nodes) (a b : List Range) → SameCells c d
    → Say place c way nodes a → Say place d way nodes b → a ≡ b
same_said place c d way no_nodes a b are h w = said_none place c way a h ∙ sym (said_none place d way b w)
same_said place c d way (node name properties children later) a b are
    (a_node own below behind inner found own_is inner_is way_is below_is behind_is)
    (a_node own' below' behind' inner' found' own_is' inner_is' way_is' below_is' behind_is') =
    let P : List Part = map has properties in
    let cells : SameCells inner inner' = same_cells (map has properties) inner inner' inner_is inner_is' in
    let path : found' ≡ found =
    same_way (value_in (codes "ranges") (map has properties)) inner' inner d.address c.address way found' found
    (record { address = sym cells.address; size = sym cells.size })
    (sym are.address) way_is' way_is in
    let below_too : Say (inner_place place name (map has properties) found) inner' (path_or found) children below' =
    subst (λ (x : Option Path). Say (inner_place place name (map has properties) x) inner' (path_or x) children below') path below_is' in
    let first : own ≡ own' = same_own (live_kind place (map has properties)) (value_in (codes "reg") (map has properties)) c d way name own own'
    are own_is own_is' in
    let inside : below ≡ below' = same_said (inner_place place name (map has properties) found) inner inner' (path_or found) children below below'
    cells below_is below_too in
    let last : behind ≡ behind' = same_said place c d way later behind behind' are behind_is behind_is' in
    ap (λ (x : List Range). x ++ (below ++ behind)) first ∙ ap₂ (λ (x : List Range) (y : List Range). own' ++ (x ++ y)) inside last

pub same_list : (tree : Tree) (a b : List Range) → TreeSays tree a → TreeSays tree b → a ≡ b
same_list tree a b h w =
    same_said BelowRoot h.0 w.0 same tree.children a b (same_cells (map has tree.properties) h.0 w.0 h.1 w.1) h.2 w.2
