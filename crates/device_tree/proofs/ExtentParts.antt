-- Pieces of a bus at the root, and the parts of a row.
use Rattle.std.proofs.Common.{◌≡◌, ◌≢◌, ◌⊎◌, inl, inr, ℕ, zero, suc, ◌+◌, ◌-◌, ◌<◌, ◌≤◌, ◌^◌, Bool, true, false, cond, List, [], ◌∷◌, Option, None, Some, add-one, drop, drop-cons, get_or, length, ap, ap₂, sym, subst, refl, ◌∙◌, arith}
use Rattle.std.specs.Prelude.{◌&&◌, leb, option_map}
use Rattle.std.proofs.lemmas.Bool.{cases_order}
use Rattle.std.proofs.lemmas.Bool.Decides.{nat_tests}
use Rattle.std.proofs.lemmas.Grind.{common_steps}
use Rattle.device_tree.specs.declared.rows.Extent.{Extent}
use Rattle.device_tree.specs.declared.ways.RowPart.{RowPart}
use Rattle.device_tree.specs.declared.ways.Step.{Step}
use Rattle.device_tree.specs.declared.ways.Window.{Window}
use Rattle.device_tree.specs.Windows.{AreParts, IsPiece, IsStep, has_address, in_one_piece, is_piece, is_same_address, moved, parent_address}

below_or_not : (a b : ℕ) → (a < b) ⊎ (b ≤ a)
below_or_not a b = elim (cases_order a b) [
  | inl same ↦ inr (omega (arith, same))
  | inr (inl less) ↦ inl less
  | inr (inr more) ↦ inr (omega (arith, more))
]

pub same_yes : (a b : Option ℕ) → is_same_address a b ≡ true → a ≡ b
same_yes None None e = refl
same_yes None (Some b) e = grind (arith, e)
same_yes (Some a) None e = grind (arith, e)
same_yes (Some a) (Some b) e = grind (arith, nat_tests, e)

pub same_no : (a b : Option ℕ) → is_same_address a b ≡ false → a ≢ b
same_no None None e = λ w. grind (arith, e)
same_no None (Some b) e = λ w. grind (arith, w)
same_no (Some a) None e = λ w. grind (arith, w)
same_no (Some a) (Some b) e = λ w. grind (arith, nat_tests, e, w)

pub same_refl : (a b : Option ℕ) → a ≡ b → is_same_address a b ≡ true
same_refl None None e = refl
same_refl None (Some b) e = grind (arith, e)
same_refl (Some a) None e = grind (arith, e)
same_refl (Some a) (Some b) e = grind (arith, nat_tests, e)

moved_none : (a : Option ℕ) → moved 0 a ≡ a
moved_none None = refl
moved_none (Some a) = ap (λ (x : ℕ). Some x) (omega (arith))

pub moved_moved : (j k : ℕ) (a : Option ℕ) → moved k (moved j a) ≡ moved (j + k) a
moved_moved j k None = refl
moved_moved j k (Some a) = ap (λ (x : ℕ). Some x) (omega (arith))

-- a piece that another goes on with is one piece with it
pub longer : (root : ℕ → Option ℕ) (address s n : ℕ) → IsPiece root address s → root (address + s) ≡ moved s (root address)
    → IsPiece root (address + s) n → IsPiece root address (s + n)
longer root address s n near next far = λ k below. elim (below_or_not k s) [
  | inl inside ↦ near k inside
  | inr past ↦
      let there : address + k ≡ (address + s) + (k - s) = omega (arith, past) in
      let whole : s + (k - s) ≡ k = omega (arith, past) in
      ap root there ∙ far (k - s) (omega (arith, past, below)) ∙ ap (λ (x : Option ℕ). moved (k - s) x) next ∙ moved_moved s (k - s) (root address)
      ∙ ap (λ (x : ℕ). moved x (root address)) whole
]

pub shorter : (root : ℕ → Option ℕ) (address s n : ℕ) → s ≤ n → IsPiece root address n → IsPiece root address s
shorter root address s n less piece = λ k below. piece k (omega (arith, below, less))

-- two parts from one address on that are as long as can be
same_sizes : (root : ℕ → Option ℕ) (address size m n : ℕ) → n ≤ size → IsPiece root address n
    → ((m ≡ size) ⊎ (root (address + m) ≢ moved m (root address))) → n ≤ m ⊎ (m < n → ⊥)
same_sizes root address size m n within piece (inl e) = inl (omega (arith, within, e))
same_sizes root address size m n within piece (inr ends) = inr (λ less. ends (piece m less))

no_more : (m n : ℕ) → n ≤ m ⊎ (m < n → ⊥) → n ≤ m
no_more m n (inl h) = h
no_more m n (inr h) = elim (below_or_not m n) [
  | inl less ↦ absurd (h less)
  | inr most ↦ most
]

part_of : ℕ → ℕ → Option ℕ → RowPart
part_of base size root = record { base = base; size = size; root = root }

same_part : (x y : RowPart) → x.base ≡ y.base → x.size ≡ y.size → x.root ≡ y.root → x ≡ y
unfolding part_of
same_part x y b s r = ap (λ (k : ℕ). part_of k x.size x.root) b ∙ ap₂ (λ (k : ℕ) (l : Option ℕ). part_of y.base k l) s r

-- a row has one list of parts
pub same_parts : (root : ℕ → Option ℕ) (address size : ℕ) (xs ys : List RowPart) → AreParts root address size xs → AreParts root address size ys → xs ≡ ys
same_parts root address size [] [] h w = refl
same_parts root address size [] (y ∷ ys) h w = absurd (omega (arith, h, w.1, w.2))
same_parts root address size (x ∷ xs) [] h w = absurd (omega (arith, w, h.1, h.2))
same_parts root address size (x ∷ xs) (y ∷ ys) h w =
    let less : y.size ≤ x.size = no_more x.size y.size (same_sizes root address size x.size y.size w.2 w.4 h.5) in
    let more : x.size ≤ y.size = no_more y.size x.size (same_sizes root address size y.size x.size h.2 h.4 w.5) in
    let sizes : x.size ≡ y.size = omega (arith, less, more) in
    let first : x ≡ y = same_part x y (h.0 ∙ sym w.0) sizes (h.3 ∙ sym w.3) in
    let later : AreParts root (address + x.size) (size - x.size) ys = subst (λ (n : ℕ). AreParts root (address + n) (size - n) ys) (sym sizes) w.6 in
    ap₂ (λ (p : RowPart) (q : List RowPart). p ∷ q) first (same_parts root (address + x.size) (size - x.size) xs ys h.6 later)

-- the decision whether bytes are a piece
pub piece_yes : (root : ℕ → Option ℕ) (address size : ℕ) → IsPiece root address size → is_piece root address size ≡ true
piece_yes root address zero piece = refl
piece_yes root address (suc size) piece =
    let before = piece_yes root address size (shorter root address size (suc size) (omega (arith)) piece) in
    let last = same_refl (root (address + size)) (moved size (root address)) (piece size (omega (arith))) in
    grind (arith, common_steps, before, last)

pub piece_no : (root : ℕ → Option ℕ) (address k size : ℕ) → k < size → is_same_address (root (address + k)) (moved k (root address)) ≡ false
    → is_piece root address size ≡ false
piece_no root address k zero below ended = absurd (omega (arith, below))
piece_no root address k (suc size) below ended = elim (below_or_not k size) [
  | inl inside ↦
      let before = piece_no root address k size inside ended in grind (arith, common_steps, before)
  | inr past ↦
      let here : k ≡ size = omega (arith, past, below) in
      let last : is_same_address (root (address + size)) (moved size (root address)) ≡ false =
      subst (λ (x : ℕ). is_same_address (root (address + x)) (moved x (root address)) ≡ false) here ended in
      grind (arith, common_steps, last)
]

-- the first window that translates an address decides
first_decides : (w : Window) (rest : List Window) (x : ℕ) (t : Bool) → has_address w x ≡ t → (k p : ℕ)
    → parent_address (w ∷ []) x ≡ moved k (Some p) → parent_address (w ∷ rest) x ≡ moved k (Some p)
first_decides w rest x true has k p e = rw has (rw has at e)
first_decides w rest x false has k p e = let none : None ≡ moved k (Some p) = rw has at e in absurd (grind (arith, none))

later_decides : (w : Window) (rest : List Window) (x : ℕ) → has_address w x ≡ false → parent_address (w ∷ rest) x ≡ parent_address rest x
later_decides w rest x has = rw has refl

at_place : (windows : List Window) (i : ℕ) (w d : Window) → i < length windows → w ≡ get_or windows i d → drop i windows ≡ w ∷ drop (i + 1) windows
at_place windows i w d h is = rw add-one (drop-cons windows i d h ∙ ap (λ x. x ∷ drop (suc i) windows) (sym is))

-- the step of the first window that translates an address
pub here_step : (windows : List Window) (i len address : ℕ) (w d : Window) (step : Step) → i < length windows → w ≡ get_or windows i d
    → 0 < len → ((k : ℕ) → k < len → parent_address (drop i windows) (address + k) ≡ parent_address windows (address + k))
    → IsStep (parent_address (w ∷ [])) address step → (p : ℕ) → step.root ≡ Some p → (both : ℕ) → both ≤ len → both ≤ step.len → 0 < both
    → IsStep (parent_address windows) address (record { root = step.root; len = both })
here_step windows i len address w d step inside is some none one p at_parent both less few more =
    let found : (k : ℕ) → k < both → parent_address windows (address + k) ≡ moved k step.root =
    λ k below.
    let same = sym (none k (omega (arith, below, less))) ∙ ap (λ (x : List Window). parent_address x (address + k)) (at_place windows i w d inside is) in
    let alone : parent_address (w ∷ []) (address + k) ≡ moved k (Some p) =
    one.piece k (omega (arith, below, few)) ∙ ap (moved k) (sym one.is_root ∙ at_parent) in
    same ∙ first_decides w (drop (i + 1) windows) (address + k) (has_address w (address + k)) refl k p alone ∙ ap (moved k) (sym at_parent) in
    let first : parent_address windows address ≡ step.root =
    ap (parent_address windows) (omega (arith)) ∙ found 0 more ∙ moved_none step.root in
    record {
      some = more;
      is_root = sym first;
      piece = λ k below. found k below ∙ ap (moved k) (sym first);
    }

-- no window up to that one translates the addresses
pub none_yet : (windows : List Window) (i len address : ℕ) (w d : Window) → i < length windows → w ≡ get_or windows i d
    → ((k : ℕ) → k < len → parent_address (drop i windows) (address + k) ≡ parent_address windows (address + k))
    → (gap : ℕ) → ((k : ℕ) → k < gap → has_address w (address + k) ≡ false) → (both : ℕ) → both ≤ len → both ≤ gap
    → (k : ℕ) → k < both → parent_address (drop (i + 1) windows) (address + k) ≡ parent_address windows (address + k)
none_yet windows i len address w d inside is none gap not_there both less few k below =
    sym (later_decides w (drop (i + 1) windows) (address + k) (not_there k (omega (arith, below, few))))
    ∙ ap (λ (x : List Window). parent_address x (address + k)) (sym (at_place windows i w d inside is))
    ∙ none k (omega (arith, below, less))

-- the last of the parts
pub last_part : (root : ℕ → Option ℕ) (address : ℕ) (part : RowPart) → part.base ≡ address → 0 < part.size → part.root ≡ root address
    → IsPiece root address part.size → AreParts root address part.size (part ∷ [])
last_part root address part base some is_root piece = (base, some, omega (arith), is_root, piece, inl refl, omega (arith))

-- a part that ends before the bytes do
pub ended_part : (root : ℕ → Option ℕ) (address left : ℕ) (part : RowPart) (later : List RowPart) → part.base ≡ address → 0 < part.size
    → part.root ≡ root address → IsPiece root address part.size → root (address + part.size) ≢ moved part.size (root address)
    → AreParts root (address + part.size) left later → AreParts root address (part.size + left) (part ∷ later)
ended_part root address left part later base some is_root piece ends are =
    let rest : left ≡ (part.size + left) - part.size = omega (arith) in
    (base, some, omega (arith), is_root, piece, inr ends, subst (λ (n : ℕ). AreParts root (address + part.size) n later) rest are)

cut : (a b : Bool) (found : Option Extent) → b ≡ false → None ≡ cond (a && b) found None
cut true b found e = rw e refl
cut false b found e = refl

-- an extent that the root does not have in one piece
pub no_piece : (root : ℕ → Option ℕ) (e : Extent) (size : ℕ) → size < e.size
    → is_same_address (root (e.base + size)) (moved size (root e.base)) ≡ false → None ≡ in_one_piece root e
no_piece root e size below ended = cut _ _ _ (piece_no root e.base size e.size below ended)

both_hold : (a b : Bool) (found : Option Extent) → a ≡ true → b ≡ true → found ≡ cond (a && b) found None
both_hold a b found e f = rw (e, f) refl

abbrev pub extent_of : ℕ → ℕ → Extent
extent_of b s = record { base = b; size = s }

-- an extent that the root has in one piece
pub a_piece : (root : ℕ → Option ℕ) (e : Extent) (base : ℕ) → Some base ≡ root e.base → e.base + e.size ≤ 2 ^ 64 → IsPiece root e.base e.size
    → Some (extent_of base e.size) ≡ in_one_piece root e
a_piece root e base is fits piece =
    let below : leb (e.base + e.size) (2 ^ 64) ≡ true = grind (arith, nat_tests, fits) in
    ap (λ (x : Option ℕ). option_map (λ (b : ℕ). extent_of b e.size) x) is
    ∙ both_hold _ _ _ below (piece_yes root e.base e.size piece)
