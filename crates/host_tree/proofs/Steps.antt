-- One step of loops over lists.
use Rattle.std.proofs.Common.{◌≡◌, ℕ, ◌+◌, ◌<◌, ◌≤◌, Bool, List, [], ◌∷◌, ◌++◌, length, drop, get_or, map, append_assoc, append-nil, sym, ap, subst, refl, ◌∙◌}
use Rattle.std.proofs.lemmas.List.{at_drop_all, at_drop_more}
use Rattle.device_tree.specs.declared.pieces.PlacedPiece.{PlacedPiece}
use Rattle.device_tree.specs.declared.reservations.Reservation.{Reservation}
use Rattle.device_tree.specs.Pieces.{Part, Setting, begins, ends, has, part_of, parts_of}
use Rattle.device_tree.specs.Nodes.{parts_of_nodes}
use Rattle.device_tree.specs.Trees.{BeginsWithReservations}
use Rattle.device_tree.specs.declared.cells.Cells.{Cells}
use Rattle.device_tree.specs.declared.rows.Extent.{Extent}
use Rattle.host_tree.specs.declared.reserved.Reserved.{Reserved}
use Rattle.host_tree.specs.declared.writer.TreeWriter.{TreeWriter}
use Rattle.host_tree.specs.Platforms.{IsClipped, clipped_one}
use Rattle.host_tree.specs.Ranges.{AllFit, Fits, range_name, range_nodes, range_settings}
use Rattle.host_tree.specs.Settings.{left_setting, left_settings}
use Rattle.host_tree.specs.Written.{Adds}
use Rattle.host_tree.proofs.Adding.{adds_both, adds_same, map-both}

first_left : (p : Part) (later : List Part) (left : List Setting) → p ∷ later ≡ map has left
    → (one : Setting) × (rest : List Setting) × (p ≡ has one) × (left ≡ one ∷ rest) × (later ≡ map has rest)
first_left p later [] e = absurd cc
first_left p later (s ∷ rest) e = (s, rest, cc, refl, cc)

none_left : (left : List Setting) → [] ≡ map has left → left ≡ []
none_left [] e = refl
none_left (s ∷ rest) e = absurd cc

-- of the properties those before a place are written
abbrev pub Left : Bool → Bool → List PlacedPiece → ℕ → List Setting → TreeWriter → TreeWriter → Type 0
Left hart closed xs i own old now = (left : List Setting) × (parts_of (drop i xs) ≡ map has left)
    × (done : List Part) × Adds old now done × (done ++ map has (left_settings hart closed left) ≡ map has (left_settings hart closed own))

pub left_step : (hart closed : Bool) (xs : List PlacedPiece) (i : ℕ) (d : PlacedPiece) (own : List Setting) (old now later : TreeWriter) → i < length xs
    → Left hart closed xs i own old now
    → ((one : Setting) → part_of (get_or xs i d).piece ≡ has one → Adds now later (map has (left_setting hart closed one)))
    → Left hart closed xs (i + 1) own old later
left_step hart closed xs i d own old now later less was put =
    let cons : parts_of (drop i xs) ≡ part_of (get_or xs i d).piece ∷ parts_of (drop (i + 1) xs) = at_drop_more (λ (x : List PlacedPiece). parts_of x) xs
    i d less in
    let split = first_left (part_of (get_or xs i d).piece) (parts_of (drop (i + 1) xs)) was.0 (sym cons ∙ was.1) in
    let here = map has (left_setting hart closed split.0) in
    let rest = map has (left_settings hart closed split.1) in (
      split.1,
      split.4,
      was.2 ++ here,
      adds_both old now later was.2 here was.3 (put split.0 split.2),
      append_assoc was.2 here rest
          ∙ ap (λ (z : List Part). was.2 ++ z) (sym (map-both (left_setting hart closed split.0) (left_settings hart closed split.1)))
          ∙ ap (λ (z : List Setting). was.2 ++ map has (left_settings hart closed z)) (sym split.3) ∙ was.4,
    )

pub left_all : (hart closed : Bool) (xs : List PlacedPiece) (i : ℕ) (own : List Setting) (old now : TreeWriter) → length xs ≤ i
    → Left hart closed xs i own old now → Adds old now (map has (left_settings hart closed own))
left_all hart closed xs i own old now more was =
    let none : parts_of (drop i xs) ≡ [] = at_drop_all (λ (x : List PlacedPiece). parts_of x) xs i more in
    let left = none_left was.0 (sym none ∙ was.1) in
    let whole : was.2 ++ [] ≡ map has (left_settings hart closed own) = ap (λ (z : List Setting). was.2 ++ map has (left_settings hart closed z)) (sym
    left) ∙ was.4 in
    adds_same old now was.2 (map has (left_settings hart closed own)) (sym (append-nil was.2) ∙ whole) was.3

-- of the ranges those before a place are written
abbrev pub Ranged : Cells → List Reserved → ℕ → TreeWriter → TreeWriter → Type 0
Ranged cells xs i old now = (done : List Part) × Adds old now done
    × (done ++ parts_of_nodes (range_nodes cells (drop i xs)) ≡ parts_of_nodes (range_nodes cells xs))
    × (AllFit cells (drop i xs) → AllFit cells xs)

one_more : (cells : Cells) (x : Reserved) (later : List Reserved)
    → parts_of_nodes (range_nodes cells (x ∷ [])) ++ parts_of_nodes (range_nodes cells later) ≡ parts_of_nodes (range_nodes cells (x ∷ later))
one_more cells x later = ap (λ (z : List Part). begins (range_name x) ∷ z)
    (append_assoc (map has (range_settings cells x)) (ends ∷ []) (parts_of_nodes (range_nodes cells later)))

pub range_step : (cells : Cells) (xs : List Reserved) (i : ℕ) (d : Reserved) (old now later : TreeWriter) → i < length xs → Ranged cells xs i old now
    → Adds now later (parts_of_nodes (range_nodes cells (get_or xs i d ∷ []))) → Fits cells (get_or xs i d).extent → Ranged cells xs (i + 1) old later
range_step cells xs i d old now later less was put fits =
    let cons : drop i xs ≡ get_or xs i d ∷ drop (i + 1) xs = at_drop_more (λ (x : List Reserved). x) xs i d less in
    let here = parts_of_nodes (range_nodes cells (get_or xs i d ∷ [])) in (
      was.0 ++ here,
      adds_both old now later was.0 here was.1 put,
      append_assoc was.0 here (parts_of_nodes (range_nodes cells (drop (i + 1) xs)))
          ∙ ap (λ (z : List Part). was.0 ++ z) (one_more cells (get_or xs i d) (drop (i + 1) xs))
          ∙ ap (λ (z : List Reserved). was.0 ++ parts_of_nodes (range_nodes cells z)) (sym cons) ∙ was.2,
      λ all. was.3 (subst (λ (z : List Reserved). AllFit cells z) (sym cons) (fits, all)),
    )

-- of the reservations those before a place are in bytes
abbrev pub Held : List ℕ → List Reservation → ℕ → Type 0
Held added xs i = (rest : List ℕ) → BeginsWithReservations rest (drop i xs) → BeginsWithReservations (added ++ rest) xs

pub held_step : (added more : List ℕ) (xs : List Reservation) (i : ℕ) (d : Reservation) → i < length xs → Held added xs i
    → ((rest : List ℕ) (one : Reservation) (later : List Reservation) → one.address ≡ (get_or xs i d).address → one.size ≡ (get_or xs i d).size
    → BeginsWithReservations rest later → BeginsWithReservations (more ++ rest) (one ∷ later)) → Held (added ++ more) xs (i + 1)
held_step added more xs i d less was put = λ rest h.
    let cons : drop i xs ≡ get_or xs i d ∷ drop (i + 1) xs = at_drop_more (λ (x : List Reservation). x) xs i d less in
    let one = put rest (get_or xs i d) (drop (i + 1) xs) refl refl h in
    subst (λ (z : List ℕ). BeginsWithReservations z xs) (sym (append_assoc added more rest))
    (was (more ++ rest) (subst (λ (z : List Reservation). BeginsWithReservations (more ++ rest) z) (sym cons) one))

-- of the ranges those before a place are clipped
abbrev pub Clipped : List Extent → List Extent → ℕ → List Extent → Type 0
Clipped memory xs i list = (later : List Extent) → IsClipped memory (drop i xs) later → IsClipped memory xs (list ++ later)

pub clip_step : (memory xs : List Extent) (i : ℕ) (d : Extent) (list new kept : List Extent) → i < length xs → Clipped memory xs i list → new ≡ list ++ kept
    → clipped_one memory (get_or xs i d) kept → Clipped memory xs (i + 1) new
clip_step memory xs i d list new kept less was is one = λ later h.
    let cons : drop i xs ≡ get_or xs i d ∷ drop (i + 1) xs = at_drop_more (λ (x : List Extent). x) xs i d less in
    let both : IsClipped memory (drop i xs) (kept ++ later) = subst (λ (z : List Extent). IsClipped memory z (kept ++ later)) (sym cons) (
      kept,
      later,
      one,
      h,
      refl,
    ) in
    let same : list ++ (kept ++ later) ≡ new ++ later = sym (append_assoc list kept later) ∙ ap (λ (z : List Extent). z ++ later) (sym is) in
    subst (λ (z : List Extent). IsClipped memory xs z) same (was (kept ++ later) both)

pub clip_all : (memory xs list : List Extent) (i : ℕ) → length xs ≤ i → Clipped memory xs i list → IsClipped memory xs list
clip_all memory xs list i more was =
    let none : drop i xs ≡ [] = at_drop_all (λ (x : List Extent). x) xs i more in
    subst (λ (z : List Extent). IsClipped memory xs z) (append-nil list) (was [] (subst (λ (z : List Extent). IsClipped memory z []) (sym none) refl))
