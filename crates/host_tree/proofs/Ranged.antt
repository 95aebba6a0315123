-- Ranges among the children of the root.
use Rattle.std.proofs.Common.{◌≡◌, ℕ, Bool, true, false, cond, List, [], ◌∷◌, ◌++◌, map, codes, sym, ap, refl, ◌∙◌, append_assoc}
use Rattle.std.specs.Prelude.{bytes_eq}
use Rattle.device_tree.specs.Pieces.{Part, Setting, begins, has, ends}
use Rattle.device_tree.specs.Nodes.{Nodes, no_nodes, node, parts_of_nodes}
use Rattle.device_tree.specs.declared.cells.Cells.{Cells}
use Rattle.host_tree.specs.declared.reserved.Reserved.{Reserved}
use Rattle.host_tree.specs.Settings.{left_settings}
use Rattle.host_tree.specs.Ranges.{and_nodes, range_nodes, with_ranges}

pub parts-and : (x y : Nodes) → parts_of_nodes (and_nodes x y) ≡ parts_of_nodes x ++ parts_of_nodes y
parts-and no_nodes y = refl
parts-and (node n s c l) y = ap (λ (z : List Part). begins n ∷ z) (
    ap (λ (z : List Part). map has s ++ (parts_of_nodes c ++ (ends ∷ z))) (parts-and l y)
    ∙ sym (ap (λ (z : List Part). map has s ++ z) (append_assoc (parts_of_nodes c) (ends ∷ parts_of_nodes l) (parts_of_nodes y)))
    ∙ sym (append_assoc (map has s) (parts_of_nodes c ++ (ends ∷ parts_of_nodes l)) (parts_of_nodes y)))

pub goes_on : (cells : Cells) (ranges : List Reserved) (n : List ℕ) → bytes_eq n (codes "reserved-memory") ≡ false
    → (made : List Setting) (inside more : Nodes)
    → with_ranges cells ranges (node n made inside more) ≡ node n made inside (with_ranges cells ranges more)
goes_on cells ranges n e made inside more = ap (λ (t : Bool). cond t (node n made (and_nodes inside (range_nodes cells ranges)) more)
    (node n made inside (with_ranges cells ranges more))) e

pub ends_there : (cells : Cells) (ranges : List Reserved) (n : List ℕ) → bytes_eq n (codes "reserved-memory") ≡ true
    → (made : List Setting) (inside more : Nodes)
    → parts_of_nodes (with_ranges cells ranges (node n made inside more))
    ≡ (begins n ∷ (map has made ++ parts_of_nodes inside)) ++ (parts_of_nodes (range_nodes cells ranges) ++ (ends ∷ parts_of_nodes more))
ends_there cells ranges n e made inside more =
    let rn = range_nodes cells ranges in
    ap (λ (t : Bool). parts_of_nodes (cond t (node n made (and_nodes inside rn) more) (node n made inside (with_ranges cells ranges more)))) e
    ∙ ap (λ (z : List Part). begins n ∷ (map has made ++ (z ++ (ends ∷ parts_of_nodes more)))) (parts-and inside rn)
    ∙ ap (λ (z : List Part). begins n ∷ (map has made ++ z)) (append_assoc (parts_of_nodes inside) (parts_of_nodes rn) (ends ∷ parts_of_nodes more))
    ∙ ap (λ (z : List Part). begins n ∷ z) (sym (append_assoc (map has made) (parts_of_nodes inside) (parts_of_nodes rn ++ (ends ∷ parts_of_nodes more))))

-- a node that is no hart and not closed has its own properties
pub kept_settings : (own : List Setting) → left_settings false false own ≡ own
kept_settings [] = refl
kept_settings (first ∷ later) = ap (λ (z : List Setting). first ∷ z) (kept_settings later)
