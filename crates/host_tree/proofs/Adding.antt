-- Parts that a writer has written one after another.
use Rattle.std.proofs.Common.{◌≡◌, ℕ, List, [], ◌∷◌, ◌++◌, append_assoc, append-nil, map, sym, ap, subst, refl, ◌∙◌}
use Rattle.device_tree.specs.Pieces.{Part, Setting, begins, ends, has}
use Rattle.device_tree.specs.Nodes.{Nodes, node, parts_of_nodes}
use Rattle.host_tree.specs.declared.writer.TreeWriter.{TreeWriter}
use Rattle.host_tree.specs.Written.{Adds, HasWritten, setting}

pub adds_none : (w : TreeWriter) → Adds w w []
adds_none w = λ parts h. subst (λ (x : List Part). HasWritten w x) (sym (append-nil parts)) h

pub adds_same : (w v : TreeWriter) (x y : List Part) → x ≡ y → Adds w v x → Adds w v y
adds_same w v x y e h = subst (λ (z : List Part). Adds w v z) e h

pub adds_both : (w v u : TreeWriter) (x y : List Part) → Adds w v x → Adds v u y → Adds w u (x ++ y)
adds_both w v u x y first later = λ parts h. subst (λ (z : List Part). HasWritten u z) (append_assoc parts x y) (later (parts ++ x) (first parts h))

pub map-both : (x y : List Setting) → map has (x ++ y) ≡ map has x ++ map has y
map-both [] y = refl
map-both (s ∷ x) y = ap (λ (z : List Part). has s ∷ z) (map-both x y)

-- a node is its beginning, its properties, its children and its end
pub node_parts : (n : List ℕ) (s : List Setting) (c l : Nodes)
    → (begins n ∷ (map has s ++ parts_of_nodes c)) ++ (ends ∷ parts_of_nodes l) ≡ parts_of_nodes (node n s c l)
node_parts n s c l = ap (λ (z : List Part). begins n ∷ z) (append_assoc (map has s) (parts_of_nodes c) (ends ∷ parts_of_nodes l))

-- the same by other names and values
pub property_is : (w v : TreeWriter) (n m x y : List ℕ) → n ≡ m → x ≡ y → Adds w v (has (setting n x) ∷ []) → Adds w v (has (setting m y) ∷ [])
property_is w v n m x y e f h = adds_same w v (has (setting n x) ∷ []) (has (setting m y) ∷ [])
    (ap (λ (z : List ℕ). has (setting z x) ∷ []) e ∙ ap (λ (z : List ℕ). has (setting m z) ∷ []) f) h

pub begin_is : (w v : TreeWriter) (n m : List ℕ) → n ≡ m → Adds w v (begins n ∷ []) → Adds w v (begins m ∷ [])
begin_is w v n m e h = adds_same w v (begins n ∷ []) (begins m ∷ []) (ap (λ (z : List ℕ). begins z ∷ []) e) h
