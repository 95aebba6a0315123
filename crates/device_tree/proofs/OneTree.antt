-- Parts are one tree at most.
use Rattle.std.proofs.Common.{◌≡◌, ℕ, zero, suc, List, [], ◌∷◌, ◌++◌, map, sym, ap, ap₂, subst, refl, ◌∙◌, append_assoc, ◌+◌, ◌≤◌, drop, length, length-drop, arith}
use Rattle.std.proofs.lemmas.List.{drop-drop}
use Rattle.device_tree.specs.Pieces.{Part, Setting, begins, has, ends}
use Rattle.device_tree.specs.Nodes.{Nodes, no_nodes, node, parts_of_nodes, AreWithin, BeginsNoNode, HasNoProperty, AreNodesBefore, IsTreeOf, Tree, parts_of_tree}

pub ends_begins_none : (later : List Part) → BeginsNoNode (ends ∷ later)
ends_begins_none later = λ name more e. cc

ends_has_none : (later : List Part) → HasNoProperty (ends ∷ later)
ends_has_none later = λ s more e. cc

-- children and an end have no property in front
pub nodes_have_none : (nodes : Nodes) (later : List Part) → HasNoProperty (parts_of_nodes nodes ++ (ends ∷ later))
nodes_have_none no_nodes later = ends_has_none later
nodes_have_none (node n s c l) later = λ p more e. cc

-- the properties in front are the same
pub same_properties : (xs ys : List Setting) (a b : List Part) → map has xs ++ a ≡ map has ys ++ b → HasNoProperty a → HasNoProperty b → (xs ≡ ys) × (a ≡ b)
same_properties [] [] a b e h w = (refl, e)
same_properties [] (y ∷ ys) a b e h w = absurd (h y (map has ys ++ b) e)
same_properties (x ∷ xs) [] a b e h w = absurd (w x (map has xs ++ a) (sym e))
same_properties (x ∷ xs) (y ∷ ys) a b e h w =
    let first : x ≡ y = cc in
    let rest : map has xs ++ a ≡ map has ys ++ b = cc in
    let same = same_properties xs ys a b rest h w in
    (ap₂ (λ p q. p ∷ q) first same.0, same.1)

-- the parts of a node before others
pub node_before : (n : List ℕ) (s : List Setting) (c l : Nodes) (a : List Part)
    → parts_of_nodes (node n s c l) ++ a ≡ begins n ∷ (map has s ++ (parts_of_nodes c ++ (ends ∷ (parts_of_nodes l ++ a))))
node_before n s c l a = ap (λ x. begins n ∷ x) (append_assoc (map has s) (parts_of_nodes c ++ (ends ∷ parts_of_nodes l)) a
    ∙ ap (λ x. map has s ++ x) (append_assoc (parts_of_nodes c) (ends ∷ parts_of_nodes l) a))

name_of : List Part → List ℕ
name_of [] = []
name_of (begins n ∷ later) = n
name_of (_ ∷ later) = []

same_node : (n m : List ℕ) (a b : List Part) → begins n ∷ a ≡ begins m ∷ b → (n ≡ m) × (a ≡ b)
same_node n m a b e = (cc, cc)

node_of : List ℕ → List Setting → Nodes → Nodes → Nodes
node_of n s c l = node n s c l

-- nodes in front are the same
pub same_nodes : (x y : Nodes) (a b : List Part) → parts_of_nodes x ++ a ≡ parts_of_nodes y ++ b → BeginsNoNode a → BeginsNoNode b → (x ≡ y) × (a ≡ b)
same_nodes no_nodes no_nodes a b e h w = (refl, e)
same_nodes no_nodes (node n s c l) a b e h w = absurd (h n _ e)
same_nodes (node n s c l) no_nodes a b e h w = absurd (w n _ (sym e))
same_nodes (node n s c l) (node m t d k) a b e h w =
    let whole = sym (node_before n s c l a) ∙ e ∙ node_before m t d k b in
    let first = same_node n m _ _ whole in
    let properties = same_properties s t _ _ first.1 (nodes_have_none c _) (nodes_have_none d _) in
    let children = same_nodes c d _ _ properties.1 (ends_begins_none _) (ends_begins_none _) in
    let behind : parts_of_nodes l ++ a ≡ parts_of_nodes k ++ b = cc (children.1) in
    let later = same_nodes l k a b behind h w in
    (cc (first.0, properties.0, children.0, later.0), later.1)

-- nodes in front of nodes: those that are left
pub left_nodes : (x y : Nodes) (a b : List Part) (levels : ℕ) → parts_of_nodes x ++ a ≡ parts_of_nodes y ++ b → BeginsNoNode b → AreWithin levels y
    → (z : Nodes) × (a ≡ parts_of_nodes z ++ b) × AreWithin levels z
left_nodes no_nodes y a b levels e w fits = (y, e, fits)
left_nodes (node n s c l) no_nodes a b levels e w fits = absurd (w n _ (sym e))
left_nodes (node n s c l) (node m t d k) a b zero e w fits = absurd fits
left_nodes (node n s c l) (node m t d k) a b (suc levels) e w fits =
    let whole = sym (node_before n s c l a) ∙ e ∙ node_before m t d k b in
    let first = same_node n m _ _ whole in
    let properties = same_properties s t _ _ first.1 (nodes_have_none c _) (nodes_have_none d _) in
    let children = same_nodes c d _ _ properties.1 (ends_begins_none _) (ends_begins_none _) in
    let behind : parts_of_nodes l ++ a ≡ parts_of_nodes k ++ b = cc (children.1) in
    left_nodes l k a b (suc levels) behind w fits.1

-- a node behind others
pub and_node : Nodes → List ℕ → List Setting → Nodes → Nodes
and_node no_nodes n s c = node n s c no_nodes
and_node (node m t d k) n s c = node m t d (and_node k n s c)

pub parts_and_node : (x : Nodes) (n : List ℕ) (s : List Setting) (c : Nodes) (a : List Part)
    → parts_of_nodes (and_node x n s c) ++ a ≡ parts_of_nodes x ++ (begins n ∷ (map has s ++ (parts_of_nodes c ++ (ends ∷ a))))
unfolding and_node
parts_and_node no_nodes n s c a = node_before n s c no_nodes a
parts_and_node (node m t d k) n s c a = node_before m t d (and_node k n s c) a
    ∙ ap (λ x. begins m ∷ (map has t ++ (parts_of_nodes d ++ (ends ∷ x)))) (parts_and_node k n s c a) ∙ sym (node_before m t d k _)

pub within_and_node : (x : Nodes) (n : List ℕ) (s : List Setting) (c : Nodes) (levels : ℕ) → AreWithin (suc levels) x → AreWithin levels c
    → AreWithin (suc levels) (and_node x n s c)
unfolding and_node
within_and_node no_nodes n s c levels h w = (w, tt)
within_and_node (node m t d k) n s c levels h w = (h.0, within_and_node k n s c levels h.1 w)

node_left : (levels : ℕ) (rest : List Part) (n : List ℕ) (s : List Setting) (children : List Part) (z : Nodes) (later : List Part)
    → rest ≡ parts_of_nodes z ++ later → rest ≡ begins n ∷ (map has s ++ children) → HasNoProperty children → BeginsNoNode later → AreWithin levels z
    → (l : ℕ) × (levels ≡ suc l) × (d : Nodes) × (k : Nodes) × AreNodesBefore l children d (ends ∷ (parts_of_nodes k ++ later))
node_left levels rest n s children no_nodes later e begun no_property no_more fits = absurd (no_more n _ (sym e ∙ begun))
node_left zero rest n s children (node m t d k) later e begun no_property no_more fits = absurd fits
node_left (suc l) rest n s children (node m t d k) later e begun no_property no_more fits =
    let whole = sym begun ∙ e ∙ node_before m t d k later in
    let first = same_node n m _ _ whole in
    let properties = same_properties s t _ _ first.1 no_property (nodes_have_none d _) in
    (l, refl, d, k, record { parts_are = properties.1; no_more = ends_begins_none _; within = fits.0 })

-- a node is there where one begins behind nodes
pub node_there : (levels : ℕ) (parts rest : List Part) (x : Nodes) (n : List ℕ) (s : List Setting) (children : List Part) (y : Nodes) (later : List Part)
    → parts ≡ parts_of_nodes x ++ rest → rest ≡ begins n ∷ (map has s ++ children) → HasNoProperty children → AreNodesBefore levels parts y later
    → (l : ℕ) × (levels ≡ suc l) × (d : Nodes) × (k : Nodes) × AreNodesBefore l children d (ends ∷ (parts_of_nodes k ++ later))
node_there levels parts rest x n s children y later e begun no_property are =
    let left = left_nodes x y rest later levels (sym e ∙ are.parts_are) are.no_more are.within in
    node_left levels rest n s children left.0 later left.1 begun no_property are.no_more left.2

-- no nodes where those inside are none
pub none_inside : (l : ℕ) (parts rest : List Part) (x : Nodes) (n : List ℕ) (s : List Setting) (children : List Part)
    → parts ≡ parts_of_nodes x ++ rest → rest ≡ begins n ∷ (map has s ++ children) → HasNoProperty children
    → ((nodes : Nodes) (later : List Part) → AreNodesBefore l children nodes later → ⊥)
    → (nodes : Nodes) (later : List Part) → AreNodesBefore (suc l) parts nodes later → ⊥
none_inside l parts rest x n s children e begun no_property none y later are =
    let there = node_there (suc l) parts rest x n s children y later e begun no_property are in
    let same : l ≡ there.0 = omega (arith, there.1) in
    none there.2 _ (subst (λ m. AreNodesBefore m children there.2 (ends ∷ (parts_of_nodes there.3 ++ later))) (sym same) there.4)

-- nor where they do not end
pub none_unended : (l : ℕ) (parts rest : List Part) (x : Nodes) (n : List ℕ) (s : List Setting) (children : List Part) (c : Nodes) (behind : List Part)
    → parts ≡ parts_of_nodes x ++ rest → rest ≡ begins n ∷ (map has s ++ children) → HasNoProperty children
    → AreNodesBefore l children c behind → ((later : List Part) → behind ≡ ends ∷ later → ⊥)
    → (nodes : Nodes) (later : List Part) → AreNodesBefore (suc l) parts nodes later → ⊥
none_unended l parts rest x n s children c behind e begun no_property inner none y later are =
    let there = node_there (suc l) parts rest x n s children y later e begun no_property are in
    let same = same_nodes c there.2 behind _ (sym inner.parts_are ∙ there.4.parts_are) inner.no_more there.4.no_more in
    none _ same.1

no_level : (rest : List Part) (n : List ℕ) (inner : List Part) (z : Nodes) (later : List Part)
    → rest ≡ parts_of_nodes z ++ later → rest ≡ begins n ∷ inner → BeginsNoNode later → AreWithin 0 z → ⊥
no_level rest n inner no_nodes later e begun no_more fits = no_more n inner (sym e ∙ begun)
no_level rest n inner (node m t d k) later e begun no_more fits = fits

-- nor where no level is left
pub none_deeper : (parts rest : List Part) (x : Nodes) (n : List ℕ) (inner : List Part)
    → parts ≡ parts_of_nodes x ++ rest → rest ≡ begins n ∷ inner
    → (nodes : Nodes) (later : List Part) → AreNodesBefore 0 parts nodes later → ⊥
none_deeper parts rest x n inner e begun y later are =
    let left = left_nodes x y rest later 0 (sym e ∙ are.parts_are) are.no_more are.within in
    no_level rest n inner left.0 later left.1 begun are.no_more left.2

-- and one node more
pub one_more : (l : ℕ) (parts rest : List Part) (x : Nodes) (n : List ℕ) (s : List Setting) (children : List Part) (c : Nodes) (behind later : List Part)
    → parts ≡ parts_of_nodes x ++ rest → AreWithin (suc l) x → rest ≡ begins n ∷ (map has s ++ children)
    → AreNodesBefore l children c behind → behind ≡ ends ∷ later
    → (parts ≡ parts_of_nodes (and_node x n s c) ++ later) × AreWithin (suc l) (and_node x n s c)
one_more l parts rest x n s children c behind later e fits begun inner ended = (
  e ∙ ap (λ r. parts_of_nodes x ++ r) (begun ∙ ap (λ r. begins n ∷ (map has s ++ r)) (inner.parts_are ∙ ap (λ r. parts_of_nodes c ++ r) ended))
      ∙ sym (parts_and_node x n s c later),
  within_and_node x n s c l fits inner.within,
)

-- what follows the beginning of a node and its properties
pub begun_at : (rest R I C : List Part) (n : List ℕ) (s : List Setting) (p : ℕ) → rest ≡ R → rest ≡ begins n ∷ I → I ≡ map has s ++ drop p I → C ≡ drop p I
    → R ≡ begins n ∷ (map has s ++ C)
begun_at rest R I C n s p a b c d = sym a ∙ b ∙ ap (λ x. begins n ∷ x) (c ∙ ap (λ x. map has s ++ x) (sym d))

pub none_at : (C I : List Part) (p : ℕ) → C ≡ drop p I → HasNoProperty (drop p I) → HasNoProperty C
none_at C I p e h = subst HasNoProperty (sym e) h

-- where the parts behind a node are
pub behind_node : (P R I C D later : List Part) (n : List ℕ) (at p len : ℕ) → R ≡ drop at P → R ≡ begins n ∷ I
    → C ≡ drop p I → D ≡ drop len C → D ≡ ends ∷ later
    → (later ≡ drop (at + (p + len + 2)) P) × (at + (p + len + 2) ≤ length P)
behind_node P R I C D later n at p len is_rest begun is_children is_behind ended =
    let last : later ≡ drop 1 D = sym (ap (drop 1) ended) in
    let inner : I ≡ drop 1 (drop at P) = sym (ap (drop 1) (sym is_rest ∙ begun)) in
    let whole : drop 1 (drop len (drop p (drop 1 (drop at P)))) ≡ drop (at + (p + len + 2)) P =
    drop-drop 1 len (drop p (drop 1 (drop at P))) ∙ drop-drop (len + 1) p (drop 1 (drop at P)) ∙ drop-drop (p + (len + 1)) 1 (drop at P)
    ∙ drop-drop (1 + (p + (len + 1))) at P ∙ ap (λ k. drop k P) (omega arith) in (
      last ∙ ap (drop 1) (is_behind ∙ ap (drop len) (is_children ∙ ap (drop p) inner)) ∙ whole,
      omega (
        arith,
        ap length (sym is_rest ∙ begun),
        length-drop at P,
        ap length is_children,
        length-drop p I,
        ap length (sym is_behind ∙ ended),
        length-drop len C,
      ),
    )

-- the children of a root
pub root_there : (parts children : List Part) (s : List Setting) (tree : Tree) → parts ≡ begins [] ∷ (map has s ++ children) → HasNoProperty children
    → IsTreeOf parts tree → AreNodesBefore 63 children tree.children (ends ∷ [])
root_there parts children s tree e no_property is =
    let whole = sym e ∙ is.parts_are in
    let first = same_node [] [] _ _ whole in
    let properties = same_properties s tree.properties _ _ first.1 no_property (nodes_have_none tree.children _) in
    record { parts_are = properties.1; no_more = ends_begins_none _; within = is.within }

pub no_root : (parts : List Part) → ((later : List Part) → parts ≡ begins [] ∷ later → ⊥) → (tree : Tree) → IsTreeOf parts tree → ⊥
no_root parts none tree is = none _ is.parts_are

pub no_children : (parts children : List Part) (s : List Setting) → parts ≡ begins [] ∷ (map has s ++ children) → HasNoProperty children
    → ((nodes : Nodes) (later : List Part) → AreNodesBefore 63 children nodes later → ⊥) → (tree : Tree) → IsTreeOf parts tree → ⊥
no_children parts children s e no_property none tree is = none tree.children _ (root_there parts children s tree e no_property is)

pub behind_children : (parts children : List Part) (s : List Setting) (c : Nodes) (behind : List Part) → parts ≡ begins [] ∷ (map has s ++ children)
    → HasNoProperty children → AreNodesBefore 63 children c behind → (tree : Tree) → IsTreeOf parts tree → behind ≡ ends ∷ []
behind_children parts children s c behind e no_property inside tree is =
    let there = root_there parts children s tree e no_property is in
    (same_nodes c tree.children behind _ (sym inside.parts_are ∙ there.parts_are) inside.no_more there.no_more).1

pub a_tree : (parts children : List Part) (s : List Setting) (c : Nodes) (behind : List Part) → parts ≡ begins [] ∷ (map has s ++ children)
    → AreNodesBefore 63 children c behind → behind ≡ ends ∷ [] → (tree : Tree) × IsTreeOf parts tree
a_tree parts children s c behind e inside ended = (
  record { properties = s; children = c },
  record {
    parts_are = e ∙ ap (λ x. begins [] ∷ (map has s ++ x)) (inside.parts_are ∙ ap (λ x. parts_of_nodes c ++ x) ended);
    within = inside.within;
  },
)

tree_of : List Setting → Nodes → Tree
tree_of s c = record { properties = s; children = c }

-- parts are one tree
pub same_tree : (t u : Tree) → parts_of_tree t ≡ parts_of_tree u → t ≡ u
unfolding tree_of
same_tree t u e =
    let first = same_node [] [] _ _ e in
    let properties = same_properties t.properties u.properties _ _ first.1 (nodes_have_none t.children _) (nodes_have_none u.children _) in
    let children = same_nodes t.children u.children _ _ properties.1 (ends_begins_none _) (ends_begins_none _) in
    ap₂ (λ (s : List Setting) (c : Nodes). tree_of s c) properties.0 children.0
