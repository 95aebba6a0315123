-- At most one fault stands in a node, and none where a right node stands.
use Rattle.std.proofs.Common.{◌≡◌, ◌≢◌, ℕ, zero, suc, ◌+◌, ◌^◌, ⊎_elim, List, ◌∷◌, ◌++◌, drop, pow_pos, arith, refl, sym, ap, subst, ◌∙◌}
use Rattle.pmp_encoding.specs.declared.perm.Perm.{Perm}
use Rattle.pmp_encoding.specs.Perms.{bits_of}
use Rattle.pmp_encoding.specs.Views.{View, IsUniform}
use Rattle.pmp_match.specs.Bounds.{BoundTree, bound_of}
use Rattle.certificate_format.specs.declared.fault.ReadFault.{ReadFault}
use Rattle.certificate_format.specs.declared.reader.Tag.TheVariants as Tags
use Rattle.certificate_format.specs.Spelling.{costs_bytes, node_bytes}
use Rattle.certificate_format.specs.Faults.{ShortFault, TagFault, PermFault}
use Rattle.certificate_format.proofs.CostBytes.{same_costs}
use Rattle.certificate_format.proofs.Headers.{short_once}
use Rattle.certificate_format.proofs.InNodes.{tag_once, tag_stands, perm_once, perm_stands, costs_stand}
use Rattle.certificate_format.proofs.Trees.{one_function, tags_differ, same_perm, behind_costs, same_tree}
use Rattle.certificate_check.specs.declared.refusal.CheckRefusal.{CheckRefusal}
use Rattle.certificate_check.specs.declared.refusal.CheckRefusal.TheVariants.{TooDeep, LeafNotUniform, WrongLeaf, CostTooHigh, CostOverflow}
use Rattle.certificate_check.specs.Refusals.{refusal_of}
use Rattle.certificate_check.specs.Nodes.{IsRightNode, HaveSums, IsAllowed, IsTooLarge, IsTooHigh, NodeFault, in_tag, in_perm, not_uniform, another, a_page}
use Rattle.certificate_check.specs.Nodes.{in_costs, in_lower, in_upper, overflow, too_high}
use Rattle.certificate_check.proofs.Walked.{branch_at, no_branch_at, leaf_at, tag_at}

-- ---- none where a right node stands

-- pages of one permission have no other
one_uniform : (view : View) (k first : ℕ) (p q : Perm) → IsUniform view k first p → IsUniform view k first q → p ≡ q
one_uniform view k first p q h w = sym (h 0 (pow_pos k)) ∙ w 0 (pow_pos k)

-- two right nodes at the front of the same bytes are one
pub same_node :
    (view : View) (k first : ℕ) (s t : BoundTree) (a b : List ℕ) → IsRightNode view k first s → IsRightNode view k first t
    → node_bytes s ++ a ≡ node_bytes t ++ b
    → (s ≡ t) × (a ≡ b)
same_node view k first s t a b right right' e = same_tree k s t a b right.fits right'.fits e

allowed_sums : (costs lower upper : Perm → ℕ) → IsAllowed costs lower upper → IsTooLarge lower upper → ⊥
allowed_sums costs lower upper allowed large = let small = allowed.sums large.0 in omega (arith, small, large.1)

sums_fit : (lower upper : Perm → ℕ) → HaveSums lower upper → IsTooLarge lower upper → ⊥
sums_fit lower upper sums large = let small = sums large.0 in omega (arith, small, large.1)

allowed_costs : (costs lower upper : Perm → ℕ) → IsAllowed costs lower upper → IsTooHigh costs lower upper → ⊥
allowed_costs costs lower upper allowed (p, q, high) =
    let same = allowed.same p in
    let any = allowed.any p q in
    ⊎_elim (λ over. omega (arith, over, same)) (λ over. omega (arith, over, any)) high

pub node_stands :
    (view : View) (k first : ℕ) (bytes rest : List ℕ) (tree : BoundTree) (refusal : CheckRefusal) → NodeFault view k first bytes refusal
    → IsRightNode view k first tree
    → bytes ≡ node_bytes tree ++ rest → ⊥
node_stands view k first bytes rest tree _ (in_tag fault h) right spelled =
    let tag = tag_at tree rest bytes spelled in
    tag_stands bytes tag.1 tag.0 fault tag.2 h
node_stands view k first bytes rest tree _ (in_perm left fault e h) right spelled =
    let at = leaf_at view k first tree rest bytes left e right spelled in
    perm_stands left rest at.perm fault at.left_is h
node_stands view k first bytes rest tree _ (not_uniform perm left e none) right spelled =
    let at = leaf_at view k first tree rest bytes (bits_of perm ∷ left) e right spelled in
    none at.perm at.uniform
node_stands view k first bytes rest tree _ (another perm other left e uniform differ) right spelled =
    let at = leaf_at view k first tree rest bytes (bits_of perm ∷ left) e right spelled in
    differ ((same_perm perm at.perm left rest at.left_is).0 ∙ one_uniform view k first at.perm other at.uniform uniform)
node_stands view k first bytes rest tree _ (a_page left e is) right spelled = no_branch_at view k first tree rest bytes left is e right spelled
node_stands view k first bytes rest tree _ (in_costs half left fault is e h) right spelled =
    let at = branch_at view k half first tree rest bytes left is e right spelled in
    costs_stand left (node_bytes at.lower ++ (node_bytes at.upper ++ rest)) at.costs fault at.left_is h
node_stands view k first bytes rest tree refusal (in_lower half costs left _ is e fault) right spelled =
    let at = branch_at view k half first tree rest bytes (costs_bytes costs ++ left) is e right spelled in
    node_stands view half first left (node_bytes at.upper ++ rest) at.lower refusal fault at.halves.low (behind_costs costs at.costs _ _ at.left_is)
node_stands view k first bytes rest tree refusal (in_upper half costs lower left _ is e low fault) right spelled =
    let at = branch_at view k half first tree rest bytes (costs_bytes costs ++ (node_bytes lower ++ left)) is e right spelled in
    let down = same_node view half first lower at.lower left (node_bytes at.upper ++ rest) low at.halves.low (behind_costs costs at.costs _ _ at.left_is) in
    node_stands view half (first + 2 ^ half) left rest at.upper refusal fault at.halves.high down.1
node_stands view k first bytes rest tree _ (overflow half costs lower upper left is e low high large) right spelled =
    let at = branch_at view k half first tree rest bytes (costs_bytes costs ++ (node_bytes lower ++ (node_bytes upper ++ left))) is e right spelled in
    let down = same_node view half first lower at.lower (node_bytes upper ++ left) (node_bytes at.upper ++ rest) low at.halves.low
    (behind_costs costs at.costs _ _ at.left_is) in
    let up = same_node view half (first + 2 ^ half) upper at.upper left rest high at.halves.high down.1 in
    let here : IsTooLarge (bound_of at.lower) (bound_of at.upper) =
    subst (λ (x : BoundTree). IsTooLarge (bound_of at.lower) (bound_of x)) up.0
    (subst (λ (x : BoundTree). IsTooLarge (bound_of x) (bound_of upper)) down.0 large)
    in
    allowed_sums at.costs (bound_of at.lower) (bound_of at.upper) at.halves.allowed here
node_stands view k first bytes rest tree _ (too_high half costs lower upper left is e small low high sums over) right spelled =
    let at = branch_at view k half first tree rest bytes (costs_bytes costs ++ (node_bytes lower ++ (node_bytes upper ++ left))) is e right spelled in
    let head = same_costs costs at.costs _ _ small at.halves.small at.left_is in
    let down = same_node view half first lower at.lower (node_bytes upper ++ left) (node_bytes at.upper ++ rest) low at.halves.low head.1 in
    let up = same_node view half (first + 2 ^ half) upper at.upper left rest high at.halves.high down.1 in
    let here : IsTooHigh at.costs (bound_of at.lower) (bound_of at.upper) =
    subst (λ (x : BoundTree). IsTooHigh at.costs (bound_of at.lower) (bound_of x)) up.0
    (subst (λ (x : BoundTree). IsTooHigh at.costs (bound_of x) (bound_of upper)) down.0
    (subst (λ (x : Perm → ℕ). IsTooHigh x (bound_of lower) (bound_of upper)) (one_function costs at.costs head.0) over))
    in
    allowed_costs at.costs (bound_of at.lower) (bound_of at.upper) at.halves.allowed here

-- ---- a fault in its part

-- after a leaf's tag
data LeafFault (view : View) (k first : ℕ) (bytes : List ℕ) (refusal : CheckRefusal) : Type 0 where
  no_perm : (fault : ReadFault) → PermFault bytes fault → refusal ≡ refusal_of fault → LeafFault view k first bytes refusal
  mixed : (perm : Perm) (rest : List ℕ) → bytes ≡ bits_of perm ∷ rest → ((other : Perm) → IsUniform view k first other → ⊥) → refusal ≡ LeafNotUniform
      → LeafFault view k first bytes refusal
  wrong :
      (perm other : Perm) (rest : List ℕ) → bytes ≡ bits_of perm ∷ rest → IsUniform view k first other → perm ≢ other → refusal ≡ WrongLeaf
      → LeafFault view k first bytes refusal

-- after both halves
data SumsFault (lower upper : Perm → ℕ) (refusal : CheckRefusal) : Type 0 where
  large : IsTooLarge lower upper → refusal ≡ CostOverflow → SumsFault lower upper refusal
  high : HaveSums lower upper → refusal ≡ CostTooHigh → SumsFault lower upper refusal

-- after the lower half
data UpperFault (view : View) (half first : ℕ) (lower : BoundTree) (bytes : List ℕ) (refusal : CheckRefusal) : Type 0 where
  at_upper : NodeFault view half (first + 2 ^ half) bytes refusal → UpperFault view half first lower bytes refusal
  past_upper :
      (upper : BoundTree) (rest : List ℕ) → bytes ≡ node_bytes upper ++ rest → IsRightNode view half (first + 2 ^ half) upper
      → SumsFault (bound_of lower) (bound_of upper) refusal → UpperFault view half first lower bytes refusal

-- after the costs
data LowerFault (view : View) (half first : ℕ) (bytes : List ℕ) (refusal : CheckRefusal) : Type 0 where
  at_lower : NodeFault view half first bytes refusal → LowerFault view half first bytes refusal
  past_lower :
      (lower : BoundTree) (rest : List ℕ) → bytes ≡ node_bytes lower ++ rest → IsRightNode view half first lower → UpperFault view half first lower rest refusal
      → LowerFault view half first bytes refusal

-- after a branch's tag
data SplitFault (view : View) (half first : ℕ) (bytes : List ℕ) (refusal : CheckRefusal) : Type 0 where
  no_costs : (fault : ReadFault) → ShortFault 24 bytes fault → refusal ≡ refusal_of fault → SplitFault view half first bytes refusal
  in_halves : (costs : Perm → ℕ) (rest : List ℕ) → bytes ≡ costs_bytes costs ++ rest → LowerFault view half first rest refusal
      → SplitFault view half first bytes refusal

-- in the tag, or after it
data PartFault (view : View) (k first : ℕ) (bytes : List ℕ) (refusal : CheckRefusal) : Type 0 where
  no_tag : (fault : ReadFault) → TagFault bytes fault → refusal ≡ refusal_of fault → PartFault view k first bytes refusal
  in_leaf : (rest : List ℕ) → bytes ≡ 0 ∷ rest → LeafFault view k first rest refusal → PartFault view k first bytes refusal
  of_page : (rest : List ℕ) → bytes ≡ 1 ∷ rest → k ≡ 0 → refusal ≡ TooDeep → PartFault view k first bytes refusal
  in_split : (half : ℕ) (rest : List ℕ) → k ≡ suc half → bytes ≡ 1 ∷ rest → SplitFault view half first rest refusal → PartFault view k first bytes refusal

parts_of : (view : View) (k first : ℕ) (bytes : List ℕ) (refusal : CheckRefusal) → NodeFault view k first bytes refusal → PartFault view k first bytes refusal
parts_of view k first bytes _ (in_tag fault h) = no_tag fault h refl
parts_of view k first bytes _ (in_perm rest fault e h) = in_leaf rest e (no_perm fault h refl)
parts_of view k first bytes _ (not_uniform perm rest e none) = in_leaf (bits_of perm ∷ rest) e (mixed perm rest refl none refl)
parts_of view k first bytes _ (another perm other rest e uniform differ) = in_leaf (bits_of perm ∷ rest) e (wrong perm other rest refl uniform differ refl)
parts_of view k first bytes _ (a_page rest e is) = of_page rest e is refl
parts_of view k first bytes _ (in_costs half rest fault is e h) = in_split half rest is e (no_costs fault h refl)
parts_of view k first bytes _ (in_lower half costs rest _ is e fault) = in_split half (costs_bytes costs ++ rest) is e
    (in_halves costs rest refl (at_lower fault))
parts_of view k first bytes _ (in_upper half costs lower rest _ is e low fault) =
    in_split half (costs_bytes costs ++ (node_bytes lower ++ rest)) is e (in_halves costs (node_bytes lower ++ rest) refl
    (past_lower lower rest refl low (at_upper fault)))
parts_of view k first bytes _ (overflow half costs lower upper rest is e low up over) =
    in_split half (costs_bytes costs ++ (node_bytes lower ++ (node_bytes upper ++ rest))) is e
    (in_halves costs (node_bytes lower ++ (node_bytes upper ++ rest)) refl
    (past_lower lower (node_bytes upper ++ rest) refl low (past_upper upper rest refl up (large over refl))))
parts_of view k first bytes _ (too_high half costs lower upper rest is e small low up sums over) =
    in_split half (costs_bytes costs ++ (node_bytes lower ++ (node_bytes upper ++ rest))) is e
    (in_halves costs (node_bytes lower ++ (node_bytes upper ++ rest)) refl
    (past_lower lower (node_bytes upper ++ rest) refl low (past_upper upper rest refl up (high sums refl))))

-- ---- at most one

behind_tag : (tag : ℕ) (bytes a b : List ℕ) → bytes ≡ tag ∷ a → bytes ≡ tag ∷ b → a ≡ b
behind_tag tag bytes a b e e' = ap (drop 1) (sym e ∙ e')

same_refusal : (a b : CheckRefusal) (f g : ReadFault) → a ≡ refusal_of f → b ≡ refusal_of g → f ≡ g → a ≡ b
same_refusal a b f g x y same = x ∙ ap refusal_of same ∙ sym y

leaf_once : (view : View) (k first : ℕ) (bytes : List ℕ) (a b : CheckRefusal) → LeafFault view k first bytes a → LeafFault view k first bytes b → a ≡ b
leaf_once view k first bytes a b (no_perm f h x) (no_perm g w y) = same_refusal a b f g x y (perm_once bytes f g h w)
leaf_once view k first bytes a b (no_perm f h x) (mixed perm rest e none y) = absurd (perm_stands bytes rest perm f e h)
leaf_once view k first bytes a b (no_perm f h x) (wrong perm other rest e uniform differ y) = absurd (perm_stands bytes rest perm f e h)
leaf_once view k first bytes a b (mixed perm rest e none x) (no_perm g w y) = absurd (perm_stands bytes rest perm g e w)
leaf_once view k first bytes a b (mixed perm rest e none x) (mixed perm' rest' e' none' y) = x ∙ sym y
leaf_once view k first bytes a b (mixed perm rest e none x) (wrong perm' other rest' e' uniform differ y) = absurd (none other uniform)
leaf_once view k first bytes a b (wrong perm other rest e uniform differ x) (no_perm g w y) = absurd (perm_stands bytes rest perm g e w)
leaf_once view k first bytes a b (wrong perm other rest e uniform differ x) (mixed perm' rest' e' none y) = absurd (none other uniform)
leaf_once view k first bytes a b (wrong perm other rest e uniform differ x) (wrong perm' other' rest' e' uniform' differ' y) = x ∙ sym y

sums_once : (lower upper : Perm → ℕ) (a b : CheckRefusal) → SumsFault lower upper a → SumsFault lower upper b → a ≡ b
sums_once lower upper a b (large h x) (large w y) = x ∙ sym y
sums_once lower upper a b (large h x) (high w y) = absurd (sums_fit lower upper w h)
sums_once lower upper a b (high h x) (large w y) = absurd (sums_fit lower upper h w)
sums_once lower upper a b (high h x) (high w y) = x ∙ sym y

-- at most one fault stands in a node of 2 ^ half pages
abbrev AreOnce : View → ℕ → Type 0
AreOnce view half = (first : ℕ) (bytes : List ℕ) (a b : CheckRefusal) → NodeFault view half first bytes a → NodeFault view half first bytes b → a ≡ b

upper_once :
    (view : View) (half first : ℕ) (lower : BoundTree) (bytes : List ℕ) (a b : CheckRefusal) → AreOnce view half → UpperFault view half first lower bytes a
    → UpperFault view half first lower bytes b → a ≡ b
upper_once view half first lower bytes a b once (at_upper h) (at_upper w) = once (first + 2 ^ half) bytes a b h w
upper_once view half first lower bytes a b once (at_upper h) (past_upper upper rest e right w) = absurd
    (node_stands view half (first + 2 ^ half) bytes rest upper a h right e)
upper_once view half first lower bytes a b once (past_upper upper rest e right h) (at_upper w) = absurd
    (node_stands view half (first + 2 ^ half) bytes rest upper b w right e)
upper_once view half first lower bytes a b once (past_upper upper rest e right h) (past_upper upper' rest' e' right' w) =
    let same = same_node view half (first + 2 ^ half) upper' upper rest' rest right' right (sym e' ∙ e) in
    sums_once (bound_of lower) (bound_of upper) a b h (subst (λ (x : BoundTree). SumsFault (bound_of lower) (bound_of x) b) same.0 w)

lower_once :
    (view : View) (half first : ℕ) (bytes : List ℕ) (a b : CheckRefusal) → AreOnce view half → LowerFault view half first bytes a
    → LowerFault view half first bytes b → a ≡ b
lower_once view half first bytes a b once (at_lower h) (at_lower w) = once first bytes a b h w
lower_once view half first bytes a b once (at_lower h) (past_lower lower rest e right w) = absurd (node_stands view half first bytes rest lower a h right e)
lower_once view half first bytes a b once (past_lower lower rest e right h) (at_lower w) = absurd (node_stands view half first bytes rest lower b w right e)
lower_once view half first bytes a b once (past_lower lower rest e right h) (past_lower lower' rest' e' right' w) =
    let same = same_node view half first lower' lower rest' rest right' right (sym e' ∙ e) in
    let here : UpperFault view half first lower rest b =
    subst (λ (xs : List ℕ). UpperFault view half first lower xs b) same.1 (subst (λ (x : BoundTree). UpperFault view half first x rest' b) same.0 w)
    in
    upper_once view half first lower rest a b once h here

split_once :
    (view : View) (half first : ℕ) (bytes : List ℕ) (a b : CheckRefusal) → AreOnce view half → SplitFault view half first bytes a
    → SplitFault view half first bytes b → a ≡ b
split_once view half first bytes a b once (no_costs f h x) (no_costs g w y) = same_refusal a b f g x y (short_once 24 bytes f g h w)
split_once view half first bytes a b once (no_costs f h x) (in_halves costs rest e w) = absurd (costs_stand bytes rest costs f e h)
split_once view half first bytes a b once (in_halves costs rest e h) (no_costs g w y) = absurd (costs_stand bytes rest costs g e w)
split_once view half first bytes a b once (in_halves costs rest e h) (in_halves costs' rest' e' w) =
    let same = behind_costs costs' costs rest' rest (sym e' ∙ e) in
    lower_once view half first rest a b once h (subst (λ (xs : List ℕ). LowerFault view half first xs b) same w)

part_once :
    (view : View) (k first : ℕ) (bytes : List ℕ) (a b : CheckRefusal) → ((half : ℕ) → k ≡ suc half → AreOnce view half) → PartFault view k first bytes a
    → PartFault view k first bytes b → a ≡ b
part_once view k first bytes a b once (no_tag f h x) (no_tag g w y) = same_refusal a b f g x y (tag_once bytes f g h w)
part_once view k first bytes a b once (no_tag f h x) (in_leaf rest e w) = absurd (tag_stands bytes rest Tags.Leaf f e h)
part_once view k first bytes a b once (no_tag f h x) (of_page rest e is y) = absurd (tag_stands bytes rest Tags.Branch f e h)
part_once view k first bytes a b once (no_tag f h x) (in_split half rest is e w) = absurd (tag_stands bytes rest Tags.Branch f e h)
part_once view k first bytes a b once (in_leaf rest e h) (no_tag g w y) = absurd (tag_stands bytes rest Tags.Leaf g e w)
part_once view k first bytes a b once (of_page rest e is x) (no_tag g w y) = absurd (tag_stands bytes rest Tags.Branch g e w)
part_once view k first bytes a b once (in_split half rest is e h) (no_tag g w y) = absurd (tag_stands bytes rest Tags.Branch g e w)
part_once view k first bytes a b once (in_leaf rest e h) (in_leaf rest' e' w) =
    leaf_once view k first rest a b h (subst (λ (xs : List ℕ). LeafFault view k first xs b) (behind_tag 0 bytes rest' rest e' e) w)
part_once view k first bytes a b once (in_leaf rest e h) (of_page rest' e' is y) = absurd (tags_differ rest rest' (sym e ∙ e'))
part_once view k first bytes a b once (in_leaf rest e h) (in_split half rest' is e' w) = absurd (tags_differ rest rest' (sym e ∙ e'))
part_once view k first bytes a b once (of_page rest e is x) (in_leaf rest' e' w) = absurd (tags_differ rest' rest (sym e' ∙ e))
part_once view k first bytes a b once (in_split half rest is e h) (in_leaf rest' e' w) = absurd (tags_differ rest' rest (sym e' ∙ e))
part_once view k first bytes a b once (of_page rest e is x) (of_page rest' e' is' y) = x ∙ sym y
part_once view k first bytes a b once (of_page rest e is x) (in_split half rest' is' e' w) = absurd (omega (arith, is, is'))
part_once view k first bytes a b once (in_split half rest is e h) (of_page rest' e' is' y) = absurd (omega (arith, is, is'))
part_once view k first bytes a b once (in_split half rest is e h) (in_split half' rest' is' e' w) =
    let size : half' ≡ half = omega (arith, is, is') in
    let here : SplitFault view half first rest b =
    subst (λ (xs : List ℕ). SplitFault view half first xs b) (behind_tag 1 bytes rest' rest e' e) (subst (λ (n : ℕ). SplitFault view n first rest' b) size w)
    in
    split_once view half first rest a b (once half is) h here

all_once : (view : View) (k : ℕ) → AreOnce view k
all_once view zero = λ first bytes a b h w. part_once view zero first bytes a b (λ half is. absurd (omega (arith, is))) (parts_of view zero first bytes a h)
    (parts_of view zero first bytes b w)
all_once view (suc k) =
    λ first bytes a b h w.
    part_once view (suc k) first bytes a b (λ half is. subst (λ (n : ℕ). AreOnce view n) (omega (arith, is)) (all_once view k))
    (parts_of view (suc k) first bytes a h)
    (parts_of view (suc k) first bytes b w)

-- two faults of the same node are one
pub node_once : (view : View) (k first : ℕ) (bytes : List ℕ) (a b : CheckRefusal) → NodeFault view k first bytes a → NodeFault view k first bytes b → a ≡ b
node_once view k first bytes a b h w = all_once view k first bytes a b h w
