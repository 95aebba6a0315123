-- The parts of a right node.
use Rattle.std.proofs.Common.{◌≡◌, ℕ, zero, suc, ◌+◌, ◌*◌, ◌^◌, ◌<◌, ◌≤◌, List, ◌∷◌, ◌++◌, pow_pos, ◌-◌, ◌≢◌, arith, sym, subst, ap, refl, ◌∙◌, Result, Ok, Err}
use Rattle.std.proofs.Common.{pow-suc}
use Rattle.std.specs.Result.{IfErr, IfOk, OnOk}
use Rattle.pmp_encoding.specs.declared.perm.Perm.{Perm}
use Rattle.pmp_encoding.specs.Perms.{bits_of}
use Rattle.pmp_match.specs.Meaning.{View}
use Rattle.pmp_match.specs.Bounds.{BoundTree, Leaf, Branch, bound_of, IsSoundAt}
use Rattle.certificate_format.specs.Costs.{cost_of}
use Rattle.certificate_format.specs.Spelling.{costs_bytes, node_bytes}
use Rattle.certificate_format.specs.declared.reader.Tag.{Tag}
use Rattle.certificate_format.specs.declared.reader.Tag.TheVariants as Tags
use Rattle.certificate_format.specs.Tags.{tag_byte}
use Rattle.certificate_format.proofs.Trees.{same_function, tags_differ, joined_branch}
use Rattle.certificate_check.specs.declared.refusal.CheckRefusal.{CheckRefusal}
use Rattle.certificate_check.specs.declared.refusal.CheckRefusal.TheVariants.{CostTooHigh, CostOverflow}
use Rattle.certificate_format.specs.declared.costs.SixCosts.{SixCosts}
use Rattle.pmp_encoding.specs.Views.{IsUniform}
use Rattle.certificate_check.specs.Later.{AgreeFrom}
use Rattle.certificate_check.specs.Nodes.{IsRightNode, IsAllowed, IsTooLarge, BranchFault, NodeFault, overflow, too_high, IsNodeRead}

-- a right split node in its parts
pub record AreRightHalves (view : View) (half first : ℕ) (costs : Perm → ℕ) (lower upper : BoundTree) : Type 0 where
  pub small : (p : Perm) → costs p < 2 ^ 32
  pub low : IsRightNode view half first lower
  pub high : IsRightNode view half (first + 2 ^ half) upper
  pub allowed : IsAllowed costs (bound_of lower) (bound_of upper)

parts_of : (view : View) (half first : ℕ) (costs : Perm → ℕ) (lower upper : BoundTree) → IsRightNode view (suc half) first (Branch costs lower upper)
    → AreRightHalves view half first costs lower upper
parts_of view half first costs lower upper right = record {
  small = right.fits.0;
  low = record { fits = right.fits.1; sound = right.sound.0; sums = right.sums.1 };
  high = record { fits = right.fits.2; sound = right.sound.1; sums = right.sums.2 };
  allowed = record { sums = right.sums.0; same = right.sound.2; any = right.sound.3 };
}

whole_of : (view : View) (half first : ℕ) (costs : Perm → ℕ) (lower upper : BoundTree) → AreRightHalves view half first costs lower upper
    → IsRightNode view (suc half) first (Branch costs lower upper)
whole_of view half first costs lower upper h = record {
  fits = (h.small, h.low.fits, h.high.fits);
  sound = (h.low.sound, h.high.sound, h.allowed.same, h.allowed.any);
  sums = (h.allowed.sums, h.low.sums, h.high.sums);
}

pub right_from_halves :
    (view : View) (k half first : ℕ) (costs : Perm → ℕ) (lower upper : BoundTree) → k ≡ suc half → AreRightHalves view half first costs lower upper
    → IsRightNode view k first (Branch costs lower upper)
right_from_halves view k half first costs lower upper is h =
    subst (λ (n : ℕ). IsRightNode view n first (Branch costs lower upper)) (sym is) (whole_of view half first costs lower upper h)

-- a page is not split
page_whole : (view : View) (first : ℕ) (costs : Perm → ℕ) (lower upper : BoundTree) → IsRightNode view zero first (Branch costs lower upper) → ⊥
page_whole view first costs lower upper right = right.fits

-- a right node that stands after a branch's tag
pub record IsBranchAt (view : View) (half first : ℕ) (tree : BoundTree) (rest left : List ℕ) : Type 0 where
  pub costs : Perm → ℕ
  pub lower : BoundTree
  pub upper : BoundTree
  pub tree_is : tree ≡ Branch costs lower upper
  pub halves : AreRightHalves view half first costs lower upper
  pub left_is : left ≡ costs_bytes costs ++ (node_bytes lower ++ (node_bytes upper ++ rest))

pub branch_at :
    (view : View) (k half first : ℕ) (tree : BoundTree) (rest bytes left : List ℕ) → k ≡ suc half → bytes ≡ 1 ∷ left → IsRightNode view k first tree
    → bytes ≡ node_bytes tree ++ rest
    → IsBranchAt view half first tree rest left
branch_at view k half first (Leaf perm) rest bytes left is tag right spelled = absurd
    (let e : 1 ∷ left ≡ 0 ∷ bits_of perm ∷ rest = sym tag ∙ spelled in tags_differ _ _ (sym e))
branch_at view k half first (Branch costs lower upper) rest bytes left is tag right spelled = record {
  costs = costs;
  lower = lower;
  upper = upper;
  tree_is = refl;
  halves = parts_of view half first costs lower upper (subst (λ (n : ℕ). IsRightNode view n first (Branch costs lower upper)) is right);
  left_is = (let e : 1 ∷ left ≡ 1 ∷ (costs_bytes costs ++ (node_bytes lower ++ (node_bytes upper ++ rest))) = sym tag ∙ spelled
      ∙ joined_branch costs lower upper rest in cc);
}

pub no_branch_at :
    (view : View) (k first : ℕ) (tree : BoundTree) (rest bytes left : List ℕ) → k ≡ 0 → bytes ≡ 1 ∷ left → IsRightNode view k first tree
    → bytes ≡ node_bytes tree ++ rest → ⊥
no_branch_at view k first (Leaf perm) rest bytes left is tag right spelled =
    (let e : 1 ∷ left ≡ 0 ∷ bits_of perm ∷ rest = sym tag ∙ spelled in tags_differ _ _ (sym e))
no_branch_at view k first (Branch costs lower upper) rest bytes left is tag right spelled = page_whole view first costs lower upper
    (subst (λ (n : ℕ). IsRightNode view n first (Branch costs lower upper)) is right)

-- a right node that stands after a leaf's tag
pub record IsLeafAt (view : View) (k first : ℕ) (tree : BoundTree) (rest left : List ℕ) : Type 0 where
  pub perm : Perm
  pub tree_is : tree ≡ Leaf perm
  pub uniform : IsUniform view k first perm
  pub left_is : left ≡ bits_of perm ∷ rest

uniform_from : (view : View) (k first : ℕ) (perm : Perm) → IsSoundAt view k first (Leaf perm) → IsUniform view k first perm
uniform_from view zero first perm sound = sound
uniform_from view (suc k) first perm sound = sound

pub leaf_at :
    (view : View) (k first : ℕ) (tree : BoundTree) (rest bytes left : List ℕ) → bytes ≡ 0 ∷ left → IsRightNode view k first tree
    → bytes ≡ node_bytes tree ++ rest
    → IsLeafAt view k first tree rest left
leaf_at view k first (Leaf perm) rest bytes left tag right spelled = record {
  perm = perm;
  tree_is = refl;
  uniform = uniform_from view k first perm right.sound;
  left_is = (let e : 0 ∷ left ≡ 0 ∷ bits_of perm ∷ rest = sym tag ∙ spelled in cc);
}
leaf_at view k first (Branch costs lower upper) rest bytes left tag right spelled =
    absurd (let e : 0 ∷ left ≡ 1 ∷ ((costs_bytes costs ++ (node_bytes lower ++ node_bytes upper)) ++ rest) = sym tag ∙ spelled in tags_differ _ _ e)

-- costs that fault against the halves' numbers, in the node that they stand in
pub branch_fault :
    (view : View) (k half first : ℕ) (bytes rest : List ℕ) (costs f g : Perm → ℕ) (lower upper : BoundTree) (refusal : CheckRefusal) → k ≡ suc half
    → bytes ≡ 1 ∷ (costs_bytes costs ++ (node_bytes lower ++ (node_bytes upper ++ rest))) → ((p : Perm) → costs p < 2 ^ 32) → IsRightNode view half first lower
    → IsRightNode view half (first + 2 ^ half) upper → f ≡ bound_of lower → g ≡ bound_of upper → BranchFault costs f g refusal
    → NodeFault view k first bytes refusal
branch_fault view k half first bytes rest costs f g lower upper CostOverflow is spelled small low high p q fault =
    overflow half costs lower upper rest is spelled low high (subst (λ (x : Perm → ℕ). IsTooLarge (bound_of lower) x) q
    (subst (λ (x : Perm → ℕ). IsTooLarge x g) p fault))
branch_fault view k half first bytes rest costs f g lower upper CostTooHigh is spelled small low high p q fault =
    let here : BranchFault costs (bound_of lower) (bound_of upper) CostTooHigh =
    subst (λ (x : Perm → ℕ). BranchFault costs (bound_of lower) x CostTooHigh) q (subst (λ (x : Perm → ℕ). BranchFault costs x g CostTooHigh) p fault) in
    too_high half costs lower upper rest is spelled small low high here.0 here.1
branch_fault view k half first bytes rest costs f g lower upper refusal is spelled small low high p q fault = absurd fault

-- a branch and its halves, one after the other
pub spelled_in_turn :
    (bytes first second third left : List ℕ) (costs : Perm → ℕ) (lower upper : BoundTree) → bytes ≡ 1 ∷ first → first ≡ costs_bytes costs ++ second
    → second ≡ node_bytes lower ++ third → third ≡ node_bytes upper ++ left
    → bytes ≡ 1 ∷ (costs_bytes costs ++ (node_bytes lower ++ (node_bytes upper ++ left)))
spelled_in_turn bytes first second third left costs lower upper a b c d = cc

-- what was read, where the costs are allowed
pub branch_read :
    (view : View) (k half first : ℕ) (bytes inner second third left : List ℕ) (costs : Perm → ℕ) (lower upper : SixCosts)
    (result : Result SixCosts CheckRefusal) → k ≡ suc half
    → bytes ≡ 1 ∷ inner → inner ≡ costs_bytes costs ++ second → ((p : Perm) → costs p < 2 ^ 32) → IsNodeRead view half first second third lower
    → IsNodeRead view half (first + 2 ^ half) third left upper → OnOk result (IsAllowed costs (cost_of lower) (cost_of upper))
    → IfOk result (λ numbers. (p : Perm) → cost_of numbers p ≡ costs p) → IfOk result (λ numbers. IsNodeRead view k first bytes left numbers)
branch_read view k half first bytes inner second third left costs lower upper (Err refusal) is a b small low high allowed known = tt
branch_read view k half first bytes inner second third left costs lower upper (Ok numbers) is a b small low high allowed known =
    let l : cost_of lower ≡ bound_of low.tree = same_function _ _ low.numbers_of in
    let u : cost_of upper ≡ bound_of high.tree = same_function _ _ high.numbers_of in
    let fine : IsAllowed costs (bound_of low.tree) (bound_of high.tree) =
    subst (λ (x : Perm → ℕ). IsAllowed costs (bound_of low.tree) x) u (subst (λ (x : Perm → ℕ). IsAllowed costs x (cost_of upper)) l allowed) in
    let flat = spelled_in_turn bytes inner second third left costs low.tree high.tree a b low.spelled high.spelled in
    record {
      tree = Branch costs low.tree high.tree;
      right = right_from_halves view k half first costs low.tree high.tree is (record { small = small; low = low.right; high = high.right; allowed = fine });
      spelled = flat ∙ sym (joined_branch costs low.tree high.tree left);
      numbers_of = known;
    }

-- the fault that stands in a branch whose halves were read
pub branch_refused :
    (view : View) (k half first : ℕ) (bytes inner second third left : List ℕ) (costs : Perm → ℕ) (lower upper : SixCosts)
    (result : Result SixCosts CheckRefusal) → k ≡ suc half
    → bytes ≡ 1 ∷ inner → inner ≡ costs_bytes costs ++ second → ((p : Perm) → costs p < 2 ^ 32) → IsNodeRead view half first second third lower
    → IsNodeRead view half (first + 2 ^ half) third left upper → IfErr result (BranchFault costs (cost_of lower) (cost_of upper))
    → IfErr result (NodeFault view k first bytes)
branch_refused view k half first bytes inner second third left costs lower upper (Ok numbers) is a b small low high fault = tt
branch_refused view k half first bytes inner second third left costs lower upper (Err refusal) is a b small low high fault =
    branch_fault view k half first bytes left costs (cost_of lower) (cost_of upper) low.tree high.tree refusal is
    (spelled_in_turn bytes inner second third left costs low.tree high.tree a b low.spelled high.spelled) small low.right high.right
    (same_function _ _ low.numbers_of)
    (same_function _ _ high.numbers_of) fault

-- a right node begins with one of the two tags
pub tag_at : (tree : BoundTree) (rest bytes : List ℕ) → bytes ≡ node_bytes tree ++ rest → (tag : Tag) × (left : List ℕ) × (bytes ≡ tag_byte tag ∷ left)
tag_at (Leaf perm) rest bytes spelled = (Tags.Leaf, bits_of perm ∷ rest, spelled)
tag_at (Branch costs lower upper) rest bytes spelled = (Tags.Branch, (costs_bytes costs ++ (node_bytes lower ++ node_bytes upper)) ++ rest, spelled)

-- halves of an aligned block
pub half_inside : (first half k most : ℕ) → k ≡ suc half → first + 2 ^ k ≤ most → first + 2 ^ half + 2 ^ half ≤ most
half_inside first half k most is inside = let double : 2 ^ suc half ≡ 2 ^ half * 2 = pow-suc 2 half in let e : 2 ^ k ≡ 2 ^ suc half = ap
    (λ n. 2 ^ n) is in omega arith

-- where the runs from a middle on are left, the views agree from there
pub agree_on :
    (first middle : ℕ) (old later view : View) → AgreeFrom first old view → first ≤ middle → AgreeFrom middle later old → AgreeFrom middle later view
agree_on first middle old later view same low kept at after = kept at after ∙ same at (omega arith)

-- after both halves
pub agree_far :
    (first half k middle : ℕ) (old lower upper : View) → k ≡ suc half → middle ≡ first + 2 ^ half → AgreeFrom (first + 2 ^ half) lower old
    → AgreeFrom (middle + 2 ^ half) upper lower → AgreeFrom (first + 2 ^ k) upper old
agree_far first half k middle old lower upper is mid a b at after =
    let double : 2 ^ suc half ≡ 2 ^ half * 2 = pow-suc 2 half in
    let e : 2 ^ k ≡ 2 ^ suc half = ap (λ n. 2 ^ n) is in
    b at (omega arith) ∙ a at (omega arith)

pub on_ok : {P : Type 0} (result : Result SixCosts CheckRefusal) → P → OnOk result P
on_ok (Ok costs) p = p
on_ok (Err refusal) p = tt

-- pages that have one permission where the views agree
pub one_permission :
    (old view : View) (k first end : ℕ) (perm : Perm) → AgreeFrom first old view → end ≡ first + 2 ^ k → ((at : ℕ) → first ≤ at → at < end → old at ≡ perm)
    → IsUniform view k first perm
one_permission old view k first end perm same is all i less = sym (same (first + i) (omega arith)) ∙ all (first + i) (omega arith) (omega arith)

-- pages of two permissions have not one
pub two_permissions :
    (old view : View) (k first at : ℕ) → AgreeFrom first old view → first ≤ at → at < first + 2 ^ k → old at ≢ old first → (other : Perm)
    → IsUniform view k first other → ⊥
two_permissions old view k first at same low high differ other uniform =
    let there : first + (at - first) ≡ at = omega arith in
    let here : first + 0 ≡ first = omega arith in
    differ
    (same at low ∙ ap view (sym there) ∙ uniform (at - first) (omega arith) ∙ sym (uniform 0 (pow_pos k)) ∙ ap view here ∙ sym (same first (omega arith)))
