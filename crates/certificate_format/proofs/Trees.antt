-- The bytes of trees that fit are a prefix code.
use Rattle.std.proofs.Common.{◌≡◌, ℕ, zero, suc, List, ◌∷◌, ◌++◌, drop, append_assoc, arith, refl, sym, ap, ◌∙◌}
use Rattle.pmp_encoding.specs.declared.perm.Perm.{Perm}
use Rattle.pmp_encoding.specs.declared.perm.Perm.TheVariants.{NoAccess, Read, ReadWrite, Execute, ReadExecute, ReadWriteExecute}
use Rattle.pmp_encoding.specs.Perms.{bits_of}
use Rattle.pmp_encoding.proofs.Pairs.{perm_from_same_bits}
use Rattle.pmp_match.specs.Bounds.{BoundTree, Leaf, Branch}
use Rattle.certificate_format.specs.declared.costs.SixCosts.{SixCosts}
use Rattle.certificate_format.specs.Costs.{cost_of, six_of}
use Rattle.certificate_format.specs.Spelling.{costs_bytes, node_bytes, FitsNode}
use Rattle.certificate_format.proofs.Numbers.{same_fronts}
use Rattle.certificate_format.proofs.CostBytes.{length-costs_bytes, same_costs}

-- functions that agree everywhere are one
pub same_function : (f g : Perm → ℕ) → ((p : Perm) → f p ≡ g p) → f ≡ g
same_function f g h = λ i p. h p i

pub six_back : (f : Perm → ℕ) (p : Perm) → cost_of (six_of f) p ≡ f p
six_back f NoAccess = refl
six_back f Read = refl
six_back f ReadWrite = refl
six_back f Execute = refl
six_back f ReadExecute = refl
six_back f ReadWriteExecute = refl

pub one_function : (f g : Perm → ℕ) → six_of f ≡ six_of g → f ≡ g
one_function f g same = same_function f g (λ p. sym (six_back f p) ∙ ap (λ (six : SixCosts). cost_of six p) same ∙ six_back g p)

-- no bytes begin with both tags
same_head : (a b : ℕ) (xs ys : List ℕ) → a ∷ xs ≡ b ∷ ys → a ≡ b
same_head a b xs ys e = cc

pub tags_differ : (xs ys : List ℕ) → 0 ∷ xs ≡ 1 ∷ ys → ⊥
tags_differ xs ys e = omega (arith, same_head 0 1 xs ys e)

-- a permission's byte spells it alone
pub same_perm : (p q : Perm) (a b : List ℕ) → bits_of p ∷ a ≡ bits_of q ∷ b → (p ≡ q) × (a ≡ b)
same_perm p q a b e = (perm_from_same_bits p q (same_head (bits_of p) (bits_of q) a b e), ap (drop 1) e)

-- what follows six costs, whatever they are
pub behind_costs : (f g : Perm → ℕ) (a b : List ℕ) → costs_bytes f ++ a ≡ costs_bytes g ++ b → a ≡ b
behind_costs f g a b e = (same_fronts (costs_bytes f) (costs_bytes g) a b (length-costs_bytes f ∙ sym (length-costs_bytes g)) e).1

-- a branch's bytes in parts
pub joined_branch :
    (costs : Perm → ℕ) (lower upper : BoundTree) (rest : List ℕ)
    → node_bytes (Branch costs lower upper) ++ rest ≡ 1 ∷ (costs_bytes costs ++ (node_bytes lower ++ (node_bytes upper ++ rest)))
joined_branch costs lower upper rest =
    ap (λ xs. 1 ∷ xs)
    (append_assoc (costs_bytes costs) (node_bytes lower ++ node_bytes upper) rest
    ∙ ap (λ xs. costs_bytes costs ++ xs) (append_assoc (node_bytes lower) (node_bytes upper) rest))

-- two trees at the front of the same bytes are one, and so is what follows them
pub same_tree : (k : ℕ) (s t : BoundTree) (a b : List ℕ) → FitsNode k s → FitsNode k t → node_bytes s ++ a ≡ node_bytes t ++ b → (s ≡ t) × (a ≡ b)
same_tree k (Leaf p) (Leaf q) a b fits fits' e =
    let same = same_perm p q a b (ap (drop 1) e) in
    (ap (λ x. Leaf x) same.0, same.1)
same_tree k (Leaf p) (Branch costs lower upper) a b fits fits' e = absurd (tags_differ _ _ e)
same_tree k (Branch costs lower upper) (Leaf q) a b fits fits' e = absurd (tags_differ _ _ (sym e))
same_tree zero (Branch costs lower upper) (Branch costs' lower' upper') a b fits fits' e = absurd fits
same_tree (suc k) (Branch costs lower upper) (Branch costs' lower' upper') a b fits fits' e =
    let flat : costs_bytes costs ++ (node_bytes lower ++ (node_bytes upper ++ a)) ≡ costs_bytes costs' ++ (node_bytes lower' ++ (node_bytes upper' ++ b)) =
    ap (drop 1) (sym (joined_branch costs lower upper a) ∙ e ∙ joined_branch costs' lower' upper' b)
    in
    let head = same_costs costs costs' _ _ fits.0 fits'.0 flat in
    let low = same_tree k lower lower' _ _ fits.1 fits'.1 head.1 in
    let high = same_tree k upper upper' a b fits.2 fits'.2 low.1 in (
      ap (λ x. Branch x lower upper) (one_function costs costs' head.0) ∙ ap (λ x. Branch costs' x upper) low.0
          ∙ ap (λ x. Branch costs' lower' x) high.0,
      high.1,
    )
