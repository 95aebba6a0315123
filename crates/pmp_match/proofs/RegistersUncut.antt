-- Extents mean a view exactly where they give each byte the view's permission and cut no access that the view lets through.
use Rattle.std.proofs.Common.{◌≡◌, ℕ, ◌/◌, ◌^◌, ◌<◌, ◌↔◌, ◌⊎◌, inl, inr, ⊎_elim, List, [], ◌∷◌, ◌++◌, All, Bool, true, false, cond, nat_lt}
use Rattle.std.proofs.Common.{nat_le, refl, sym, ap, subst, ◌∙◌, arith}
use Rattle.std.specs.List.{AllByRecursion}
use Rattle.std.proofs.lemmas.Bool.{ltb-true, leb-true, lt-ltb, le-leb, and_from, and_parts, false_from_ne_true, both_ways}
use Rattle.std.proofs.lemmas.List.Elements.{All-nil, All-cons, All-head, All-tail, recursion_from_All}
use Rattle.pmp_encoding.specs.declared.extent.Extent.{Extent}
use Rattle.pmp_encoding.specs.declared.perm.Perm.TheVariants.{NoAccess}
use Rattle.pmp_encoding.specs.Views.{View}
use Rattle.pmp_match.specs.declared.access.Access.{Access}
use Rattle.pmp_match.specs.Kinds.{holds}
use Rattle.pmp_match.specs.Matching.{touches}
use Rattle.pmp_match.proofs.Decided.{size_positive}
use Rattle.pmp_match.proofs.FirstByte.{no_access}
use Rattle.pmp_match.specs.RegisterBytes.{has_byte, perm_at}
use Rattle.pmp_match.specs.RegisterDecision.{ContainsAll, ExtentsMean, IsFirstMatch, IsNeverCut, IsWords, Meets, NoneMeets, Permits}
use Rattle.pmp_match.proofs.RegistersDecided.{Meets-from_test, at_once, later, test_from_Meets}
use Rattle.pmp_match.proofs.RegistersEachByte.{each_byte}

-- ---- the first match of an access is one extent

head_is : (x y : Extent) (xs ys : List Extent) → x ∷ xs ≡ y ∷ ys → x ≡ y
head_is x y xs ys h = cc

tail_is : (x y : Extent) (xs ys : List Extent) → x ∷ xs ≡ y ∷ ys → xs ≡ ys
tail_is x y xs ys h = cc

same_match :
    (a : Access) (before others after rest : List Extent) (x y : Extent) → before ++ x ∷ after ≡ others ++ y ∷ rest → NoneMeets before a → NoneMeets others a
    → Meets x a → Meets y a
    → x ≡ y
same_match a [] [] after rest x y h p q m n = head_is x y after rest h
same_match a [] (z ∷ others) after rest x y h p q m n =
    absurd (All-head (λ w. ¬ Meets w a) z others q (subst (λ w. Meets w a) (head_is x z after (others ++ y ∷ rest) h) m))
same_match a (z ∷ before) [] after rest x y h p q m n =
    absurd (All-head (λ w. ¬ Meets w a) z before p (subst (λ w. Meets w a) (sym (head_is z y (before ++ x ∷ after) rest h)) n))
same_match a (z ∷ before) (w ∷ others) after rest x y h p q m n =
    same_match a before others after rest x y (tail_is z w (before ++ x ∷ after) (others ++ y ∷ rest) h) (All-tail (λ v. ¬ Meets v a) z before p)
    (All-tail (λ v. ¬ Meets v a) w others q) m n

pub one_match : (xs : List Extent) (a : Access) (x y : Extent) → IsFirstMatch xs a x → IsFirstMatch xs a y → x ≡ y
one_match xs a x y p q = same_match a p.before q.before p.after q.after x y (sym p.split ∙ q.split) p.missed q.missed p.met q.met

-- ---- every access has a first match, or none

pub first_of_all : (xs : List Extent) (a : Access) → AllByRecursion IsWords xs → NoneMeets xs a ⊎ ((x : Extent) × IsFirstMatch xs a x)
first_of_all [] a words = inl (All-nil (λ x. ¬ Meets x a))
first_of_all (x ∷ xs) a words = go (touches x a) refl (first_of_all xs a words.1)
  where
    go : (t : Bool) → touches x a ≡ t → NoneMeets xs a ⊎ ((y : Extent) × IsFirstMatch xs a y)
        → NoneMeets (x ∷ xs) a ⊎ ((y : Extent) × IsFirstMatch (x ∷ xs) a y)
    go true is rest = inr (x, at_once x xs a (Meets-from_test x a words.0 is))
    go false is rest =
        let off : ¬ Meets x a = λ m. both_ways (touches x a) is (test_from_Meets x a m) in
        ⊎_elim (λ none. inl (All-cons (λ z. ¬ Meets z a) x xs off none)) (λ y. inr (y.0, later x xs a y.0 off y.1)) rest

-- ---- what the list gives at the first byte of an access

module _ (a : Access) where
  some : 0 < a.size
  some = size_positive a.kind a.size a.sized

  meets_first : (x : Extent) → has_byte x a.address ≡ true → Meets x a
  meets_first x h =
      let both : (nat_le x.base a.address ≡ true) × (nat_lt a.address x.end ≡ true) = and_parts _ _ h in
      (a.address, (omega arith, omega (arith, some)), (leb-true _ _ both.0, ltb-true _ _ both.1))

  off_first : (x : Extent) → ¬ Meets x a → has_byte x a.address ≡ false
  off_first x off = false_from_ne_true (has_byte x a.address) (λ h. off (meets_first x h))

  on_first : (x : Extent) → ContainsAll x a → has_byte x a.address ≡ true
  on_first x contains =
      let first = contains a.address (omega arith, omega (arith, some)) in
      and_from _ _ (le-leb _ _ first.0) (lt-ltb _ _ first.1)

  perm_after : (before after : List Extent) → NoneMeets before a → perm_at (before ++ after) a.address ≡ perm_at after a.address
  perm_after [] after none = refl
  perm_after (x ∷ before) after none =
      let P : Extent → Type 0 = λ z. ¬ Meets z a in
      ap (λ t. cond t x.perm (perm_at (before ++ after) a.address)) (off_first x (All-head P x before none))
      ∙ perm_after before after (All-tail P x before none)

  perm_none : (xs : List Extent) → NoneMeets xs a → perm_at xs a.address ≡ NoAccess
  perm_none [] none = refl
  perm_none (x ∷ xs) none =
      let P : Extent → Type 0 = λ z. ¬ Meets z a in
      ap (λ t. cond t x.perm (perm_at xs a.address)) (off_first x (All-head P x xs none)) ∙ perm_none xs (All-tail P x xs none)

  perm_first : (xs : List Extent) (x : Extent) → IsFirstMatch xs a x → ContainsAll x a → perm_at xs a.address ≡ x.perm
  perm_first xs x first contains =
      ap (λ ys. perm_at ys a.address) first.split
      ∙ perm_after first.before (x ∷ first.after) first.missed
      ∙ ap (λ t. cond t x.perm (perm_at first.after a.address)) (on_first x contains)

-- ---- the law

pub never_cut : (xs : List Extent) (view : View) → ExtentsMean xs view → IsNeverCut xs view
never_cut xs view means a aligned inside user may x first =
    let p = (means a aligned inside user).1 may in
    subst (λ y. ContainsAll y a) (one_match xs a p.extent x p.first first) p.whole

pub means_from_bytes :
    (xs : List Extent) (view : View) → AllByRecursion IsWords xs → ((byte : ℕ) → byte < 2 ^ 56 → perm_at xs byte ≡ view (byte / 4096)) → IsNeverCut xs view
    → ExtentsMean xs view
means_from_bytes xs view words bytes uncut a aligned inside user = (there, back)
  where
    here : perm_at xs a.address ≡ view (a.address / 4096)
    here = bytes a.address inside

    there : Permits xs a → holds (view (a.address / 4096)) a.kind ≡ true
    there p = ap (λ q. holds q a.kind) (sym here ∙ perm_first a xs p.extent p.first p.whole) ∙ p.may

    back : holds (view (a.address / 4096)) a.kind ≡ true → Permits xs a
    back may =
        ⊎_elim
        (λ none.
        let nothing : view (a.address / 4096) ≡ NoAccess = sym here ∙ perm_none a xs none in
        absurd (both_ways (holds (view (a.address / 4096)) a.kind) (ap (λ p. holds p a.kind) nothing ∙ no_access a.kind) may))
        (λ found.
        let whole = uncut a aligned inside user may found.0 found.1 in
        record { extent = found.0; first = found.1; whole = whole; may = ap (λ p. holds p a.kind) (sym (perm_first a xs found.0 found.1 whole) ∙ here) ∙ may })
        (first_of_all xs a words)

pub byte_law_proof :
    (xs : List Extent) (view : View) → All IsWords xs
    → ExtentsMean xs view ↔ (((byte : ℕ) → byte < 2 ^ 56 → perm_at xs byte ≡ view (byte / 4096)) × IsNeverCut xs view)
byte_law_proof xs view words =
    let each = recursion_from_All IsWords xs words in
    ((λ means. (each_byte xs view each means, never_cut xs view means)), (λ h. means_from_bytes xs view each h.0 h.1))
