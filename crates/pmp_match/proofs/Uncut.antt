-- A list means a view exactly where it gives each byte the view's permission and no access that the view lets through is cut.
use Rattle.std.proofs.Common.{◌≡◌, ℕ, ◌+◌, ◌/◌, ◌^◌, ◌<◌, ◌↔◌, ◌⊎◌, inl, inr, ⊎_elim, List, [], ◌∷◌, ◌++◌, Bool, true, false, cond, nat_lt, nat_le, refl, sym}
use Rattle.std.proofs.Common.{ap, subst, ◌∙◌, arith}
use Rattle.std.proofs.lemmas.Bool.{ltb-true, leb-true, lt-ltb, le-leb, and_from, and_parts, false_from_ne_true, both_ways}
use Rattle.std.proofs.lemmas.List.Elements.{All-nil, All-cons, All-head, All-tail}
use Rattle.pmp_encoding.specs.declared.perm.Perm.TheVariants.{NoAccess}
use Rattle.pmp_encoding.specs.declared.region.Region.{Region}
use Rattle.pmp_encoding.specs.declared.region.Entry.{Entry}
use Rattle.pmp_match.specs.declared.access.Access.{Access}
use Rattle.pmp_match.specs.Kinds.{holds}
use Rattle.pmp_match.specs.Accesses.{Meets, ContainsAll, meets}
use Rattle.pmp_match.specs.Bytes.{holds_byte, perm_at}
use Rattle.pmp_match.specs.Decision.{IsFirstMatch, Allows, matched, unmatched}
use Rattle.pmp_match.specs.Meaning.{View, Means, IsNeverCut}
use Rattle.pmp_match.proofs.Decided.{NoneMeets, Meets-from_test, test_from_Meets, size_positive}
use Rattle.pmp_match.proofs.EachByte.{byte_law_proof}
use Rattle.pmp_match.proofs.FirstByte.{no_access}

-- ---- the first match of an access is one entry

head_is : (e d : Entry) (es ds : List Entry) → e ∷ es ≡ d ∷ ds → e ≡ d
head_is e d es ds h = cc

tail_is : (e d : Entry) (es ds : List Entry) → e ∷ es ≡ d ∷ ds → es ≡ ds
tail_is e d es ds h = cc

same_match :
    (a : Access) (before others after rest : List Entry) (e d : Entry) → before ++ e ∷ after ≡ others ++ d ∷ rest → NoneMeets before a → NoneMeets others a
    → Meets e.region a → Meets d.region a
    → e ≡ d
same_match a [] [] after rest e d h p q m n = head_is e d after rest h
same_match a [] (x ∷ others) after rest e d h p q m n =
    absurd (All-head (λ y. ¬ Meets y.region a) x others q (subst (λ y. Meets y.region a) (head_is e x after (others ++ d ∷ rest) h) m))
same_match a (x ∷ before) [] after rest e d h p q m n =
    absurd (All-head (λ y. ¬ Meets y.region a) x before p (subst (λ y. Meets y.region a) (sym (head_is x d (before ++ e ∷ after) rest h)) n))
same_match a (x ∷ before) (y ∷ others) after rest e d h p q m n =
    same_match a before others after rest e d (tail_is x y (before ++ e ∷ after) (others ++ d ∷ rest) h) (All-tail (λ z. ¬ Meets z.region a) x before p)
    (All-tail (λ z. ¬ Meets z.region a) y others q) m n

one_match : (entries : List Entry) (a : Access) (e d : Entry) → IsFirstMatch entries a e → IsFirstMatch entries a d → e ≡ d
one_match entries a e d p q = same_match a p.before q.before p.after q.after e d (sym p.split ∙ q.split) p.missed q.missed p.met q.met

-- ---- every access has a first match, or none

first_of_all : (entries : List Entry) (a : Access) → NoneMeets entries a ⊎ ((e : Entry) × IsFirstMatch entries a e)
first_of_all [] a = inl (All-nil (λ x. ¬ Meets x.region a))
first_of_all (e ∷ es) a = go (meets e.region a) refl (first_of_all es a)
  where
    go : (t : Bool) → meets e.region a ≡ t → NoneMeets es a ⊎ ((d : Entry) × IsFirstMatch es a d)
        → NoneMeets (e ∷ es) a ⊎ ((d : Entry) × IsFirstMatch (e ∷ es) a d)
    go true is rest =
        inr (e, record { before = []; after = es; split = refl; missed = All-nil (λ x. ¬ Meets x.region a); met = Meets-from_test e.region a is })
    go false is rest =
        let P : Entry → Type 0 = λ x. ¬ Meets x.region a in
        let off : ¬ Meets e.region a = λ m. both_ways (meets e.region a) is (test_from_Meets e.region a m) in
        ⊎_elim (λ none. inl (All-cons P e es off none))
        (λ d.
        inr (
          d.0,
          record {
            before = e ∷ d.1.before;
            after = d.1.after;
            split = ap (λ xs. e ∷ xs) d.1.split;
            missed = All-cons P e d.1.before off d.1.missed;
            met = d.1.met;
          },
        ))
        rest

-- ---- what the list gives at the first byte of an access

module _ (a : Access) where
  some : 0 < a.size
  some = size_positive a.kind a.size a.sized

  meets_first : (region : Region) → holds_byte region a.address ≡ true → Meets region a
  meets_first region h =
      let both : (nat_le region.base a.address ≡ true) × (nat_lt a.address (region.base + 2 ^ region.log2) ≡ true) = and_parts _ _ h in
      (a.address, (omega arith, omega (arith, some)), (leb-true _ _ both.0, ltb-true _ _ both.1))

  off_first : (e : Entry) → ¬ Meets e.region a → holds_byte e.region a.address ≡ false
  off_first e off = false_from_ne_true (holds_byte e.region a.address) (λ h. off (meets_first e.region h))

  on_first : (e : Entry) → ContainsAll e.region a → holds_byte e.region a.address ≡ true
  on_first e contains =
      let first = contains a.address (omega arith, omega (arith, some)) in
      and_from _ _ (le-leb _ _ first.0) (lt-ltb _ _ first.1)

  perm_after : (before after : List Entry) → NoneMeets before a → perm_at NoAccess (before ++ after) a.address ≡ perm_at NoAccess after a.address
  perm_after [] after none = refl
  perm_after (e ∷ before) after none =
      let P : Entry → Type 0 = λ x. ¬ Meets x.region a in
      ap (λ t. cond t e.perm (perm_at NoAccess (before ++ after) a.address)) (off_first e (All-head P e before none))
      ∙ perm_after before after (All-tail P e before none)

  perm_none : (entries : List Entry) → NoneMeets entries a → perm_at NoAccess entries a.address ≡ NoAccess
  perm_none [] none = refl
  perm_none (e ∷ es) none =
      let P : Entry → Type 0 = λ x. ¬ Meets x.region a in
      ap (λ t. cond t e.perm (perm_at NoAccess es a.address)) (off_first e (All-head P e es none)) ∙ perm_none es (All-tail P e es none)

  perm_first : (entries : List Entry) (e : Entry) → IsFirstMatch entries a e → ContainsAll e.region a → perm_at NoAccess entries a.address ≡ e.perm
  perm_first entries e first contains =
      ap (λ es. perm_at NoAccess es a.address) first.split
      ∙ perm_after first.before (e ∷ first.after) first.missed
      ∙ ap (λ t. cond t e.perm (perm_at NoAccess first.after a.address)) (on_first e contains)

-- ---- the law

pub never_cut : (entries : List Entry) (view : View) → Means entries view → IsNeverCut entries view
never_cut entries view means a aligned inside user may e first = from ((means a aligned inside user).1 may)
  where
    from : Allows entries a → ContainsAll e.region a
    from (matched d other contains granted) = subst (λ x. ContainsAll x.region a) (one_match entries a d e other first) contains
    from (unmatched none machine) = absurd (user machine)

pub means_from_bytes :
    (entries : List Entry) (view : View) → ((address : ℕ) → address < 2 ^ 56 → perm_at NoAccess entries address ≡ view (address / 4096))
    → IsNeverCut entries view → Means entries view
means_from_bytes entries view bytes uncut a aligned inside user = (there, back)
  where
    here : perm_at NoAccess entries a.address ≡ view (a.address / 4096)
    here = bytes a.address inside

    there : Allows entries a → holds (view (a.address / 4096)) a.kind ≡ true
    there (matched e first contains granted) =
        ap (λ p. holds p a.kind) (sym here ∙ perm_first a entries e first contains) ∙ ⊎_elim (λ machine. absurd (user machine)) (λ may. may) granted
    there (unmatched none machine) = absurd (user machine)

    back : holds (view (a.address / 4096)) a.kind ≡ true → Allows entries a
    back may =
        ⊎_elim
        (λ none.
        let nothing : view (a.address / 4096) ≡ NoAccess = sym here ∙ perm_none a entries none in
        absurd (both_ways (holds (view (a.address / 4096)) a.kind) (ap (λ p. holds p a.kind) nothing ∙ no_access a.kind) may))
        (λ found.
        let contains = uncut a aligned inside user may found.0 found.1 in
        matched found.0 found.1 contains (inr (ap (λ p. holds p a.kind) (sym (perm_first a entries found.0 found.1 contains) ∙ here) ∙ may)))
        (first_of_all entries a)

pub means_law_proof :
    (entries : List Entry) (view : View)
    → Means entries view ↔ (((address : ℕ) → address < 2 ^ 56 → perm_at NoAccess entries address ≡ view (address / 4096)) × IsNeverCut entries view)
means_law_proof entries view = ((λ means. (byte_law_proof entries view means, never_cut entries view means)), (λ h. means_from_bytes entries view h.0 h.1))
