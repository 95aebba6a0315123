-- An input is one list of lines at most.
use Rattle.std.proofs.Common.{◌≡◌, inl, inr, ℕ, ◌∙◌, Bool, true, false, not, List, [], ◌∷◌, ◌++◌, refl, ap, ap₂, sym, subst, arith}
use Rattle.std.specs.Prelude.{◌==◌}
use Rattle.std.proofs.lemmas.Bool.{and_parts, both_ways, eqb-true, false≢true}
use Rattle.std.proofs.lemmas.List.Folds.{list_all-append}
use Rattle.text_lines.specs.Lines.{has_no_end, is_lf, begun, raw_lines, EndsLine, AreLines, AreItsLines, OneListOfLines}

-- a line and what follows its LF, from bytes without a LF
same_front : (a b x y : List ℕ) → has_no_end a ≡ true → has_no_end b ≡ true → a ++ 10 ∷ x ≡ b ++ 10 ∷ y → (a ≡ b) × (x ≡ y)
same_front [] [] x y na nb e = (refl, cc)
same_front [] (c ∷ b) x y na nb e =
    let c_is : 10 ≡ c = cc in
    absurd (both_ways (not (c == 10)) (ap (λ n. not (n == 10)) (sym c_is)) (and_parts _ _ nb).0)
same_front (c ∷ a) [] x y na nb e =
    let c_is : c ≡ 10 = cc in
    absurd (both_ways (not (c == 10)) (ap (λ n. not (n == 10)) c_is) (and_parts _ _ na).0)
same_front (c ∷ a) (d ∷ b) x y na nb e =
    let heads : c ≡ d = cc in
    let tails : a ++ 10 ∷ x ≡ b ++ 10 ∷ y = cc in
    let both = same_front a b x y (and_parts _ _ na).1 (and_parts _ _ nb).1 tails in
    (ap₂ ◌∷◌ heads both.0, both.1)

-- a LF is one
has_end : (a x : List ℕ) → has_no_end (a ++ 10 ∷ x) ≡ true → ⊥
has_end a x h = false≢true (and_parts (not (10 == 10)) (has_no_end x) (and_parts _ _ (sym (list_all-append (λ b. not (b == 10)) a (10 ∷ x)) ∙ h)).1).0

no_lines : (lines : List (List ℕ)) → AreLines [] lines → lines ≡ []
no_lines [] h = refl
no_lines (line ∷ lines) h = absurd (no_line line h.1 h.2)
  where
    no_line : (line rest : List ℕ) → EndsLine [] line rest → ⊥
    no_line [] rest (inl e) = cc
    no_line (c ∷ line) rest (inl e) = cc
    no_line [] rest (inr e) = omega (arith, e.0)
    no_line (c ∷ line) rest (inr e) = let n = e.1 in cc

same_line : (input a x b y : List ℕ) → has_no_end a ≡ true → has_no_end b ≡ true → EndsLine input a x → EndsLine input b y → (a ≡ b) × (x ≡ y)
same_line input a x b y na nb (inl e) (inl f) = same_front a b x y na nb (sym e ∙ f)
same_line input a x b y na nb (inl e) (inr f) = absurd (has_end a x (ap has_no_end (sym e ∙ f.1) ∙ nb))
same_line input a x b y na nb (inr e) (inl f) = absurd (has_end b y (ap has_no_end (sym f ∙ e.1) ∙ na))
same_line input a x b y na nb (inr e) (inr f) = (sym e.1 ∙ f.1, e.2 ∙ sym f.2)

pub one_list_of_lines : OneListOfLines
one_list_of_lines input [] others none h = let P : List ℕ → Type 0 = λ xs. AreLines xs others in sym (no_lines others (subst P none h))
one_list_of_lines input (line ∷ lines) [] h none = let P : List ℕ → Type 0 = λ xs. AreLines xs (line ∷ lines) in no_lines (line ∷ lines) (subst P none h)
one_list_of_lines input (line ∷ lines) (other ∷ others) h k =
    let same = same_line input line h.1 other k.1 h.0 k.0 h.2 k.2 in
    let P : List ℕ → Type 0 = λ xs. AreLines xs others in
    ap₂ ◌∷◌ same.0 (one_list_of_lines h.1 lines others h.3 (subst P (sym same.1) k.3))

-- ---- the lines of an input, computed

alone_is : (b : ℕ) → is_lf b ≡ false → has_no_end (b ∷ []) ≡ true
alone_is b h = rw h refl

longer_is : (b : ℕ) (line : List ℕ) → is_lf b ≡ false → has_no_end line ≡ true → has_no_end (b ∷ line) ≡ true
longer_is b line h e = rw h e

-- a byte more at the front of the line that an input begins with
ends_with : (b : ℕ) (bytes line rest : List ℕ) → EndsLine bytes line rest → EndsLine (b ∷ bytes) (b ∷ line) rest
ends_with b bytes line rest (inl e) = inl (ap (λ xs. b ∷ xs) e)
ends_with b bytes line rest (inr e) = inr (omega arith, ap (λ xs. b ∷ xs) e.1, e.2)

-- the lines of a text, one after another
begun_are : (b : ℕ) (bytes : List ℕ) (lines : List (List ℕ)) → is_lf b ≡ false → AreLines bytes lines → AreLines (b ∷ bytes) (begun b lines)
begun_are b bytes [] h a = (alone_is b h, [], inr (omega arith, ap (λ xs. b ∷ xs) a, refl), refl)
begun_are b bytes (line ∷ lines) h a = (longer_is b line h a.0, a.1, ends_with b bytes line a.1 a.2, a.3)

are_by : (b : ℕ) (bytes : List ℕ) (t : Bool) → is_lf b ≡ t → AreLines bytes (raw_lines bytes) → AreLines (b ∷ bytes) (raw_lines (b ∷ bytes))
are_by b bytes true h a = rw h (refl, bytes, inl (ap (λ x. x ∷ bytes) (eqb-true b 10 h)), a)
are_by b bytes false h a = rw h (begun_are b bytes (raw_lines bytes) h a)

pub raw_lines-are : AreItsLines
raw_lines-are [] = refl
raw_lines-are (b ∷ bytes) = are_by b bytes (is_lf b) refl (raw_lines-are bytes)
