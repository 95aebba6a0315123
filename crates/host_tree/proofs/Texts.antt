-- Texts, and the zero that ends each.
use Rattle.std.proofs.Common.{
  ◌≡◌,
  ℕ,
  zero,
  suc,
  ◌+◌,
  ◌<◌,
  ◌≤◌,
  List,
  [],
  ◌∷◌,
  ◌++◌,
  length,
  drop,
  take,
  append_assoc,
  length-append,
  length-drop,
  sym,
  ap,
  subst,
  refl,
  ◌∙◌,
  arith,
}
use Rattle.std.specs.Prelude.{Bool, cond, not}
use Rattle.std.proofs.lemmas.Bool.{ne_eqb}
use Rattle.std.proofs.lemmas.List.{drop-append-le, take-append-le}
use Rattle.device_tree.specs.Words.{BeginsWithText, text_len}
use Rattle.host_tree.specs.Written.{IsText}
use Rattle.host_tree.proofs.Numbers.{drop_front, take_front}

one_more : (b : ℕ) (bytes : List ℕ) → text_len (suc b ∷ bytes) ≡ 1 + text_len bytes
one_more b bytes = ap (λ (t : Bool). cond (not t) (1 + text_len bytes) 0) (ne_eqb (suc b) 0 (λ e. omega (arith, e)))

len_before_zero : (text more : List ℕ) → text_len text ≡ length text → text_len (text ++ 0 ∷ more) ≡ length text
len_before_zero [] more h = refl
len_before_zero (zero ∷ bytes) more h = absurd (omega (arith, h))
len_before_zero (suc b ∷ bytes) more h =
    let was = one_more b bytes in
    let now = one_more b (bytes ++ 0 ∷ more) in
    let rest = len_before_zero bytes more (omega (arith, h, was)) in
    omega (arith, rest, now)

-- a text and a zero
pub text_then_zero : (text more : List ℕ) → IsText text → BeginsWithText (text ++ 0 ∷ more) text
text_then_zero text more h =
    let len = len_before_zero text more h in
    let long = length-append text (0 ∷ more) in
    record {
      ended = omega (arith, len, long);
      spelt = sym (ap (λ (n : ℕ). take n (text ++ 0 ∷ more)) len ∙ take_front (length text) text (0 ∷ more) refl);
    }

len_longer : (bytes more : List ℕ) → text_len bytes < length bytes → text_len (bytes ++ more) ≡ text_len bytes
len_longer [] more h = absurd (omega (arith, h))
len_longer (zero ∷ bytes) more h = refl
len_longer (suc b ∷ bytes) more h =
    let was = one_more b bytes in
    let now = one_more b (bytes ++ more) in
    let rest = len_longer bytes more (omega (arith, h, was)) in
    omega (arith, rest, was, now)

-- bytes behind it change nothing
pub text_longer : (bytes more text : List ℕ) → BeginsWithText bytes text → BeginsWithText (bytes ++ more) text
text_longer bytes more text h =
    let len = len_longer bytes more h.ended in
    let long = length-append bytes more in
    record {
      ended = omega (arith, len, long, h.ended);
      spelt = h.spelt ∙ sym (ap (λ (n : ℕ). take n (bytes ++ more)) len ∙ take-append-le (text_len bytes) bytes more (omega (arith, h.ended)));
    }

-- a name at a place stays there
pub name_stays : (names more name : List ℕ) (place : ℕ) → BeginsWithText (drop place names) name → BeginsWithText (drop place (names ++ more)) name
name_stays names more name place h =
    let inside : place ≤ length names = omega (arith, h.ended, length-drop place names) in
    let at = drop-append-le place names more inside in
    rw at (text_longer (drop place names) more name h)

-- and a name behind others is at their end
pub name_added : (names name : List ℕ) → IsText name → BeginsWithText (drop (length names) ((names ++ name) ++ 0 ∷ [])) name
name_added names name h =
    let at = drop_front (length names) names (name ++ 0 ∷ []) refl in
    rw (append_assoc names name (0 ∷ []), at) (text_then_zero name [] h)

-- a byte that is not zero before a text, and texts one behind another
pub text_more : (b : ℕ) (text : List ℕ) → 0 < b → IsText text → IsText (b ∷ text)
text_more zero text some h = absurd (omega (arith, some))
text_more (suc b) text some h = let one = one_more b text in omega (arith, one, h)

pub text_both : (x y : List ℕ) → IsText x → IsText y → IsText (x ++ y)
text_both [] y h k = k
text_both (zero ∷ x) y h k = absurd (omega (arith, h))
text_both (suc b ∷ x) y h k =
    let was = one_more b x in
    text_more (suc b) (x ++ y) (omega arith) (text_both x y (omega (arith, h, was)) k)

-- what is before the first zero
pub text_taken : (bytes : List ℕ) → IsText (take (text_len bytes) bytes)
text_taken [] = refl
text_taken (zero ∷ bytes) = refl
text_taken (suc b ∷ bytes) =
    let one : text_len (suc b ∷ bytes) ≡ suc (text_len bytes) = omega (arith, one_more b bytes) in
    subst (λ (n : ℕ). IsText (take n (suc b ∷ bytes))) (sym one) (text_more (suc b) (take (text_len bytes) bytes) (omega arith) (text_taken bytes))

pub text_read : (bytes text : List ℕ) → BeginsWithText bytes text → IsText text
text_read bytes text h = subst IsText (sym h.spelt) (text_taken bytes)
