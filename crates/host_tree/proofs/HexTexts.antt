-- Numbers to the base 16.
use Rattle.std.proofs.Common.{◌≡◌, ℕ, zero, suc, ◌+◌, ◌-◌, ◌/◌, ◌%◌, ◌<◌, ◌≤◌, Bool, true, false, cond, List, [], ◌∷◌, ◌++◌, ap, sym, refl, ◌∙◌, arith}
use Rattle.std.specs.Prelude.{ltb}
use Rattle.std.proofs.lemmas.Bool.{le-ltb, lt-ltb}
use Rattle.host_tree.specs.Ranges.{hex_digit, hex_text, purpose_name, range_name}
use Rattle.host_tree.specs.Written.{IsText}
use Rattle.host_tree.specs.declared.reserved.Purpose.{Purpose}
use Rattle.host_tree.specs.declared.reserved.Purpose.TheVariants.{Monitor, Pool}
use Rattle.host_tree.specs.declared.reserved.Reserved.{Reserved}
use Rattle.host_tree.proofs.Texts.{text_both, text_more}

pub low : (most value : ℕ) → 0 < most → value < 16 → hex_text most value ≡ hex_digit value ∷ []
low zero value h l = absurd (omega (arith, h))
low (suc m) value h l = ap (λ (t : Bool). cond t (hex_digit value ∷ []) (hex_text m (value / 16) ++ hex_digit (value % 16) ∷ [])) (lt-ltb value 16 l)

pub high : (most value : ℕ) → 0 < most → 16 ≤ value → hex_text (most - 1) (value / 16) ++ hex_digit (value % 16) ∷ [] ≡ hex_text most value
high zero value h l = absurd (omega (arith, h))
high (suc m) value h l =
    let e : suc m - 1 ≡ m = omega arith in
    ap (λ (n : ℕ). hex_text n (value / 16) ++ hex_digit (value % 16) ∷ []) e
    ∙ sym (ap (λ (t : Bool). cond t (hex_digit value ∷ []) (hex_text m (value / 16) ++ hex_digit (value % 16) ∷ [])) (le-ltb value 16 l))

-- a digit is a byte that is not zero
digit_some : (value : ℕ) (t : Bool) → 0 < cond t (48 + value) (87 + value)
digit_some value true = omega arith
digit_some value false = omega arith

digit_text : (value : ℕ) → IsText (hex_digit value ∷ [])
digit_text value = text_more (hex_digit value) [] (digit_some value (ltb value 10)) refl

one_of : (t : Bool) (x y : List ℕ) → IsText x → IsText y → IsText (cond t x y)
one_of true x y h k = h
one_of false x y h k = k

hex_is_text : (most value : ℕ) → IsText (hex_text most value)
hex_is_text zero value = refl
hex_is_text (suc m) value = one_of (ltb value 16) (hex_digit value ∷ []) (hex_text m (value / 16) ++ hex_digit (value % 16) ∷ []) (digit_text value)
    (text_both (hex_text m (value / 16)) (hex_digit (value % 16) ∷ []) (hex_is_text m (value / 16)) (digit_text (value % 16)))

purpose_text : (purpose : Purpose) → IsText (purpose_name purpose)
purpose_text Monitor = refl
purpose_text Pool = refl

-- the name of a range's node has no zero
pub range_text : (one : Reserved) → IsText (range_name one)
range_text one = text_both (purpose_name one.purpose) (64 ∷ hex_text 16 one.extent.base) (purpose_text one.purpose)
    (text_more 64 (hex_text 16 one.extent.base) (omega arith) (hex_is_text 16 one.extent.base))
