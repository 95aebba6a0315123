-- A comment behind an answer, told of what stands behind the answer's number.
use Rattle.std.proofs.Common.{◌≡◌, ◌∙◌, ℕ, ◌+◌, ◌-◌, ◌^◌, ◌<◌, ◌≤◌, false, List, [], ◌∷◌, ◌++◌, length, take, map, codes, decimal, suc, zero, refl, sym, ap}
use Rattle.std.proofs.Common.{append_assoc, arith}
use Rattle.std.specs.Prelude.{◌==◌}
use Rattle.std.specs.List.{position_or_len}
use Rattle.std.specs.Int.Digits.{digits_of}
use Rattle.std.proofs.Math.Seq.{take-append-add}
use Rattle.std.proofs.lemmas.Bool.{ne_eqb}
use Rattle.std.proofs.lemmas.Fmt.{decimal_digit, decimal-digits_of}
use Rattle.text_lines.specs.Lines.{unended}
use Rattle.trace_answers.specs.Explained.{explained}

-- the bytes of digits
abbrev bytes_of : List ℕ → List ℕ
bytes_of digits = map (λ d. 48 + d) digits

one_more : (n : ℕ) → 1 + n ≡ suc n
one_more n = omega arith

-- no digit is a LF
behind_digits : (digits text : List ℕ) → unended (bytes_of digits ++ text) ≡ bytes_of digits ++ unended text
behind_digits [] text = refl
behind_digits (d ∷ digits) text =
    let no : (48 + d == 10) ≡ false = ne_eqb (48 + d) 10 (λ e. omega (arith, e)) in
    rw (no, one_more (position_or_len (λ b. b == 10) (bytes_of digits ++ text))) (ap (λ xs. (48 + d) ∷ xs) (behind_digits digits text))

-- the digits of a number
has_digits : (n : ℕ) → n < 2 ^ 64 → (digits : List ℕ) × (decimal n ≡ bytes_of digits)
has_digits zero fits = (0 ∷ [], decimal_digit 0 (omega arith))
has_digits (suc n) fits = (digits_of 10 (suc n), decimal-digits_of (suc n) (omega arith) fits)

behind_number : (n : ℕ) (text : List ℕ) → n < 2 ^ 64 → unended (decimal n ++ text) ≡ decimal n ++ unended text
behind_number n text fits =
    let has = has_digits n fits in
    ap (λ d. unended (d ++ text)) has.1 ∙ behind_digits has.0 text ∙ ap (λ d. d ++ unended text) (sym has.1)

-- a line of 128 bytes with the number has as much less room behind it
pub explained_behind :
    (n : ℕ) (answer comment : List ℕ) → n < 2 ^ 64 → length (decimal n) ≤ 127
    → decimal n ++ (take (127 - length (decimal n)) (unended answer ++ codes " # " ++ comment) ++ codes "\n") ≡ explained (decimal n ++ answer) comment
explained_behind n answer comment fits few =
    let number = decimal n in
    let rest = codes " # " ++ comment in
    let text = unended answer ++ rest in
    let room = 127 - length number in
    let all : length number + room ≡ 127 = omega (arith, few) in
    let whole : unended (number ++ answer) ++ rest ≡ number ++ text = ap (λ l. l ++ rest) (behind_number n answer fits)
    ∙ append_assoc number (unended answer) rest in
    let cut : take 127 (unended (number ++ answer) ++ rest) ≡ number ++ take room text = ap (take 127) whole ∙ ap (λ k. take k (number ++ text)) (sym all)
    ∙ take-append-add number text room in
    ap (λ l. number ++ (take room l ++ codes "\n")) (append_assoc (unended answer) (codes " # ") comment)
    ∙ sym (ap (λ l. l ++ codes "\n") cut ∙ append_assoc number (take room text) (codes "\n"))
