-- Hexadecimal digits written from the last to the first.
use Rattle.std.proofs.Common.{ℕ, zero, suc, ◌≡◌, ◌∙◌, ◌-◌, ◌/◌, ◌%◌, ◌<◌, ◌≤◌, List, [], ◌∷◌, ◌++◌, length, take, drop, slice_set, ap, sym, refl, append_assoc}
use Rattle.std.proofs.Common.{arith}
use Rattle.text_lines.specs.Written.{hex, hex_digit}

-- a byte put before those that are written
put_before : (text : List ℕ) (n k b : ℕ) → k < n → n ≤ length text → drop k (take n (slice_set text k b)) ≡ b ∷ drop (suc k) (take n text)
put_before [] n k b inside room = absurd (omega (arith, inside, room))
put_before (x ∷ text) zero k b inside room = absurd (omega (arith, inside))
put_before (x ∷ text) (suc n) zero b inside room = refl
put_before (x ∷ text) (suc n) (suc k) b inside room = put_before text n k b (omega (arith, inside)) (omega (arith, room))

pub digit_put : (text whole : List ℕ) (n at left b : ℕ) → 0 < at → at ≤ n → n ≤ length text → b ≡ hex_digit (left % 16)
    → hex at left ++ drop at (take n text) ≡ whole → hex (at - 1) (left / 16) ++ drop (at - 1) (take n (slice_set text (at - 1) b)) ≡ whole
digit_put text whole n zero left b some inside room is done = absurd (omega (arith, some))
digit_put text whole n (suc k) left b some inside room is done =
    let before : suc k - 1 ≡ k = omega arith in
    rw before (ap (λ xs. hex k (left / 16) ++ xs) (put_before text n k b (omega (arith, inside)) room ∙ ap (λ d. d ∷ drop (suc k) (take n text)) is)
    ∙ sym (append_assoc (hex k (left / 16)) (hex_digit (left % 16) ∷ []) (drop (suc k) (take n text))) ∙ done)
