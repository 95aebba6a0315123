-- The first zero, as `memchr` tells it.
use Rattle.std.proofs.Common.{◌≡◌, ℕ, List, length, Option, None, Some, sym, arith}
use Rattle.std.specs.Prelude.{◌==◌}
use Rattle.std.specs.Option.{unwrap_or}
use Rattle.std.specs.List.{position_or_len}
use Rattle.std.proofs.lemmas.List.Sums.{position_or_len_is}
use Rattle.std.proofs.lemmas.Bool.{false_from_ne_true}
use Rattle.memchr.specs.Find.{IsFirstByte, is_byte}

pub first_byte : (byte : ℕ) (bytes : List ℕ) (r : Option ℕ) → IsFirstByte (is_byte byte) bytes r
    → unwrap_or r (length bytes) ≡ position_or_len (λ b. b == byte) bytes
first_byte byte bytes None h = sym (position_or_len_is (λ b. b == byte) bytes (length bytes) 0 (omega arith)
    (λ k less. false_from_ne_true _ (h k (omega arith) less)) (λ less. absurd (omega arith)))
first_byte byte bytes (Some i) h = sym (position_or_len_is (λ b. b == byte) bytes i 0 (let less = h.0.high in omega arith)
    (λ k less. false_from_ne_true _ (h.0.before k (omega arith) less)) (λ less. h.1))
