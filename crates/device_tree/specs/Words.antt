-- Numbers and texts in the bytes of a flattened device tree. Numbers are big-endian.
use Rattle.std.specs.Prelude.{◌≡◌, ℕ, ◌+◌, ◌*◌, ◌/◌, ◌<◌, ◌≤◌, ◌==◌, List, length, take, drop}
use Rattle.std.specs.List.{position_or_len}
use Rattle.byteorder.specs.Endian.{big_number}

-- the number in the four bytes at an offset
abbrev pub word_at : List ℕ → ℕ → ℕ
word_at bytes place = big_number 4 (drop place bytes)

-- the number in the eight bytes at an offset
abbrev pub double_word_at : List ℕ → ℕ → ℕ
double_word_at bytes place = big_number 8 (drop place bytes)

-- the bytes begin with this four-byte number
pub record BeginsWith (bytes : List ℕ) (word : ℕ) : Type 0 where
  pub long : 4 ≤ length bytes
  pub spelt : big_number 4 bytes ≡ word

-- the number of bytes before the first zero
abbrev pub text_len : List ℕ → ℕ
text_len bytes = position_or_len (λ b. b == 0) bytes

-- the bytes begin with the text and a zero, and the text contains no zero
pub record BeginsWithText (bytes text : List ℕ) : Type 0 where
  pub ended : text_len bytes < length bytes
  pub spelt : text ≡ take (text_len bytes) bytes

-- a number rounded up to a multiple of four
abbrev pub padded : ℕ → ℕ
padded n = (n + 3) / 4 * 4

-- the bytes after the first n are `rest`
pub record Leaves (bytes : List ℕ) (n : ℕ) (rest : List ℕ) : Type 0 where
  pub inside : n ≤ length bytes
  pub behind : rest ≡ drop n bytes
