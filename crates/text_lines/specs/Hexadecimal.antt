-- Sixteen bytes as hexadecimal digits.
use Rattle.std.specs.Prelude.{ℕ, ◌+◌, ◌*◌, ◌%◌, ◌==◌, nat_lt, if◌then◌else◌, List, fold}
use Rattle.std.specs.Int.{w64, trailing_zeros}
use Rattle.text_lines.specs.Numbers.{digit_of}

-- the index of the lowest set bit, or sixteen if no bit is set
abbrev pub first_set : ℕ → ℕ
first_set mask = if mask == 0 then 16 else trailing_zeros w64 mask

-- the value of a hexadecimal digit, and the lowest four bits of any other byte
abbrev pub nibble_of : ℕ → ℕ
nibble_of b = if nat_lt (digit_of b) 16 then digit_of b else b % 16

-- the number that bytes spell with these values, the highest first
abbrev pub nibbles_value : List ℕ → ℕ
nibbles_value bytes = fold (λ value b. 16 * value + nibble_of b) 0 bytes
