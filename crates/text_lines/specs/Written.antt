-- Hexadecimal numbers in output lines.
use Rattle.std.specs.Prelude.{ℕ, ◌+◌, ◌/◌, ◌%◌, zero, suc, List, [], ◌∷◌, ◌++◌, nat_lt}
use Rattle.std.specs.Prelude.{if◌then◌else◌}

-- a hexadecimal digit, in lower case
abbrev pub hex_digit : ℕ → ℕ
hex_digit value = if nat_lt value 10 then 48 + value else 87 + value

-- the lowest digits of a number, the highest of them first
abbrev pub hex : ℕ → ℕ → List ℕ
hex zero value = []
hex (suc digits) value = hex digits (value / 16) ++ hex_digit (value % 16) ∷ []
