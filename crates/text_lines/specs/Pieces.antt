-- Numbers as they are displayed.
use Rattle.std.specs.Prelude.{ℕ, ◌==◌, if◌then◌else◌, List, [], ◌∷◌, ◌++◌, codes}
use Rattle.text_lines.specs.Written.{hex}

-- digits without leading zeros, except that the last digit is kept
abbrev pub without_zeros : List ℕ → List ℕ
without_zeros [] = []
without_zeros (digit ∷ []) = digit ∷ []
without_zeros (digit ∷ next ∷ digits) = if digit == 48 then without_zeros (next ∷ digits) else digit
    ∷ next ∷ digits

-- a number in the form `0x1000`
unfoldable pub address_text : ℕ → List ℕ
address_text n = codes "0x" ++ without_zeros (hex 16 n)
