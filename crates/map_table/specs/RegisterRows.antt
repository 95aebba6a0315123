-- Rows of a text, one after another.
use Rattle.std.specs.Prelude.{ℕ, ◌+◌, zero, suc, List, [], ◌++◌}

-- `count` rows, from row i on
abbrev pub rows_text : (ℕ → List ℕ) → ℕ → ℕ → List ℕ
rows_text row i zero = []
rows_text row i (suc count) = row i ++ rows_text row (i + 1) count
