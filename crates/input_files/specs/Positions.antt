-- Positions in the text of a platform file, by line and column.
use Rattle.std.specs.Prelude.{ℕ, ◌+◌, ◌==◌, if◌then◌else◌, List, [], ◌∷◌}

-- the line and the column after some bytes, given those before them. A column counts bytes
abbrev pub position_after : List ℕ → ℕ → ℕ → ℕ × ℕ
position_after [] line column = (line, column)
position_after (byte ∷ bytes) line column = if byte == 10 then position_after bytes (line + 1) 1
    else position_after bytes line (column + 1)
