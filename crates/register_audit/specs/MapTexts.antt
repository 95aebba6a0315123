-- The lines of a map.
use Rattle.std.specs.Prelude.{ℕ, ◌*◌, List, [], ◌∷◌, ◌++◌, codes}
use Rattle.pmp_encoding.specs.Perms.{perm_word}
use Rattle.permission_map.specs.declared.runs.Run.{Run}
use Rattle.text_lines.specs.Written.{hex}

-- `0xBASE 0xSIZE PERM`, the line of a range in a map file
abbrev pub run_text : Run → List ℕ
run_text run = codes "0x" ++ hex 16 (4096 * run.first) ++ codes " 0x" ++ hex 16 (4096 * run.count)
    ++ codes " " ++ perm_word run.perm ++ codes "\n"

-- the lines of a map, a range a line
abbrev pub map_text : List Run → List ℕ
map_text [] = []
map_text (run ∷ runs) = run_text run ++ map_text runs
