-- A numbered text, in two arrays.
use Rattle.std.specs.Prelude.{ℕ, List, ◌∷◌, ◌++◌, take}
use Rattle.text_lines.specs.declared.line_sink.Numbered.{Numbered}

-- the first digits of the number, its last one, and the text
abbrev pub numbered_text : Numbered → List ℕ
numbered_text text = take text.front_len text.front.now ++ text.last
    ∷ take text.text_len text.text.now
