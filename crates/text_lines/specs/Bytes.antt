-- Comparisons of a word with a text.
use Rattle.std.specs.Prelude.{ℕ, ◌==◌, ◌&&◌, Bool, false, nat_le, if◌then◌else◌, List, ◌∷◌, length}
use Rattle.std.specs.Prelude.{take, drop, Option, Some, None, bytes_eq}
use Rattle.std.specs.Str.{str_eq_ignore_ascii_case}

-- the rest of a word that begins with a text
abbrev pub after_text : List ℕ → List ℕ → Option (List ℕ)
after_text word text =
    if nat_le (length text) (length word) && bytes_eq (take (length text) word) text
    then Some (drop (length text) word) else None

-- a word begins with a name, in upper or lower case
abbrev pub begins_with : List ℕ → List ℕ → Bool
begins_with word name = nat_le (length name) (length word)
    && str_eq_ignore_ascii_case (take (length name) word) name

-- the rest of a word that begins with a name, in upper or lower case
abbrev pub after_name : List ℕ → List ℕ → Option (List ℕ)
after_name word name = if begins_with word name then Some (drop (length name) word) else None

-- the text begins with the three bytes of a byte order mark
abbrev pub has_mark : List ℕ → Bool
has_mark (first ∷ second ∷ third ∷ rest) = first == 239 && (second == 187 && third == 191)
has_mark _ = false
