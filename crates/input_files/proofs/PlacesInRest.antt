-- What is searched for in a text, by the lines that are left of it.
use Rattle.std.proofs.Common.{◌≡◌, ℕ, ◌+◌, ◌-◌, ◌<◌, ◌≤◌, List, [], ◌∷◌, length, Option, Some, None, inl, inr, ap, refl, subst, sym, arith}
use Rattle.std.proofs.lemmas.Option.{none-some}
use Rattle.std.specs.Prelude.{option_map}
use Rattle.text_lines.specs.Lines.{raw_lines}
use Rattle.input_files.specs.KeyPlaces.{Finds, Follows, IsSought, front_len}
use Rattle.input_files.specs.declared.key_places.Sought.{Sought}
use Rattle.input_files.specs.declared.key_places.Tables.{Tables}

-- what is found in some bytes is found at a byte of them
some_byte : (sought : Sought) (word : List ℕ) (tables : Tables) (bytes : List ℕ) (at : ℕ) → Finds sought word tables (raw_lines bytes) (Some at)
    → 0 < length bytes
some_byte sought word tables [] at finds = absurd (none-some at (sym finds))
some_byte sought word tables (b ∷ bytes) at finds = omega arith

-- a place after a line, counted from the line and from the text
counted :
    (found : Option ℕ) (text rest line after : ℕ) → rest ≤ text → ((at : ℕ) → found ≡ Some at → rest ≡ line + 1 + after)
    → option_map (λ at. (text - rest) + at) (option_map (λ at. line + 1 + at) found) ≡ option_map (λ at. (text - after) + at) found
counted None text rest line after within whole = refl
counted (Some at) text rest line after within whole =
    let parts : rest ≡ line + 1 + after = whole at refl in
    ap Some (omega (arith, within, parts))

-- what is found in a text is found in its rest, by how far the rest is from its beginning
abbrev pub Continues : Sought → List ℕ → Tables → Tables → List ℕ → List ℕ → Type 0
Continues sought word first tables text rest = (found : Option ℕ) → Finds sought word tables (raw_lines rest) found
    → Finds sought word first (raw_lines text) (option_map (λ at. (length text - length rest) + at) found)

-- after a line that is not it
pub passed :
    (sought : Sought) (word : List ℕ) (first old new : Tables) (text rest line after : List ℕ) → length rest ≤ length text
    → Continues sought word first old text rest → raw_lines rest ≡ line ∷ raw_lines after
    → (0 < length after → length rest ≡ length line + 1 + length after) → Follows line old new → (IsSought sought word new line → ⊥)
    → Continues sought word first new text after
passed sought word first old new text rest line after within continues lines parts follows not found finds =
    let there : Finds sought word old (raw_lines rest) (option_map (λ at. length line + 1 + at) found)
    = subst (λ all. Finds sought word old all (option_map (λ at. length line + 1 + at) found)) (sym lines) (new, follows, inr (not, found, finds, refl)) in
    subst (λ place. Finds sought word first (raw_lines text) place)
    (counted found (length text) (length rest) (length line) (length after) within
    (λ at is. parts (some_byte sought word new after at (subst (λ f. Finds sought word new (raw_lines after) f) is finds))))
    (continues (option_map (λ at. length line + 1 + at) found) there)

-- at the line that is it
pub reached :
    (sought : Sought) (word : List ℕ) (first old new : Tables) (text rest line after : List ℕ) → Continues sought word first old text rest
    → raw_lines rest ≡ line ∷ raw_lines after → Follows line old new → IsSought sought word new line
    → Finds sought word first (raw_lines text) (Some ((length text - length rest) + front_len line))
reached sought word first old new text rest line after continues lines follows is =
    continues (Some (front_len line)) (subst (λ all. Finds sought word old all (Some (front_len line))) (sym lines) (new, follows, inl (is, refl)))

-- where no line is left
pub ended : (sought : Sought) (word : List ℕ) (tables : Tables) (rest : List ℕ) → length rest ≡ 0 → Finds sought word tables (raw_lines rest) None
ended sought word tables [] empty = refl
ended sought word tables (b ∷ bytes) empty = absurd (omega (arith, empty))
