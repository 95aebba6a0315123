-- The letters of a region, such as `(R,W)`.
use Rattle.std.specs.Prelude.{ℕ, ◌-◌, ◌==◌, ◌||◌, ◌&&◌, Bool, true, false, nat_lt}
use Rattle.std.specs.Prelude.{if◌then◌else◌, List, [], ◌∷◌, length, take, drop, Option, Some, None}
use Rattle.std.specs.Prelude.{codes, bytes_eq}
use Rattle.std.specs.List.{position_or_len}
use Rattle.std.specs.Option.{option_and_then}
use Rattle.text_lines.specs.Bytes.{after_text}
use Rattle.pmp_encoding.specs.declared.perm.Perm.{Perm}
use Rattle.pmp_encoding.specs.declared.perm.Perm.TheVariants.{NoAccess, Read, ReadWrite, Execute}
use Rattle.pmp_encoding.specs.declared.perm.Perm.TheVariants.{ReadExecute, ReadWriteExecute}

-- the text before a final closing parenthesis
abbrev pub before_end : List ℕ → Option (List ℕ)
before_end text = if bytes_eq (drop (length text - 1) text) (codes ")")
    then Some (take (length text - 1) text) else None

-- F for firmware, I for a device, M for machine mode too, and R, W and X
abbrev pub is_letter : ℕ → Bool
is_letter b = b == 70 || (b == 73 || (b == 77 || (b == 82 || (b == 87 || b == 88))))

-- letters separated by commas, or none
abbrev pub are_letters : List ℕ → Bool
are_letters [] = true
are_letters (letter ∷ []) = is_letter letter
are_letters (letter ∷ comma ∷ []) = false
are_letters (letter ∷ comma ∷ next ∷ rest) = is_letter letter
    && (comma == 44 && are_letters (next ∷ rest))

-- a text that consists of such letters
abbrev pub of_letters : List ℕ → Option (List ℕ)
of_letters text = if are_letters text then Some text else None

-- the letters in parentheses
abbrev pub letters_of : List ℕ → Option (List ℕ)
letters_of word = option_and_then of_letters
    (option_and_then before_end (after_text word (codes "(")))

-- the letter is among the letters
abbrev pub has_letter : ℕ → List ℕ → Bool
has_letter letter letters = nat_lt (position_or_len (λ b. b == letter) letters) (length letters)

-- the permission with these accesses; W without R is reserved
abbrev pub perm_by : Bool → Bool → Bool → Option Perm
perm_by false false false = Some NoAccess
perm_by true false false = Some Read
perm_by true true false = Some ReadWrite
perm_by false false true = Some Execute
perm_by true false true = Some ReadExecute
perm_by true true true = Some ReadWriteExecute
perm_by false true x = None

-- the permission of letters
abbrev pub perm_by_letters : List ℕ → Option Perm
perm_by_letters letters = perm_by (has_letter 82 letters) (has_letter 87 letters)
    (has_letter 88 letters)

-- the permission of a word of letters
abbrev pub perm_of : List ℕ → Option Perm
perm_of word = option_and_then perm_by_letters (letters_of word)
