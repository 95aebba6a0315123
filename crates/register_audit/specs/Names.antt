-- Recognition of words about PMP, and of names of harts.
use Rattle.std.specs.Prelude.{ℕ, ◌==◌, ◌||◌, ◌&&◌, Bool, false, nat_le, if◌then◌else◌}
use Rattle.std.specs.Prelude.{List, [], ◌∷◌, Option, Some, None, codes}
use Rattle.std.specs.Option.{option_and_then}
use Rattle.std.specs.List.{list_all}
use Rattle.text_lines.specs.Bytes.{after_name, begins_with}
use Rattle.text_lines.specs.Numbers.{number_of}

-- a text contains a name, ignoring case
abbrev pub mentions : List ℕ → List ℕ → Bool
mentions [] name = false
mentions (byte ∷ rest) name = begins_with (byte ∷ rest) name || mentions rest name

-- the numbers of PMP registers: those of pmpcfg0 to pmpaddr63, of mseccfg and of mseccfgh
abbrev pub is_csr_of_pmp : ℕ → Bool
is_csr_of_pmp n = (nat_le 0x3a0 n && nat_le n 0x3ef) || (n == 0x747 || n == 0x757)

-- there is a number, and it is one of those
abbrev pub is_some_csr : Option ℕ → Bool
is_some_csr (Some n) = is_csr_of_pmp n
is_some_csr None = false

-- `csrN`, the debuggers' name for a register whose name they do not know
abbrev pub numbers_csr : List ℕ → Bool
numbers_csr word = is_some_csr (option_and_then number_of (after_name word (codes "csr")))

-- a word that contains part of the name of a PMP register, of which a letter may be lost or changed
abbrev pub resembles_pmp : List ℕ → Bool
resembles_pmp word = (mentions word (codes "mpaddr") || mentions word (codes "mpcfg"))
    || (mentions word (codes "msec") || mentions word (codes "ccfg"))

-- a word that could be about PMP
abbrev pub is_about_pmp : List ℕ → Bool
is_about_pmp word = mentions word (codes "pmp") || (resembles_pmp word || numbers_csr word)

-- a decimal digit
abbrev pub is_digit : ℕ → Bool
is_digit b = nat_le 48 b && nat_le b 57

-- there is a text, and all its bytes are decimal digits
abbrev pub are_digits : Option (List ℕ) → Bool
are_digits None = false
are_digits (Some digits) = list_all is_digit digits

-- a word that names a hart, with its number at the end or in the next word: later lines are about
-- another hart
abbrev pub names_hart : List ℕ → Bool
names_hart word = (are_digits (after_name word (codes "hart"))
    || are_digits (after_name word (codes "thread")))
    || (are_digits (after_name word (codes "cpu")) || are_digits (after_name word (codes "core")))

-- a decimal number of two or more digits with a leading zero, which could be hexadecimal
abbrev pub is_padded : List ℕ → Bool
is_padded (first ∷ second ∷ rest) = first == 48 && (nat_le 48 second && nat_le second 57)
is_padded _ = false

-- the value of a number, unless it is padded in this way
abbrev pub unpadded : List ℕ → Option ℕ
unpadded word = if is_padded word then None else number_of word

-- the value of a word for a register with this name
abbrev pub value_of : List ℕ → List ℕ → Option ℕ
value_of name word = if is_about_pmp name then unpadded word else number_of word
