-- The setting of a line of a listing.
use Rattle.std.specs.Prelude.{ℕ, ◌+◌, ◌*◌, ◌%◌, ◌/◌, ◌-◌, ◌^◌, ◌<◌, ◌≤◌, ⊤, Bool, false, not}
use Rattle.std.specs.Prelude.{◌&&◌, ◌||◌, ◌==◌, nat_lt, nat_le, if◌then◌else◌}
use Rattle.std.specs.Prelude.{List, [], ◌∷◌, length, take}
use Rattle.std.specs.Prelude.{drop, Option, Some, None, option_map, codes, bytes_eq}
use Rattle.std.specs.List.{list_all, position_or_len}
use Rattle.std.specs.Option.{option_and_then}
use Rattle.std.specs.Str.{str_eq_ignore_ascii_case}
use Rattle.pmp_encoding.specs.declared.xlen.Xlen.{Xlen}
use Rattle.pmp_encoding.specs.declared.xlen.Xlen.TheVariants.{Rv32, Rv64}
use Rattle.pmp_encoding.specs.Widths.{fits, word_entries, xlen_bits}
use Rattle.text_lines.specs.Bytes.{after_name, begins_with}
use Rattle.text_lines.specs.Words.{words_of}
use Rattle.text_lines.specs.Numbers.{numeral_of, number_of}
use Rattle.text_lines.specs.Lines.{without_return}
use Rattle.register_audit.specs.declared.entry.RegionEntry.{RegionEntry}
use Rattle.register_audit.specs.LogLines.{count_of, log_says}
use Rattle.register_audit.specs.Names.{is_about_pmp, names_hart, unpadded, value_of}
use Rattle.register_audit.specs.declared.setting.Setting.{Setting}
use Rattle.register_audit.specs.declared.setting.Setting.TheVariants as settings

-- the entry numbers of a setting are below 64
abbrev pub IsInside : Xlen → Setting → Type 0
IsInside xlen settings.Nothing = ⊤
IsInside xlen (settings.Count entries) = ⊤
IsInside xlen settings.Other = ⊤
IsInside xlen (settings.Hart number) = ⊤
IsInside xlen settings.Heading = ⊤
IsInside xlen (settings.Limit entries) = ⊤
IsInside xlen (settings.Security value) = ⊤
IsInside xlen (settings.Pair place cfg address) = place < 64
IsInside xlen (settings.Address place value) = place < 64
IsInside xlen (settings.Word place value) = place + word_entries xlen ≤ 64

-- decimal digits begin with a redundant zero
abbrev pub has_leading_zero : List ℕ → Bool
has_leading_zero (first ∷ second ∷ digits) = first == 48
has_leading_zero _ = false

-- the number of a register, without leading zeros
abbrev pub index_of : List ℕ → Option ℕ
index_of digits = if has_leading_zero digits then None else numeral_of 10 digits

-- `pmpaddrN`, N from 0 to 63
abbrev pub address_at : ℕ → ℕ → Option Setting
address_at value place = if nat_lt place 64 then Some (settings.Address place value) else None

-- the setting of an address register by its number and value
abbrev pub address_setting : List ℕ → ℕ → Option Setting
address_setting digits value = option_and_then (address_at value) (index_of digits)

-- `pmpcfgK`, K from 0 to 15 and on RV64 even, since there is a number for each 32 bits: the bytes
-- of the entries from 4 * K on
abbrev pub word_at : Xlen → ℕ → ℕ → Option Setting
word_at xlen value k = if nat_lt k 16 && k % (xlen_bits xlen / 32) == 0
    then Some (settings.Word (4 * k) value) else None

-- the setting of a configuration word by its number and value
abbrev pub word_setting : Xlen → List ℕ → ℕ → Option Setting
word_setting xlen digits value = option_and_then (word_at xlen value) (index_of digits)

-- a letter of ASCII
abbrev pub is_letter : ℕ → Bool
is_letter b = nat_le 65 b && nat_le b 90 || nat_le 97 b && nat_le b 122

-- a word begins with a letter
abbrev pub begins_with_letter : List ℕ → Bool
begins_with_letter [] = false
begins_with_letter (first ∷ rest) = is_letter first

-- a register that is not a PMP register: gdb's `pc` and `priv`, or one whose name does not begin
-- with p, so that a misspelt PMP register is not ignored
abbrev pub is_foreign : List ℕ → Bool
is_foreign name =
    str_eq_ignore_ascii_case name (codes "pc") || str_eq_ignore_ascii_case name (codes "priv")
    || (begins_with_letter name && not (begins_with name (codes "p")))

-- a register that does not affect the meaning of the PMP registers: not one of them, or `mseccfgh`
-- with the value zero
abbrev pub is_harmless : List ℕ → ℕ → Bool
is_harmless name value = not (is_about_pmp name)
    || (value == 0 && str_eq_ignore_ascii_case name (codes "mseccfgh"))

-- another register, which is ignored
abbrev pub is_other : List ℕ → ℕ → Bool
is_other name value = is_foreign name && (not (names_hart name) && is_harmless name value)

-- the setting of a register that is ignored, except that the number in `mhartid` counts
abbrev pub passed_setting : List ℕ → ℕ → Setting
passed_setting name value = if str_eq_ignore_ascii_case name (codes "mhartid")
    then settings.Hart value else settings.Other

-- mseccfg, whose bits change the meaning of the entries, or a register that is ignored
abbrev pub other_setting : List ℕ → ℕ → Option Setting
other_setting name value =
    if str_eq_ignore_ascii_case name (codes "mseccfg") then Some (settings.Security value)
    else if is_other name value then Some (passed_setting name value) else None

-- the setting of a register by its name, split into prefix and digits, and its value
abbrev pub by_digits : Xlen → List ℕ → ℕ → Option (List ℕ) → Option (List ℕ) → Option Setting
by_digits xlen name value (Some digits) cfg = address_setting digits value
by_digits xlen name value None (Some digits) = word_setting xlen digits value
by_digits xlen name value None None = other_setting name value

-- a name without a final colon
abbrev pub without_colon : List ℕ → List ℕ
without_colon name = if bytes_eq (drop (length name - 1) name) (codes ":")
    then take (length name - 1) name else name

-- the setting of a register, whose value must fit in it
abbrev pub plain_setting : Xlen → List ℕ → ℕ → Option Setting
plain_setting xlen name value = if fits xlen value
    then by_digits xlen name value (after_name name (codes "pmpaddr"))
    (after_name name (codes "pmpcfg"))
    else None

-- the setting for a name, which may end in a colon, and a value
abbrev pub register_setting : Xlen → List ℕ → ℕ → Option Setting
register_setting xlen name value = plain_setting xlen (without_colon name) value

-- the index of the sign in `NAME=VALUE`
abbrev pub equals_at : List ℕ → ℕ
equals_at word = position_or_len (λ b. b == 61) word

-- the setting in a single word `NAME=VALUE`
abbrev pub set_by_one : Xlen → List ℕ → Option Setting
set_by_one xlen word =
    if nat_lt (equals_at word) (length word)
    then option_and_then (plain_setting xlen (take (equals_at word) word))
    (value_of (take (equals_at word) word) (drop (equals_at word + 1) word)) else None

-- the setting of a register, or a number of entries
abbrev pub named_setting : Xlen → List ℕ → ℕ → Option Setting
named_setting xlen name value = if bytes_eq name (codes "entries") then Some (settings.Count value)
    else register_setting xlen name value

-- the setting of a pair: an entry number below 64, its configuration byte and its address
abbrev pub pair_setting : Xlen → ℕ → ℕ → ℕ → Option Setting
pair_setting xlen place cfg address = if nat_lt place 64 && (nat_lt cfg 256 && fits xlen address)
    then Some (settings.Pair place cfg address) else None

-- the setting of an entry by the words of its configuration and address
abbrev pub pair_by_words : Xlen → ℕ → List ℕ → List ℕ → Option Setting
pair_by_words xlen place cfg address =
    option_and_then (λ c. option_and_then (pair_setting xlen place c) (unpadded address))
    (unpadded cfg)

-- the width of a register in bits, in OpenOCD's notation
abbrev pub width_sign : Xlen → List ℕ
width_sign Rv32 = codes "(/32):"
width_sign Rv64 = codes "(/64):"

-- a word that separates a name from its value: a sign, or the width of the register
abbrev pub is_between : Xlen → List ℕ → Bool
is_between xlen word = bytes_eq word (codes ":") || bytes_eq word (codes "=")
    || bytes_eq word (width_sign xlen)

-- the value's word: the second, or the third if the second is a separator
abbrev pub value_word : Xlen → List ℕ → List ℕ → List ℕ
value_word xlen second third = if is_between xlen second then third else second

-- there is a number, and it is equal to `value`
abbrev pub is_number : ℕ → Option ℕ → Bool
is_number value None = false
is_number value (Some n) = n == value

-- a column is the value of a register in decimal, as an unsigned or signed number
abbrev pub says_number : Xlen → ℕ → List ℕ → Bool
says_number xlen value [] = false
says_number xlen value (first ∷ rest) = if first == 45
    then is_number (2 ^ xlen_bits xlen - value) (numeral_of 10 rest)
    else is_number value (number_of (first ∷ rest))

-- a column is the same number as the value of a word
abbrev pub says_same : Xlen → Option ℕ → List ℕ → Bool
says_same xlen None column = false
says_same xlen (Some value) column = nat_lt 0 value && says_number xlen value column
    || (value == 0 && is_number 0 (number_of column))

-- the two representations of a PMP register's value agree: OpenOCD prints all digits of its width,
-- and gdb's second column is the first in decimal
abbrev pub agrees_twice : Xlen → List ℕ → List ℕ → List ℕ → Bool
agrees_twice xlen name second third = not (is_about_pmp name)
    || (if bytes_eq second (width_sign xlen) then length third == 2 + xlen_bits xlen / 4
    else (is_between xlen second || says_same xlen (unpadded second) third))

-- a word cannot be the name of another PMP register
abbrev pub is_no_name : List ℕ → Bool
is_no_name word = not (is_about_pmp word)

-- the setting of a register with its value's word
abbrev pub register_by_word : Xlen → List ℕ → List ℕ → Option Setting
register_by_word xlen name word = option_and_then (register_setting xlen name) (value_of name word)

-- the pair of an entry, if a number comes first; otherwise a register and its value, not followed
-- by another name
abbrev pub set_by_three : Xlen → Option ℕ → List ℕ → List ℕ → List ℕ → Option Setting
set_by_three xlen (Some place) first second third = pair_by_words xlen place second third
set_by_three xlen None first second third =
    if is_no_name third && agrees_twice xlen first second third
    then register_by_word xlen first (value_word xlen second third) else None

-- another register with its fields after its value, as gdb prints mstatus; no word after the value
-- is such a name
abbrev pub set_by_many : List ℕ → List ℕ → List (List ℕ) → Option Setting
set_by_many first second rest = if list_all is_no_name rest
    then option_and_then (other_setting (without_colon first)) (number_of second) else None

-- the mark of OpenOCD for a value that was changed but not yet written
abbrev pub is_dirty : List (List ℕ) → Bool
is_dirty (word ∷ []) = bytes_eq word (codes "(dirty)")
is_dirty words = false

-- the setting in these words
abbrev pub set_by_words : Xlen → List (List ℕ) → Option Setting
set_by_words xlen [] = Some settings.Nothing
set_by_words xlen (word ∷ []) = set_by_one xlen word
set_by_words xlen (name ∷ value ∷ []) = option_and_then (named_setting xlen name)
    (value_of name value)
set_by_words xlen (first ∷ second ∷ third ∷ []) =
    set_by_three xlen (number_of first) first second third
set_by_words xlen (first ∷ second ∷ third ∷ rest) =
    if is_dirty rest then set_by_three xlen (number_of first) first second third
    else set_by_many first second (third ∷ rest)

-- a byte of `N)`: a decimal digit, or the parenthesis
abbrev pub is_index_byte : ℕ → Bool
is_index_byte b = (nat_le 48 b && nat_le b 57) || b == 41

-- `(N)`, the number under which OpenOCD lists a register
abbrev pub is_index : List ℕ → Bool
is_index (first ∷ rest) = first == 40 && list_all is_index_byte rest
is_index [] = false

-- words without such a number at the front
abbrev pub without_index : List (List ℕ) → List (List ℕ)
without_index (first ∷ rest) = if is_index first then rest else first ∷ rest
without_index [] = []

-- a replacement for a value: gdb's for a register that is missing or not a number, and OpenOCD's
-- for one that it has not read
abbrev pub has_no_number : List ℕ → Bool
has_no_number word = bytes_eq word (codes "<unavailable>") || begins_with word (codes "{")
    || begins_with word (codes "(/")

-- a heading of OpenOCD, or the name of another register
abbrev pub is_other_name : List ℕ → Bool
is_other_name word = bytes_eq word (codes "=====")
    || (is_foreign (without_colon word) && not (names_hart (without_colon word)))

-- words without a number that are ignored: those of another register, or of a heading, none of
-- which could be about PMP
abbrev pub are_passed : List (List ℕ) → Bool
are_passed (first ∷ second ∷ rest) = list_all is_no_name (first ∷ second ∷ rest)
    && (is_other_name first && (has_no_number second || bytes_eq first (codes "=====")))
are_passed _ = false

-- the heading that OpenOCD prints above the registers of a hart
abbrev pub is_heading : List (List ℕ) → Bool
is_heading (sign ∷ first ∷ second ∷ []) = bytes_eq sign (codes "=====")
    && (bytes_eq first (codes "RISC-V") && bytes_eq second (codes "Registers"))
is_heading _ = false

-- the setting in the words of a line, which may be ignored
abbrev pub set_or_passed : Xlen → List (List ℕ) → Option Setting
set_or_passed xlen words = if is_heading words then Some settings.Heading
    else if are_passed words then Some settings.Other else set_by_words xlen words

-- the setting of a valid line, for a hart with registers of this width
abbrev pub line_sets : Xlen → List ℕ → Option Setting
line_sets xlen line = option_and_then (λ words. set_or_passed xlen (without_index words))
    (words_of line)

-- the setting of a line of at most 1023 bytes, including its CR
abbrev pub raw_sets : Xlen → List ℕ → Option Setting
raw_sets xlen raw = if nat_le (length raw) 1023 then line_sets xlen (without_return raw) else None

-- the number of the hart's entries
abbrev pub limit_setting : List ℕ → Option Setting
limit_setting digits = option_map (λ n. settings.Limit n) (numeral_of 10 digits)

-- the setting of a line of a boot log: the pair of a region, which must have the next number, or
-- nothing
abbrev pub region_setting : ℕ → Option RegionEntry → Option Setting
region_setting next None = Some settings.Nothing
region_setting next (Some entry) = if entry.place == next
    then Some (settings.Pair entry.place entry.cfg entry.address) else None

-- the setting of a line that states the number of the hart's entries, or otherwise of another line
abbrev pub log_sets_by : Option (List ℕ) → Option Setting → Option Setting
log_sets_by None other = other
log_sets_by (Some digits) other = limit_setting digits

-- the setting of a valid line, after `next` regions
abbrev pub log_sets : Xlen → ℕ → List ℕ → Option Setting
log_sets xlen next raw = log_sets_by (count_of raw)
    (option_and_then (region_setting next) (log_says xlen raw))
