-- The meaning of the lines of OpenSBI's boot log.
use Rattle.std.specs.Prelude.{ℕ, ◌+◌, ◌==◌, ◌&&◌, ◌||◌, Bool, false, not, nat_le, nat_lt}
use Rattle.std.specs.Prelude.{if◌then◌else◌}
use Rattle.std.specs.Prelude.{List, [], ◌∷◌, length, take, drop, Option, Some, None, option_map}
use Rattle.std.specs.Prelude.{codes, bytes_eq}
use Rattle.std.specs.List.{list_all, position_or_len}
use Rattle.std.specs.Option.{is_some, option_and_then, unwrap_or}
use Rattle.pmp_encoding.specs.declared.perm.Perm.{Perm}
use Rattle.pmp_encoding.specs.declared.xlen.Xlen.{Xlen}
use Rattle.pmp_encoding.specs.declared.xlen.Xlen.TheVariants.{Rv32, Rv64}
use Rattle.text_lines.specs.Bytes.{after_text, begins_with}
use Rattle.text_lines.specs.Words.{words_of}
use Rattle.text_lines.specs.Numbers.{numeral_of, number_of}
use Rattle.text_lines.specs.Lines.{raw_lines, without_return}
use Rattle.register_audit.specs.declared.entry.RegionEntry.{RegionEntry}
use Rattle.register_audit.specs.Blocks.{address_by, block_from, cfg_by}
use Rattle.register_audit.specs.Letters.{perm_of}
use Rattle.register_audit.specs.Names.{mentions}

-- a byte of a time: a digit, or one of ( ) + , - . / : [ ]
abbrev pub is_of_time : ℕ → Bool
is_of_time b = (nat_le 40 b && nat_le b 58 && not (b == 42)) || (b == 91 || b == 93)

-- a word of the time that a terminal program or a kernel writes before a line
abbrev pub is_time : List ℕ → Bool
is_time word = list_all is_of_time word

-- words without the words of a time at the front
abbrev pub without_times : List (List ℕ) → List (List ℕ)
without_times [] = []
without_times (word ∷ words) = if is_time word then without_times words else word ∷ words

-- the words of a line after its time, or none if a byte outside its comment is invalid
abbrev pub words_in : List ℕ → List (List ℕ)
words_in raw = without_times (unwrap_or (words_of (without_return raw)) [])

-- words about a region of the first domain: `Domain0`, and a word that begins with `Region`
abbrev pub is_region : List (List ℕ) → Bool
is_region (domain ∷ region ∷ rest) = bytes_eq domain (codes "Domain0")
    && is_some (after_text region (codes "Region"))
is_region _ = false

-- a line about a region of the first domain
abbrev pub is_region_line : List ℕ → Bool
is_region_line raw = is_region (words_in raw)

-- words about a PMP register: the first begins with `pmp` or `mseccfg`, ignoring case
abbrev pub is_register : List (List ℕ) → Bool
is_register [] = false
is_register (name ∷ rest) = begins_with name (codes "pmp") || begins_with name (codes "mseccfg")

-- the number of a domain other than the first
abbrev pub is_later : Option ℕ → Bool
is_later (Some n) = not (n == 0)
is_later None = false

-- words about a region of another domain
abbrev pub is_other_region : List (List ℕ) → Bool
is_other_region (domain ∷ region ∷ rest) =
    is_later (option_and_then (numeral_of 10) (after_text domain (codes "Domain")))
    && is_some (after_text region (codes "Region"))
is_other_region _ = false

-- a line that could be about a region, because it contains two features of such a line
abbrev pub resembles_region : List ℕ → Bool
resembles_region raw = (mentions raw (codes "Domain") && mentions raw (codes "Region"))
    || ((mentions raw (codes "Domain") || mentions raw (codes "Region"))
    && mentions raw (codes "-0x"))

-- the number of the hart's entries, if the words state it
abbrev pub count_in : List (List ℕ) → Option (List ℕ)
count_in (boot ∷ hart ∷ pmp ∷ count ∷ colon ∷ number ∷ rest) =
    if bytes_eq pmp (codes "PMP") && bytes_eq count (codes "Count") then Some number else None
count_in _ = None

-- the number of the hart's entries, if the line states it
abbrev pub count_of : List ℕ → Option (List ℕ)
count_of raw = count_in (words_in raw)

-- words about the boot hart
abbrev pub is_of_hart : List (List ℕ) → Bool
is_of_hart (boot ∷ hart ∷ rest) = bytes_eq boot (codes "Boot") && bytes_eq hart (codes "HART")
is_of_hart _ = false

-- words about a domain, beginning with `DomainN`
abbrev pub is_of_domain : List (List ℕ) → Bool
is_of_domain (domain ∷ rest) =
    is_some (option_and_then (numeral_of 10) (after_text domain (codes "Domain")))
is_of_domain _ = false

-- a line that could name the domain of the boot hart: it contains two of the three words, and part
-- of the third
abbrev pub resembles_hart : List ℕ → Bool
resembles_hart raw = (mentions raw (codes "Domain")
    && (mentions raw (codes "Boot") || mentions raw (codes "HART")))
    || ((mentions raw (codes "Boot") && mentions raw (codes "HART"))
    && (mentions raw (codes "Dom") || mentions raw (codes "ain")))

-- a line that resembles one about a region or the boot hart but is not one, because it was damaged
abbrev pub is_damaged : List ℕ → Bool
is_damaged raw = (resembles_region raw
    && not (is_region (words_in raw) || is_other_region (words_in raw)))
    || (resembles_hart raw && not (is_of_hart (words_in raw) || is_of_domain (words_in raw)))

-- words that name the first domain
abbrev pub is_root : List (List ℕ) → Bool
is_root (colon ∷ name ∷ []) = bytes_eq colon (codes ":") && bytes_eq name (codes "root")
is_root _ = false

-- a word that is `Domain`, possibly with a letter lost or changed
abbrev pub resembles_domain : List ℕ → Bool
resembles_domain word = mentions word (codes "Dom") || mentions word (codes "ain")

-- words about the boot hart that mention its domain, but do not name the first one
abbrev pub is_elsewhere : List (List ℕ) → Bool
is_elsewhere (boot ∷ hart ∷ domain ∷ rest) = resembles_domain domain
    && not (bytes_eq domain (codes "Domain") && is_root rest)
is_elsewhere _ = false

-- a word names the instruction set of the other width
abbrev pub is_other_width : Xlen → List ℕ → Bool
is_other_width Rv32 word = begins_with word (codes "rv64")
is_other_width Rv64 word = begins_with word (codes "rv32")

-- words that state that the boot hart cannot have these registers: it is in another domain, or has
-- another width
abbrev pub is_another_hart : Xlen → List (List ℕ) → Bool
is_another_hart xlen words = is_of_hart words
    && (is_elsewhere words || not (list_all (λ word. not (is_other_width xlen word)) words))

-- the number of a region, from `RegionNN`
abbrev pub number_in : List ℕ → Option ℕ
number_in region = option_and_then (numeral_of 10) (after_text region (codes "Region"))

-- the number of bytes before the dash of `FIRST-LAST`
abbrev pub dash_at : List ℕ → ℕ
dash_at word = position_or_len (λ b. b == 45) word

-- the block from a first to a last address, if both are numbers
abbrev pub block_by : Xlen → Option ℕ → Option ℕ → Option (ℕ × ℕ)
block_by xlen first last = option_and_then (λ f. option_and_then (block_from xlen f) last) first

-- an address that is padded with zeros to eight digits, as on RV32, for a hart of RV64
abbrev pub is_narrow : Xlen → List ℕ → Bool
is_narrow Rv32 word = false
is_narrow Rv64 word = length word == 10 && is_some (after_text word (codes "0x0"))

-- a block that a hart of this width can print
abbrev pub is_of_width : Xlen → List ℕ → Bool
is_of_width xlen word = nat_lt (dash_at word) (length word)
    && not (is_narrow xlen (take (dash_at word) word))

-- the block that `FIRST-LAST` names
abbrev pub block_in : Xlen → List ℕ → Option (ℕ × ℕ)
block_in xlen word = if is_of_width xlen word
    then block_by xlen (number_of (take (dash_at word) word))
    (number_of (drop (dash_at word + 1) word)) else None

-- the letters of supervisor and user mode: the one word up to OpenSBI 1.1, or the word after
-- `S/U:`
abbrev pub letters_in : List (List ℕ) → Option (List ℕ)
letters_in (letters ∷ []) = Some letters
letters_in (machine ∷ its ∷ user ∷ letters ∷ []) = if bytes_eq machine (codes "M:")
    && bytes_eq user (codes "S/U:") then Some letters else None
letters_in _ = None

-- the pair of a block and a permission, at the place of one of 64 entries
abbrev pub entry_at : ℕ → Perm → ℕ × ℕ → Option RegionEntry
entry_at place perm block = if nat_lt place 64
    then Some (record {
      place = place;
      cfg = cfg_by block.1 perm;
      address = address_by block.0 block.1;
    }) else None

-- the entry with a number, a block and a permission, if all three are valid
abbrev pub entry_by : Option ℕ → Option (ℕ × ℕ) → Option Perm → Option RegionEntry
entry_by place block perm = option_and_then
    (λ n. option_and_then (λ b. option_and_then (λ p. entry_at n p b) perm) block) place

-- the entry in the words of such a line: `Domain0 RegionNN : FIRST-LAST (LETTERS)`, or with `M:
-- (LETTERS) S/U: (LETTERS)`
abbrev pub entry_in : Xlen → List (List ℕ) → Option RegionEntry
entry_in xlen (domain ∷ region ∷ colon ∷ block ∷ rest) =
    if bytes_eq colon (codes ":") then entry_by (number_in region) (block_in xlen block)
    (option_and_then perm_of (letters_in rest)) else None
entry_in xlen _ = None

-- the meaning of words: the entry of a region, or nothing; words about a register or another hart
-- are invalid
abbrev pub said_by : Xlen → List (List ℕ) → Option (Option RegionEntry)
said_by xlen words = if is_region words then option_map (λ e. Some e) (entry_in xlen words)
    else if is_register words || is_another_hart xlen words then None
    else Some None

-- the meaning of a valid line of a log, for a hart of this width
abbrev pub log_says : Xlen → List ℕ → Option (Option RegionEntry)
log_says xlen raw = if is_damaged raw then None else said_by xlen (words_in raw)

-- a text is a boot log if some line is about a region
abbrev pub is_boot_log : List ℕ → Bool
is_boot_log bytes = not (list_all (λ raw. not (is_region_line raw)) (raw_lines bytes))
