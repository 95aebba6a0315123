-- The result of reading a listing.
use Rattle.std.specs.Prelude.{◌≡◌, if◌then◌else◌, ℕ, zero, suc, ◌+◌, ◌/◌, ◌%◌, List, [], ◌∷◌, ◌++◌}
use Rattle.std.specs.Prelude.{length, replicate, slice_set, Option, Some, None, Bool, true, false}
use Rattle.std.specs.Prelude.{◌==◌, ◌&&◌, ◌||◌, nat_lt, nat_le, not}
use Rattle.std.specs.Option.{option_and_then}
use Rattle.pmp_encoding.specs.declared.xlen.Xlen.{Xlen}
use Rattle.pmp_encoding.specs.Widths.{word_entries}
use Rattle.pmp_match.specs.declared.registers.Registers.{Registers}
use Rattle.pmp_match.specs.Smepmp.{security_of}
use Rattle.register_audit.specs.declared.listing.Listing.{Listing}
use Rattle.register_audit.specs.declared.setting.Setting.{Setting}
use Rattle.register_audit.specs.declared.setting.Setting.TheVariants as settings
use Rattle.text_lines.specs.Lines.{raw_lines}
use Rattle.register_audit.specs.LogLines.{is_boot_log}
use Rattle.register_audit.specs.Lines.{log_sets, raw_sets}

-- registers of this width that are all zero, and no ignored line
abbrev pub nothing_set : Xlen → Listing
nothing_set xlen = record {
  registers =
      record {
        xlen = xlen;
        security = security_of 0;
        cfgs = replicate 64 0;
        addresses = replicate 64 0;
      };
  mseccfg = 0;
  passed = None;
  entries = None;
  pairs = 0;
  last = None;
  hart = None;
  is_headed = false;
  limit = None;
  is_set = false;
}

-- a list of bytes in which `count` bytes of a number are stored from an index on, the lowest first
abbrev pub set_bytes : ℕ → ℕ → ℕ → List ℕ → List ℕ
set_bytes place zero value bytes = bytes
set_bytes place (suc count) value bytes =
    set_bytes (place + 1) count (value / 256) (slice_set bytes place (value % 256))

-- the PMP registers after a setting: a configuration word sets a byte for each of its entries, and
-- of mseccfg the bits that change the entries' permissions are kept
abbrev pub registers_by : Registers → Setting → Registers
registers_by registers (settings.Pair place cfg address) =
    record {
      xlen = registers.xlen;
      security = registers.security;
      cfgs = slice_set registers.cfgs place cfg;
      addresses = slice_set registers.addresses place address;
    }
registers_by registers (settings.Address place value) =
    record {
      xlen = registers.xlen;
      security = registers.security;
      cfgs = registers.cfgs;
      addresses = slice_set registers.addresses place value;
    }
registers_by registers (settings.Word place value) =
    record {
      xlen = registers.xlen;
      security = registers.security;
      cfgs =
          set_bytes place (word_entries registers.xlen) value registers.cfgs;
      addresses = registers.addresses;
    }
registers_by registers (settings.Security value) =
    record {
      xlen = registers.xlen;
      security = security_of value;
      cfgs = registers.cfgs;
      addresses = registers.addresses;
    }
registers_by registers setting = registers

-- the first ignored line, given that line n is ignored
abbrev pub first_of : Option ℕ → ℕ → Option ℕ
first_of (Some first) n = Some first
first_of None n = Some n

-- `mseccfg` after a setting
abbrev pub security_by : ℕ → Setting → ℕ
security_by mseccfg (settings.Security value) = value
security_by mseccfg setting = mseccfg

-- the first ignored line after the setting of line n
abbrev pub passed_by : Option ℕ → ℕ → Setting → Option ℕ
passed_by passed n settings.Other = first_of passed n
passed_by passed n (settings.Hart number) = first_of passed n
passed_by passed n settings.Heading = first_of passed n
passed_by passed n setting = passed

-- the stated number of pairs
abbrev pub count_by : Option ℕ → Setting → Option ℕ
count_by entries (settings.Count n) = Some n
count_by entries setting = entries

-- the number of lines that set the pair of an entry
abbrev pub pairs_by : ℕ → Setting → ℕ
pairs_by pairs (settings.Pair place cfg address) = pairs + 1
pairs_by pairs setting = pairs

-- a setting is about PMP
abbrev pub is_of_pmp : Setting → Bool
is_of_pmp settings.Nothing = false
is_of_pmp settings.Other = false
is_of_pmp (settings.Hart number) = false
is_of_pmp settings.Heading = false
is_of_pmp (settings.Limit entries) = false
is_of_pmp setting = true

-- the entry of the last pair after a setting
abbrev pub last_by : Option ℕ → Setting → Option ℕ
last_by last (settings.Pair place cfg address) = Some place
last_by last setting = last

-- the hart's number after a setting
abbrev pub hart_by : Option ℕ → Setting → Option ℕ
hart_by hart (settings.Hart number) = Some number
hart_by hart setting = hart

-- OpenOCD's heading was read, after a setting
abbrev pub headed_by : Bool → Setting → Bool
headed_by headed settings.Heading = true
headed_by headed setting = headed

-- the number of the hart's entries after a setting
abbrev pub limit_by : Option ℕ → Setting → Option ℕ
limit_by limit (settings.Limit n) = Some n
limit_by limit setting = limit

-- an entry is the first or the next of a counted list, or the list is not counted
abbrev pub is_next : Option ℕ → Option ℕ → ℕ → Bool
is_next None last place = true
is_next (Some n) None place = true
is_next (Some n) (Some last) place = place == last + 1

-- a hart with this number of entries has the entry
abbrev pub is_within : Option ℕ → ℕ → Bool
is_within None place = true
is_within (Some n) place = nat_lt place n

-- no other hart was named before
abbrev pub is_same_hart : Option ℕ → ℕ → Bool
is_same_hart None number = true
is_same_hart (Some first) number = first == number

-- a setting agrees with the lines before it: a number of pairs comes before them, the entries of a
-- counted list are consecutive, a log has no more regions than the hart has entries, and all lines
-- are about one hart
abbrev pub agrees : Listing → Setting → Bool
agrees listing (settings.Count n) = listing.pairs == 0
agrees listing (settings.Pair place cfg address) = is_next listing.entries listing.last place
    && is_within listing.limit place
agrees listing (settings.Hart number) = is_same_hart listing.hart number
agrees listing settings.Heading = not listing.is_headed
agrees listing (settings.Limit n) = nat_lt 0 n && nat_le listing.pairs n
agrees listing setting = true

-- a setting, if it agrees with the lines before it
abbrev pub agreed : Listing → Setting → Option Setting
agreed listing setting = if agrees listing setting then Some setting else None

-- the listing after the setting of line n
abbrev pub set_by : Listing → ℕ → Setting → Listing
set_by listing n setting = record {
  registers = registers_by listing.registers setting;
  mseccfg = security_by listing.mseccfg setting;
  passed = passed_by listing.passed n setting;
  entries = count_by listing.entries setting;
  pairs = pairs_by listing.pairs setting;
  last = last_by listing.last setting;
  hart = hart_by listing.hart setting;
  is_headed = headed_by listing.is_headed setting;
  limit = limit_by listing.limit setting;
  is_set = listing.is_set || is_of_pmp setting;
}

-- the listing after lines from number n on, each of which is valid after those before it
abbrev pub set_by_lines : (Listing → List ℕ → Option Setting) → Listing → ℕ → List (List ℕ)
    → Option Listing
set_by_lines sets listing n [] = Some listing
set_by_lines sets listing n (raw ∷ raws) =
    option_and_then (λ setting. set_by_lines sets (set_by listing n setting) (n + 1) raws)
    (sets listing raw)

-- the result of reading the lines of a text, if all are valid
abbrev pub listed_by : Xlen → (Listing → List ℕ → Option Setting) → List ℕ → Option Listing
listed_by xlen sets bytes = set_by_lines sets (nothing_set xlen) 1 (raw_lines bytes)

-- line n of a text is invalid, and those before it are valid
pub record IsFirstUnknownBy (xlen : Xlen) (sets : Listing → List ℕ
    → Option Setting) (bytes : List ℕ) (n : ℕ) : Type 0 where
  pub before : List (List ℕ)
  pub raw : List ℕ
  pub rest : List (List ℕ)
  pub are_lines : raw_lines bytes ≡ before ++ raw ∷ rest
  pub number : length before + 1 ≡ n
  pub listing : Listing
  pub understood : set_by_lines sets (nothing_set xlen) 1 before ≡ Some listing
  pub unknown : sets listing raw ≡ None

-- the setting of a line of registers, if it agrees with the lines before it
abbrev pub sets_alone : Xlen → Listing → List ℕ → Option Setting
sets_alone xlen listing raw = option_and_then (agreed listing) (raw_sets xlen raw)

-- the setting of a line of a boot log: a region sets the entry with its number, which must be the
-- next one
abbrev pub sets_next : Xlen → Listing → List ℕ → Option Setting
sets_next xlen listing raw = option_and_then (agreed listing) (log_sets xlen listing.pairs raw)

-- the setting of a line, as a line of a boot log or of registers
abbrev pub sets_in : Xlen → List ℕ → Listing → List ℕ → Option Setting
sets_in xlen bytes = if is_boot_log bytes then sets_next xlen else sets_alone xlen

-- the number of pairs is the stated one
abbrev pub has_all : Option ℕ → ℕ → Bool
has_all None pairs = true
has_all (Some n) pairs = pairs == n

-- a listing is complete: some line is about PMP, and the number of pairs is the stated one
abbrev pub is_whole : Listing → Bool
is_whole listing = listing.is_set && has_all listing.entries listing.pairs

-- a listing if it is complete, otherwise `None`
abbrev pub whole : Listing → Option Listing
whole listing = if is_whole listing then Some listing else None

-- the result of reading a listing of registers with this width, if all lines are valid and it is
-- complete
abbrev pub listed : Xlen → List ℕ → Option Listing
listed xlen bytes = option_and_then whole (listed_by xlen (sets_in xlen bytes) bytes)

-- line n of such a listing is the first invalid one; or all lines are valid, but the incomplete
-- listing ends before line n
pub data IsFirstUnknown (xlen : Xlen) (bytes : List ℕ) (n : ℕ) : Type 0 where
  line : IsFirstUnknownBy xlen (sets_in xlen bytes) bytes n → IsFirstUnknown xlen bytes n
  end : (leaves : Listing) → listed_by xlen (sets_in xlen bytes) bytes ≡ Some leaves
      → is_whole leaves ≡ false → length (raw_lines bytes) + 1 ≡ n → IsFirstUnknown xlen bytes n
