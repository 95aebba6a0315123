-- Human-readable entries.
use Rattle.std.specs.Prelude.{ℕ, ◌-◌, ◌^◌, ◌++◌, nat_lt, if◌then◌else◌, List, []}
use Rattle.std.specs.Prelude.{Option, Some, None, codes, decimal}
use Rattle.pmp_encoding.specs.declared.region.Entry.{Entry}
use Rattle.pmp_encoding.specs.declared.perm.Perm.{Perm}
use Rattle.text_lines.specs.Written.{hex}
use Rattle.pmp_encoding.specs.Perms.{perm_word}
use Rattle.map_text.specs.declared.listed_entry.ChainedEntry.{ChainedEntry}
use Rattle.map_text.specs.declared.listed_entry.ChainedEntry.TheVariants.{Block, Off, Tor}
use Rattle.map_text.specs.ListedEntries.{address_in}
use Rattle.map_text.specs.PrintedFields.{size_text}

-- an address in hexadecimal
abbrev pub address_text : ℕ → List ℕ
address_text address = codes "0x" ++ hex 16 address

-- the size and the permission of an entry
abbrev pub size_and_perm_text : Entry → List ℕ
size_and_perm_text e = size_text (2 ^ e.region.log2) ++ codes ", " ++ perm_word e.perm

-- the start, the size and the permission of an entry: `0x0000000080000000, 2 MiB, none`
abbrev pub region_text : Entry → List ℕ
region_text e = address_text e.region.base ++ codes ", " ++ size_and_perm_text e

-- the address at which a chain begins: `the chain begins at 0x0000000040000000`
abbrev pub begin_text : ℕ → List ℕ
begin_text begin = codes "the chain begins at " ++ address_text begin

-- the first and the last address of a range, and its permission: `0x0000000040000000 to
-- 0x000000004fffffff, rw`
abbrev pub range_text : ℕ → ℕ → Perm → List ℕ
range_text begin end perm = address_text begin ++ codes " to " ++ address_text (end - 1)
    ++ codes ", " ++ perm_word perm

-- the addresses that an entry matches, and their permission
abbrev pub entry_note : ChainedEntry → List ℕ
entry_note (Block e) = region_text e
entry_note (Off begin) = begin_text begin
entry_note (Tor begin end perm) = range_text begin end perm

-- the note on an entry, or `off` if the entry is missing
abbrev pub entry_or_off : Option ChainedEntry → List ℕ
entry_or_off (Some e) = entry_note e
entry_or_off None = codes "off"

-- the note beside the registers of entry i
abbrev pub note_text : ℕ → Option ChainedEntry → List ℕ
note_text i entry = decimal i ++ codes ": " ++ entry_or_off entry

-- the note for entry i of a hart, where those below the first are unchanged
abbrev pub place_text : ℕ → ℕ → Option ChainedEntry → List ℕ
place_text first i entry = if nat_lt i first then decimal i ++ codes ": left as it is"
    else note_text i entry

-- the address register of an entry, or zero if it is missing
abbrev pub address_or_zero : Option ChainedEntry → ℕ
address_or_zero (Some e) = address_in e
address_or_zero None = 0

-- the prefix of the names in C: the given name, otherwise `pmp`
abbrev pub prefix_of : Option (List ℕ) → List ℕ
prefix_of (Some name) = name
prefix_of None = codes "pmp"

-- the middle part of the names of the arrays, which are `uart_pmpaddr` and `uart_pmpcfg` with the
-- name `uart`
abbrev pub array_link : Option (List ℕ) → List ℕ
array_link (Some name) = codes "_pmp"
array_link None = []
