-- Entries placed on a hart, starting at one of the hart's entries.
use Rattle.std.specs.Prelude.{ℕ, ◌+◌, ◌-◌, ◌*◌, nat_lt, if◌then◌else◌, List, [], ◌∷◌, map, Option}
use Rattle.std.specs.Prelude.{Some, None, slice_get}
use Rattle.std.specs.Int.{Width, from_le_bytes, w32, w64}
use Rattle.pmp_encoding.specs.declared.xlen.Xlen.{Xlen}
use Rattle.pmp_encoding.specs.declared.xlen.Xlen.TheVariants.{Rv32, Rv64}
use Rattle.pmp_encoding.specs.Widths.{word_entries}
use Rattle.map_text.specs.declared.listed_entry.ChainedEntry.{ChainedEntry}
use Rattle.map_text.specs.ListedEntries.{cfg_in}

-- entry i of the hart, or `None` below the first and after the last
abbrev pub entry_from : ℕ → List ChainedEntry → ℕ → Option ChainedEntry
entry_from first entries i = if nat_lt i first then None else slice_get entries (i - first)

-- the configuration byte of an entry, or zero if it is missing
abbrev pub cfg_or_zero : Option ChainedEntry → ℕ
cfg_or_zero (Some e) = cfg_in e
cfg_or_zero None = 0

-- the configuration byte of entry i of the hart
abbrev pub cfg_from : ℕ → List ChainedEntry → ℕ → ℕ
cfg_from first entries i = cfg_or_zero (entry_from first entries i)

-- a register as a number of its width
abbrev pub width_of : Xlen → Width
width_of Rv32 = w32
width_of Rv64 = w64

-- the positions of the entries in a configuration word
abbrev pub places_in_word : Xlen → List ℕ
places_in_word Rv32 = 0 ∷ 1 ∷ 2 ∷ 3 ∷ []
places_in_word Rv64 = 0 ∷ 1 ∷ 2 ∷ 3 ∷ 4 ∷ 5 ∷ 6 ∷ 7 ∷ []

-- the i-th configuration word: the bytes of its entries, the lowest first
abbrev pub word_from : Xlen → ℕ → List ChainedEntry → ℕ → ℕ
word_from xlen first entries i = from_le_bytes (width_of xlen)
    (map (λ j. cfg_from first entries (word_entries xlen * i + j)) (places_in_word xlen))
