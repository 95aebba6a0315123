-- The registers of the entries of a printed list.
use Rattle.std.specs.Prelude.{ℕ, ◌+◌, ◌*◌, ◌/◌, ◌<◌, ⊤, List, [], ◌∷◌, map}
use Rattle.pmp_encoding.specs.declared.region.Entry.{Entry}
use Rattle.pmp_encoding.specs.declared.xlen.Xlen.{Xlen}
use Rattle.pmp_encoding.specs.Encoding.{address_of, cfg_of}
use Rattle.pmp_encoding.specs.Perms.{bits_of}
use Rattle.pmp_encoding.specs.Widths.{AreReached, space_end}
use Rattle.map_text.specs.declared.listed_entry.ChainedEntry.{ChainedEntry}
use Rattle.map_text.specs.declared.listed_entry.ChainedEntry.TheVariants.{Block, Off, Tor}

-- the configuration byte of an entry: NA4 and NAPOT have that of the canonical pair, the mode of
-- OFF is 0, and the mode of TOR is 1
abbrev pub cfg_in : ChainedEntry → ℕ
cfg_in (Block e) = cfg_of e
cfg_in (Off begin) = 0
cfg_in (Tor begin end perm) = 1 * 8 + bits_of perm

-- its address register, which counts in units of four bytes
abbrev pub address_in : ChainedEntry → ℕ
address_in (Block e) = address_of e
address_in (Off begin) = begin / 4
address_in (Tor begin end perm) = end / 4

-- its configuration byte and its address register
abbrev pub pair_in : ChainedEntry → ℕ × ℕ
pair_in e = (cfg_in e, address_in e)

-- a list of NA4 and NAPOT entries
abbrev pub listed_blocks : List Entry → List ChainedEntry
listed_blocks entries = map Block entries

-- the address registers of a hart can express an entry
abbrev pub IsWithin : Xlen → ChainedEntry → Type 0
IsWithin xlen (Block e) = AreReached xlen (e ∷ [])
IsWithin xlen (Off begin) = begin < space_end xlen
IsWithin xlen (Tor begin end perm) = end < space_end xlen

-- they can express all of these entries
abbrev pub AreWithin : Xlen → List ChainedEntry → Type 0
AreWithin xlen [] = ⊤
AreWithin xlen (e ∷ entries) = IsWithin xlen e × AreWithin xlen entries
