-- The entries of a list with a chain, each with the addresses that it matches.
use Rattle.std.specs.Prelude.{ℕ, ◌*◌, ◌<◌, ⊤, nat_lt, if◌then◌else◌, List, [], ◌∷◌, ◌++◌}
use Rattle.std.specs.Prelude.{Option, None, Some}
use Rattle.pmp_encoding.specs.declared.extent.Extent.{Extent}
use Rattle.pmp_encoding.specs.Extents.{extent_of}
use Rattle.pmp_match.specs.Tor.{nowhere}
use Rattle.map_text.specs.declared.listed_entry.ChainedEntry.{ChainedEntry}
use Rattle.map_text.specs.declared.listed_entry.ChainedEntry.TheVariants.{Block, Off, Tor}
use Rattle.map_text.specs.ListedEntries.{listed_blocks}
use Rattle.chain_planner.specs.declared.tops.Top.{Top}
use Rattle.chain_planner.specs.Chained.{Chained, bottom_of}

-- the addresses that an entry matches
abbrev pub extent_in : ChainedEntry → Extent
extent_in (Block e) = extent_of e
extent_in (Off begin) = nowhere
extent_in (Tor begin end perm) =
    if nat_lt begin end then record { base = begin; end = end; perm = perm } else nowhere

-- an OFF entry, by its address register
abbrev pub off_entries : Option ℕ → List ChainedEntry
off_entries None = []
off_entries (Some address) = Off (4 * address) ∷ []

-- TOR entries, each of which begins at the address register of the entry before it
abbrev pub top_entries : ℕ → List Top → List ChainedEntry
top_entries bottom [] = []
top_entries bottom (top ∷ tops) =
    Tor (4 * bottom) (4 * top.address) top.perm ∷ top_entries top.address tops

-- the entries of a list
abbrev pub entries_in : Chained → List ChainedEntry
entries_in list =
    listed_blocks list.blocks ++ (off_entries list.off ++ top_entries (bottom_of list) list.tops)

-- the address registers are below a bound
abbrev pub AreBelow : ℕ → List Top → Type 0
AreBelow bound [] = ⊤
AreBelow bound (top ∷ tops) = (top.address < bound) × AreBelow bound tops
