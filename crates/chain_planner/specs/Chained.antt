-- Lists of NA4 and NAPOT entries before one chain of TOR entries: the addresses that they match,
-- their length, and the shortest that mean a view.
use Rattle.std.specs.Prelude.{◌≡◌, ◌≢◌, ℕ, ◌+◌, ◌-◌, ◌^◌, ◌<◌, ◌≤◌, ◌⊎◌, ⊤}
use Rattle.std.specs.Prelude.{List, [], ◌∷◌, ◌++◌, length, Option, None, Some, IsSome, IfSome}
use Rattle.pmp_encoding.specs.declared.extent.Extent.{Extent}
use Rattle.pmp_encoding.specs.declared.region.Entry.{Entry}
use Rattle.pmp_encoding.specs.declared.xlen.Xlen.{Xlen}
use Rattle.pmp_encoding.specs.Encoding.{address_of}
use Rattle.pmp_encoding.specs.Views.{View}
use Rattle.pmp_encoding.specs.Widths.{address_bits, AreReached}
use Rattle.pmp_match.specs.Lists.{matched_by}
use Rattle.pmp_match.specs.RegisterDecision.{ExtentsMean}
use Rattle.pmp_match.specs.Tor.{nowhere, tor_extent}
use Rattle.chain_planner.specs.declared.tops.Top.{Top}

-- NA4 and NAPOT entries; then at most one OFF entry, by its address register; then TOR entries
pub record Chained : Type 0 where
  pub blocks : List Entry
  pub off : Option ℕ
  pub tops : List Top

-- the number of OFF entries
abbrev pub offs : Option ℕ → ℕ
offs None = 0
offs (Some address) = 1

-- the number of entries, the OFF entry included
abbrev pub length_of : Chained → ℕ
length_of list = length list.blocks + (offs list.off + length list.tops)

-- the address register of the last of the entries, or the given one if there are no entries
abbrev pub address_behind : ℕ → List Entry → ℕ
address_behind address [] = address
address_behind address (e ∷ entries) = address_behind (address_of e) entries

-- the address register of the entry before the chain, from the OFF entry and the blocks; 0 if there
-- is no entry
abbrev pub bottom_by : Option ℕ → List Entry → ℕ
bottom_by None blocks = address_behind 0 blocks
bottom_by (Some address) blocks = address

-- that of the list
abbrev pub bottom_of : Chained → ℕ
bottom_of list = bottom_by list.off list.blocks

-- the addresses that TOR entries match: each begins at the address of the entry before it
abbrev pub matched_from : ℕ → List Top → List Extent
matched_from bottom [] = []
matched_from bottom (top ∷ tops) =
    tor_extent bottom top.address top.perm ∷ matched_from top.address tops

-- an OFF entry matches nothing
abbrev pub off_extents : Option ℕ → List Extent
off_extents None = []
off_extents (Some address) = nowhere ∷ []

-- the addresses that the entries match, in their order
abbrev pub extents_of : Chained → List Extent
extents_of list = matched_by list.blocks
    ++ (off_extents list.off ++ matched_from (bottom_of list) list.tops)

-- the TOR entries are one chain: no address is below that of the TOR entry before it. Each fits the
-- bits of an address register
abbrev pub AreRising : ℕ → ℕ → List Top → Type 0
AreRising bits least [] = ⊤
AreRising bits least (top ∷ tops) = (least ≤ top.address) × (top.address < 2 ^ bits)
    × AreRising bits top.address tops

-- the number of times that the pages within reach of the address registers are halved, down to one
-- page
abbrev pub space_log2 : Xlen → ℕ
space_log2 xlen = address_bits xlen - 10

-- a list that registers of that width can hold, from that entry of a hart on. A chain may not begin
-- at the address of the entry before the list, which belongs to another list
pub record IsChained (xlen : Xlen) (place : ℕ) (list : Chained) : Type 0 where
  pub reached : AreReached xlen list.blocks
  pub base : IfSome list.off (λ address. address < 2 ^ address_bits xlen)
  pub rising : AreRising (address_bits xlen) 0 list.tops
  pub based : (place ≡ 0) ⊎ ((list.blocks ≢ []) ⊎ (IsSome list.off ⊎ (list.tops ≡ [])))

-- such a list means the view, and none that does is shorter
pub record IsFewestChained (xlen : Xlen) (place : ℕ) (view : View) (list : Chained) : Type 0 where
  pub chained : IsChained xlen place list
  pub means : ExtentsMean (extents_of list) view
  pub least : (other : Chained) → IsChained xlen place other → ExtentsMean (extents_of other) view
      → length_of list ≤ length_of other
