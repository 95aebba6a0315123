-- The registers and the addresses of the entries of a list with a chain.
use Rattle.std.proofs.Common.{ℕ, suc, ◌≡◌, ◌∙◌, ◌+◌, ◌-◌, ◌*◌, ◌/◌, ◌^◌, ◌<◌, inl, inr, List, [], ◌∷◌, ◌++◌, length, map}
use Rattle.std.proofs.Common.{Bool, true, false, if◌then◌else◌, Option, None, Some, IfSome, ap, ap₂, append_assoc, sym, refl, arith}
use Rattle.std.specs.Prelude.{◌&&◌, nat_lt, slice_get}
use Rattle.std.proofs.lemmas.Bool.Decides.{nat_tests}
use Rattle.std.proofs.lemmas.List.{map-append}
use Rattle.std.proofs.lemmas.Option.{same_Some}
use Rattle.pmp_encoding.specs.declared.region.Entry.{Entry}
use Rattle.pmp_encoding.specs.declared.xlen.Xlen.{Xlen}
use Rattle.pmp_encoding.specs.declared.xlen.Xlen.TheVariants.{Rv32, Rv64}
use Rattle.pmp_encoding.specs.Encoding.{MeansEntry, address_of, cfg_of}
use Rattle.pmp_encoding.specs.Extents.{extent_of}
use Rattle.pmp_encoding.specs.Perms.{bits_of}
use Rattle.pmp_encoding.specs.Widths.{AreReached, address_bits}
use Rattle.pmp_match.specs.Lists.{matched_by}
use Rattle.pmp_match.specs.Tor.{nowhere}
use Rattle.map_text.specs.declared.listed_entry.ChainedEntry.{ChainedEntry}
use Rattle.map_text.specs.ListedEntries.{AreWithin, listed_blocks, pair_in}
use Rattle.chain_planner.specs.declared.tops.Top.{Top}
use Rattle.chain_planner.specs.Chained.{AreRising, Chained, IsChained, address_behind, bottom_by, bottom_of, extents_of, matched_from, off_extents}
use Rattle.chain_planner.specs.Spelled.{block_pairs, off_pairs, pairs_in, top_pairs}
use Rattle.chain_entries.specs.ChainEntries.{AreBelow, entries_in, extent_in, off_entries, top_entries}

-- the parts of a list, one after another, by a function of their entries
in_parts : {A : Type 0} (f : ChainedEntry → A) (xs ys zs : List ChainedEntry) → map f (xs ++ (ys ++ zs)) ≡ map f xs ++ (map f ys ++ map f zs)
in_parts f xs ys zs = map-append f xs (ys ++ zs) ∙ ap (λ rest. map f xs ++ rest) (map-append f ys zs)

-- the pairs
pairs_of_blocks : (blocks : List Entry) → map pair_in (listed_blocks blocks) ≡ block_pairs blocks
pairs_of_blocks [] = refl
pairs_of_blocks (e ∷ blocks) = ap (λ rest. (cfg_of e, address_of e) ∷ rest) (pairs_of_blocks blocks)

a_quarter : (address : ℕ) → 4 * address / 4 ≡ address
a_quarter address = omega arith

pairs_of_off : (off : Option ℕ) → map pair_in (off_entries off) ≡ off_pairs off
pairs_of_off None = refl
pairs_of_off (Some address) = ap (λ a. (0, a) ∷ []) (a_quarter address)

pairs_of_tops : (bottom : ℕ) (tops : List Top) → map pair_in (top_entries bottom tops) ≡ top_pairs tops
pairs_of_tops bottom [] = refl
pairs_of_tops bottom (top ∷ tops) = ap₂ (λ a rest. (1 * 8 + bits_of top.perm, a) ∷ rest) (a_quarter top.address) (pairs_of_tops top.address tops)

pub pairs_of : (list : Chained) → map pair_in (entries_in list) ≡ pairs_in list
pairs_of list =
    in_parts pair_in (listed_blocks list.blocks) (off_entries list.off) (top_entries (bottom_of list) list.tops)
    ∙ ap₂ (λ xs ys. xs ++ ys) (pairs_of_blocks list.blocks)
    (ap₂ (λ xs ys. xs ++ ys) (pairs_of_off list.off) (pairs_of_tops (bottom_of list) list.tops))

-- the addresses
extents_of_blocks : (blocks : List Entry) → map extent_in (listed_blocks blocks) ≡ matched_by blocks
extents_of_blocks [] = refl
extents_of_blocks (e ∷ blocks) = ap (λ rest. extent_of e ∷ rest) (extents_of_blocks blocks)

extents_of_off : (off : Option ℕ) → map extent_in (off_entries off) ≡ off_extents off
extents_of_off None = refl
extents_of_off (Some address) = refl

four_times : (a b : ℕ) → nat_lt (4 * a) (4 * b) ≡ nat_lt a b
four_times a b = grind (arith, nat_tests)

extents_of_tops : (bottom : ℕ) (tops : List Top) → map extent_in (top_entries bottom tops) ≡ matched_from bottom tops
extents_of_tops bottom [] = refl
extents_of_tops bottom (top ∷ tops) =
    ap₂ (λ t rest. (if t then record { base = 4 * bottom; end = 4 * top.address; perm = top.perm } else nowhere) ∷ rest)
    (four_times bottom top.address) (extents_of_tops top.address tops)

pub extents_are : (list : Chained) → map extent_in (entries_in list) ≡ extents_of list
extents_are list =
    in_parts extent_in (listed_blocks list.blocks) (off_entries list.off) (top_entries (bottom_of list) list.tops)
    ∙ ap₂ (λ xs ys. xs ++ ys) (extents_of_blocks list.blocks)
    (ap₂ (λ xs ys. xs ++ ys) (extents_of_off list.off) (extents_of_tops (bottom_of list) list.tops))

-- the registers of a hart that can express a list can express its entries
within_both : (xlen : Xlen) (xs ys : List ChainedEntry) → AreWithin xlen xs → AreWithin xlen ys → AreWithin xlen (xs ++ ys)
within_both xlen [] ys one other = other
within_both xlen (x ∷ xs) ys one other = (one.0, within_both xlen xs ys one.1 other)

near_both : (a b : Bool) → (a && b) ≡ true → ((a && true) ≡ true) × (b ≡ true)
near_both true true h = (refl, refl)
near_both true false h = absurd cc
near_both false b h = absurd cc

blocks_within : (xlen : Xlen) (blocks : List Entry) → AreReached xlen blocks → AreWithin xlen (listed_blocks blocks)
blocks_within Rv32 [] near = tt
blocks_within Rv32 (e ∷ blocks) near = let both = near_both _ _ near in (both.0, blocks_within Rv32 blocks both.1)
blocks_within Rv64 [] near = tt
blocks_within Rv64 (e ∷ blocks) near = (tt, blocks_within Rv64 blocks tt)

in_space : (a bound : ℕ) → a < bound → 4 * a < 4 * bound
in_space a bound h = omega (arith, h)

off_within : (xlen : Xlen) (off : Option ℕ) → IfSome off (λ address. address < 2 ^ address_bits xlen) → AreWithin xlen (off_entries off)
off_within xlen None small = tt
off_within xlen (Some address) small = (in_space address (2 ^ address_bits xlen) small, tt)

tops_within : (xlen : Xlen) (least bottom : ℕ) (tops : List Top) → AreRising (address_bits xlen) least tops → AreWithin xlen (top_entries bottom tops)
tops_within xlen least bottom [] rising = tt
tops_within xlen least bottom (top ∷ tops) rising =
    (in_space top.address (2 ^ address_bits xlen) rising.1, tops_within xlen top.address top.address tops rising.2)

pub within : (xlen : Xlen) (place : ℕ) (list : Chained) → IsChained xlen place list → AreWithin xlen (entries_in list)
within xlen place list chained =
    within_both xlen (listed_blocks list.blocks) (off_entries list.off ++ top_entries (bottom_of list) list.tops)
    (blocks_within xlen list.blocks chained.reached)
    (within_both xlen (off_entries list.off) (top_entries (bottom_of list) list.tops) (off_within xlen list.off chained.base)
    (tops_within xlen 0 (bottom_of list) list.tops chained.rising))

-- the address registers have 54 bits
few_bits : (xlen : Xlen) (a : ℕ) → a < 2 ^ address_bits xlen → a < 2 ^ 54
few_bits Rv32 a h = omega (arith, h)
few_bits Rv64 a h = h

pub off_below : (xlen : Xlen) (off : Option ℕ) → IfSome off (λ address. address < 2 ^ address_bits xlen) → IfSome off (λ address. address < 2 ^ 54)
off_below xlen None small = tt
off_below xlen (Some address) small = few_bits xlen address small

pub tops_below : (xlen : Xlen) (least : ℕ) (tops : List Top) → AreRising (address_bits xlen) least tops → AreBelow (2 ^ 54) tops
tops_below xlen least [] rising = tt
tops_below xlen least (top ∷ tops) rising = (few_bits xlen top.address rising.1, tops_below xlen top.address tops rising.2)

pub block_below : (cfg address : ℕ) (e : Entry) → MeansEntry cfg address e → address < 2 ^ 54
block_below cfg address e (inl means) = means.small
block_below cfg address e (inr means) = means.small

-- the last of a list is the last behind its first
last_of : (x y : Entry) (rest : List Entry) → slice_get (x ∷ (y ∷ rest)) (length (x ∷ (y ∷ rest)) - 1) ≡ slice_get (y ∷ rest) (length (y ∷ rest) - 1)
last_of x y rest = let e : length (x ∷ (y ∷ rest)) - 1 ≡ suc (length (y ∷ rest) - 1) = omega arith in ap (slice_get (x ∷ (y ∷ rest))) e

-- the address register of the last of the entries
pub last_behind : (blocks : List Entry) (address : ℕ) (e : Entry) → slice_get blocks (length blocks - 1) ≡ Some e → address_behind address blocks ≡ address_of e
last_behind [] address e last = absurd cc
last_behind (x ∷ []) address e last = ap address_of (same_Some x e last)
last_behind (x ∷ (y ∷ blocks)) address e last = last_behind (y ∷ blocks) (address_of x) e (sym (last_of x y blocks) ∙ last)

-- the chain begins at the address register of the last of the entries before it
pub bottom_behind :
    (list : Chained) (e : Entry) → list.off ≡ None → slice_get list.blocks (length list.blocks - 1) ≡ Some e → bottom_of list ≡ address_of e
bottom_behind list e none last = ap (λ off. bottom_by off list.blocks) none ∙ last_behind list.blocks 0 e last

-- the parts, appended one after another, are the list
pub in_order :
    (list : Chained) (bottom : ℕ) (blocks before all : List ChainedEntry) → blocks ≡ listed_blocks list.blocks → before ≡ blocks ++ off_entries list.off
    → all ≡ before ++ top_entries bottom list.tops → bottom ≡ bottom_of list → all ≡ entries_in list
in_order list bottom blocks before all h k l is =
    l ∙ ap₂ (λ x b. x ++ top_entries b list.tops) (k ∙ ap (λ x. x ++ off_entries list.off) h) is
    ∙ append_assoc (listed_blocks list.blocks) (off_entries list.off) (top_entries (bottom_of list) list.tops)
