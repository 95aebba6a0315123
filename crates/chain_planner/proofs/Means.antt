-- A chained list that means a view gives each byte the view's permission.
use Rattle.std.proofs.Common.{◌≡◌, ℕ, ◌+◌, ◌*◌, ◌^◌, ◌<◌, ◌≤◌, inl, inr, List, [], ◌∷◌, ◌++◌, Bool, true, false, Option, None, Some, refl, nat_lt, arith, pow_mono, cond}
use Rattle.std.specs.List.{AllByRecursion, list_all}
use Rattle.std.proofs.lemmas.Bool.{ltb-true, leb-true, and_parts}
use Rattle.pmp_encoding.specs.declared.extent.Extent.{Extent}
use Rattle.pmp_encoding.specs.declared.region.Entry.{Entry}
use Rattle.pmp_encoding.specs.declared.xlen.Xlen.{Xlen}
use Rattle.pmp_encoding.specs.declared.xlen.Xlen.TheVariants.{Rv32, Rv64}
use Rattle.pmp_encoding.specs.Views.{View}
use Rattle.pmp_encoding.specs.Widths.{address_bits, AreReached, is_near}
use Rattle.pmp_match.specs.Lists.{matched_by}
use Rattle.pmp_match.specs.RegisterDecision.{ExtentsMean, IsWords}
use Rattle.pmp_match.specs.Tor.{nowhere, tor_extent}
use Rattle.pmp_match.proofs.Least.{AreWithin}
use Rattle.pmp_match.proofs.Matched.{entry_words}
use Rattle.pmp_match.proofs.RegistersEachByte.{each_byte}
use Rattle.prefix_tree.specs.Trees.{PermTree, TreeMeansAt}
use Rattle.chain_planner.specs.declared.tops.Top.{Top}
use Rattle.chain_planner.specs.ChainCosts.{chained_cost}
use Rattle.chain_planner.specs.Chained.{Chained, IsChained, AreRising, length_of, bottom_of, matched_from, off_extents, extents_of, space_log2}
use Rattle.chain_planner.proofs.Shortest.{GivesWithin, list_le}

tor_words : (bottom top : ℕ) (t : Top) → top < 2 ^ 54 → IsWords (tor_extent bottom top t.perm)
tor_words bottom top t small = go (nat_lt bottom top) refl
  where
    go : (b : Bool) → nat_lt bottom top ≡ b → IsWords (cond b (record { base = 4 * bottom; end = 4 * top; perm = t.perm }) nowhere)
    go true is =
        let less : bottom < top = ltb-true _ _ is in
        record { base = omega arith; end = omega arith; inside = omega (arith, small); some = inl (omega (arith, less)) }
    go false is = record { base = omega arith; end = omega arith; inside = omega arith; some = inr (refl, refl) }

pub tops_words : (bits least bottom : ℕ) (tops : List Top) → bits ≤ 54 → AreRising bits least tops → AllByRecursion IsWords (matched_from bottom tops)
tops_words bits least bottom [] most rising = tt
tops_words bits least bottom (top ∷ tops) most rising = (tor_words bottom top.address top small, tops_words bits top.address top.address tops most rising.2)
  where
    small : top.address < 2 ^ 54
    small = let more : 2 ^ bits ≤ 2 ^ 54 = pow_mono most in omega (arith, rising.1, more)

pub off_words : (off : Option ℕ) (rest : List Extent) → AllByRecursion IsWords rest → AllByRecursion IsWords (off_extents off ++ rest)
off_words None rest words = words
off_words (Some address) rest words = (record { base = omega arith; end = omega arith; inside = omega arith; some = inr (refl, refl) }, words)

pub blocks_words : (es : List Entry) (rest : List Extent) → AllByRecursion IsWords rest → AllByRecursion IsWords (matched_by es ++ rest)
blocks_words [] rest words = words
blocks_words (e ∷ es) rest words = (entry_words e, blocks_words es rest words)

pub width : (xlen : Xlen) → (address_bits xlen ≡ space_log2 xlen + 10) × (address_bits xlen ≤ 54)
width Rv32 = (omega arith, omega arith)
width Rv64 = (omega arith, omega arith)

space_within : (es : List Entry) → AreWithin 0 44 es
space_within [] = tt
space_within (e ∷ es) = ((omega arith, (let inside = e.region.block.inside in omega arith)), space_within es)

near_within : (es : List Entry) → list_all is_near es ≡ true → AreWithin 0 22 es
near_within [] near = tt
near_within (e ∷ es) near =
    let both = and_parts _ _ near in
    let ends : e.region.base + 2 ^ e.region.log2 ≤ 2 ^ 34 = leb-true _ _ both.0 in
    ((omega arith, omega (arith, ends)), near_within es both.1)

pub reached_within : (xlen : Xlen) (es : List Entry) → AreReached xlen es → AreWithin 0 (space_log2 xlen) es
reached_within Rv32 es near = near_within es near
reached_within Rv64 es near = space_within es

inside_space : (xlen : Xlen) (x : ℕ) → x < 2 ^ space_log2 xlen * 4096 → x < 2 ^ 56
inside_space Rv32 x low = omega (arith, low)
inside_space Rv64 x low = omega (arith, low)

pub chained_gives : (xlen : Xlen) (place : ℕ) (view : View) (list : Chained) → IsChained xlen place list → ExtentsMean (extents_of list) view
    → GivesWithin view list (space_log2 xlen)
chained_gives xlen place view list chained means x low =
    each_byte (extents_of list) view
    (blocks_words list.blocks _
    (off_words list.off _ (tops_words (address_bits xlen) 0 (bottom_of list) list.tops (width xlen).1 chained.rising)))
    means x (inside_space xlen x low)

pub chained_le : (xlen : Xlen) (place : ℕ) (view : View) (tree : PermTree) (list : Chained) → TreeMeansAt view (space_log2 xlen) 0 tree
    → IsChained xlen place list → ExtentsMean (extents_of list) view → chained_cost place tree ≤ length_of list
chained_le xlen place view tree list tree_means chained means =
    list_le view tree (space_log2 xlen) (address_bits xlen) place list (width xlen).0 tree_means (reached_within xlen list.blocks chained.reached)
    chained.rising chained.based (chained_gives xlen place view list chained means)
