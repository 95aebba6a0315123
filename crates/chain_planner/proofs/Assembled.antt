-- The lists made of the placed entries are chained, mean the view, and are as long as the costs.
use Rattle.std.proofs.Common.{◌≡◌, ◌≢◌, ℕ, suc, ◌+◌, ◌*◌, ◌^◌, ◌<◌, ◌≤◌, ◌⊎◌, inl, inr, ⊎_elim, List, [], ◌∷◌, ◌++◌, Bool, true, false, cond}
use Rattle.std.proofs.Common.{Option, None, Some, IsSome, IfSome, refl, sym, ap, subst, ◌∙◌, arith, length, pow_pos, pow-add, zero-add, if◌then◌else◌}
use Rattle.std.specs.List.{list_all}
use Rattle.std.proofs.lemmas.Bool.{cases_lt, lt-ltb, le-ltb, le-leb, and_from}
use Rattle.std.proofs.lemmas.List.{length-append}
use Rattle.pmp_encoding.specs.declared.perm.Perm.{Perm}
use Rattle.pmp_encoding.specs.declared.perm.Perm.TheVariants.{NoAccess}
use Rattle.pmp_encoding.specs.declared.region.Entry.{Entry}
use Rattle.pmp_encoding.specs.declared.xlen.Xlen.{Xlen}
use Rattle.pmp_encoding.specs.declared.xlen.Xlen.TheVariants.{Rv32, Rv64}
use Rattle.pmp_encoding.specs.Encoding.{address_of}
use Rattle.pmp_encoding.specs.Perms.{perm_eq}
use Rattle.pmp_encoding.specs.Views.{View}
use Rattle.pmp_encoding.specs.Widths.{address_bits, AreReached, is_near}
use Rattle.pmp_match.specs.Bytes.{perm_at}
use Rattle.pmp_match.specs.Lists.{matched_by}
use Rattle.pmp_match.specs.RegisterDecision.{ExtentsMean}
use Rattle.pmp_match.proofs.Least.{holds_from}
use Rattle.pmp_match.proofs.Pages.{base}
use Rattle.prefix_tree.specs.Trees.{PermTree, TreeMeansAt}
use Rattle.prefix_tree.specs.Counts.{first_perm, last_perm}
use Rattle.entry_planner.specs.Reach.{HasNoneBehind}
use Rattle.entry_planner.proofs.Placed.{IsPart, AreParts, All_append, outside}
use Rattle.entry_planner.proofs.SamePerm.{perm_eq-true}
use Rattle.chain_planner.specs.declared.tops.Top.{Top}
use Rattle.chain_planner.specs.declared.turns.Turn.{Turn}
use Rattle.chain_planner.specs.ChainCosts.{change, through, begins, changes_in}
use Rattle.chain_planner.specs.Chained.{Chained, IsChained, offs, length_of, address_behind, bottom_by, bottom_of, matched_from, extents_of, AreRising, space_log2}
use Rattle.chain_planner.specs.ChainPlans.{alone_list, passed_list, begun_list}
use Rattle.chain_planner.specs.Placed.{IsPassed, IsBegun}
use Rattle.chain_planner.specs.Turns.{turn_at, last_turn, TurnsWithin, turns_in, tops_from, base_of, first_of, tops_of, tops_behind}
use Rattle.chain_planner.proofs.Changes.{change_same}
use Rattle.chain_planner.proofs.Filled.{Passes, passed_facts, Begins, begun_facts, begun_at}
use Rattle.chain_planner.proofs.Means.{blocks_words, off_words, tops_words, width}
use Rattle.chain_planner.proofs.PagesGiven.{PageGiven, page_means, blocks_given, blocks_held, Holds, off_given, chain_given, before_given}
use Rattle.chain_planner.proofs.Shortest.{last_hides}
use Rattle.chain_planner.proofs.TurnLists.{Follows, follows_tree, from_end, wider}

-- ---- the list can be held

pub rising_tops : (k bits first least : ℕ) (p : Perm) (turns : List Turn) → bits ≡ k + 10 → TurnsWithin first (2 ^ k) turns → least ≤ first * 1024
    → AreRising bits least (tops_from p turns)
rising_tops k bits first least p [] width within low = tt
rising_tops k bits first least p (t ∷ turns) width within low =
    let size : 2 ^ bits ≡ 2 ^ k * 1024 = ap (λ j. 2 ^ j) width ∙ pow-add 2 k 10 in (
      omega (arith, low, within.0),
      omega (arith, size, within.1),
      rising_tops k bits t.page (t.page * 1024) t.perm turns width within.2 (omega arith),
    )

near_parts : (es : List Entry) → AreParts 0 22 es → list_all is_near es ≡ true
near_parts [] parts = refl
near_parts (e ∷ es) parts = and_from _ _ (le-leb _ _ (omega (arith, parts.0.0.1))) (near_parts es parts.1)

reached_parts : (xlen : Xlen) (es : List Entry) → AreParts 0 (space_log2 xlen) es → AreReached xlen es
reached_parts Rv32 es parts = near_parts es parts
reached_parts Rv64 es parts = tt

space_most : (xlen : Xlen) → space_log2 xlen ≤ 44
space_most Rv32 = omega arith
space_most Rv64 = omega arith

-- ---- a list whose chain begins by itself, or at address 0

pub record IsMade (xlen : Xlen) (place : ℕ) (view : View) (list : Chained) (n : ℕ) : Type 0 where
  pub chained : IsChained xlen place list
  pub means : ExtentsMean (extents_of list) view
  pub count : length_of list ≡ n

list_means : (xlen : Xlen) (view : View) (list : Chained) → AreRising (address_bits xlen) 0 list.tops
    → ((page : ℕ) → page < 2 ^ 44 → PageGiven (extents_of list) page (view page)) → ExtentsMean (extents_of list) view
list_means xlen view list rising given =
    page_means (extents_of list) view
    (blocks_words list.blocks _ (off_words list.off _ (tops_words (address_bits xlen) 0 (bottom_of list) list.tops (width xlen).1 rising)))
    given

-- what the blocks over the chain give each page of the space
all_pages :
    (view : View) (k : ℕ) (es : List Entry) (f : ℕ → Perm) → AreParts 0 k es → HasNoneBehind k view
    → ((page : ℕ) → page < 2 ^ k → perm_at (f page) es (page * 4096) ≡ view page) → ((page : ℕ) → 2 ^ k ≤ page → f page ≡ NoAccess) → (page : ℕ) → page < 2 ^ 44
    → perm_at (f page) es (page * 4096) ≡ view page
all_pages view k es f parts none gives behind page inside =
    ⊎_elim (λ low. gives page low)
    (λ high.
    let all : 0 + 2 ^ k ≡ 2 ^ k = zero-add (2 ^ k) in
    outside k 0 (f page) es (page * 4096) parts (inr (omega (arith, high, all))) ∙ behind page high ∙ sym (none page high inside))
    (cases_lt page (2 ^ k))

from_zero : (k : ℕ) (turns : List Turn) → TurnsWithin 0 (0 + 2 ^ k) turns → TurnsWithin 0 (2 ^ k) turns
from_zero k turns within = let all : 0 + 2 ^ k ≡ 2 ^ k = zero-add (2 ^ k) in wider 0 (0 + 2 ^ k) 0 (2 ^ k) turns within (omega arith) (omega (arith, all))

-- the chain of a list with a base of its own gives each page its permission
based_given : (k : ℕ) (p : Perm) (turns : List Turn) (page : ℕ) → TurnsWithin 0 (2 ^ k) turns → last_turn p turns ≡ NoAccess
    → (bottom : ℕ) → IfSome (base_of p turns) (λ a. bottom ≡ a)
    → PageGiven (matched_from bottom (tops_of p turns)) page (turn_at p turns page)
based_given k p turns page within last bottom base = go (perm_eq NoAccess p) refl turns within last base
  where
    go :
        (b : Bool) → perm_eq NoAccess p ≡ b → (turns : List Turn) → TurnsWithin 0 (2 ^ k) turns → last_turn p turns ≡ NoAccess
        → IfSome (if b then first_of turns else Some 0) (λ a. bottom ≡ a)
        → PageGiven (matched_from bottom (if b then tops_behind turns else tops_from p turns)) page (turn_at p turns page)
    go true same [] within last base = last
    go true same (t ∷ turns) within last base =
        let none : p ≡ NoAccess = sym (perm_eq-true NoAccess p same) in
        ⊎_elim
        (λ before.
        subst (λ q. PageGiven (matched_from bottom (tops_from t.perm turns)) page q)
        (sym (ap (λ b. cond b p (turn_at t.perm turns page)) (lt-ltb page t.page before) ∙ none))
        (before_given bottom t.page (2 ^ k) t.perm turns page within.2 (omega (arith, base)) (omega (arith, base, before))))
        (λ behind.
        subst (λ q. PageGiven (matched_from bottom (tops_from t.perm turns)) page q)
        (sym (ap (λ b. cond b p (turn_at t.perm turns page)) (le-ltb page t.page behind)))
        (chain_given bottom t.perm turns page (omega (arith, base, behind)) last))
        (cases_lt page t.page)
    go false other turns within last base = chain_given bottom p turns page (omega (arith, base)) last

bottom_is : (off : Option ℕ) (es : List Entry) → IfSome off (λ a. bottom_by off es ≡ a)
bottom_is None es = tt
bottom_is (Some address) es = refl

tops_length : (p : Perm) (turns : List Turn) → length (tops_from p turns) ≡ length turns
tops_length p [] = refl
tops_length p (t ∷ turns) = ap suc (tops_length t.perm turns)

-- what registers need of the base and the tops
record IsBased (bits : ℕ) (p : Perm) (turns : List Turn) : Type 0 where
  base : IfSome (base_of p turns) (λ address. address < 2 ^ bits)
  rising : AreRising bits 0 (tops_of p turns)
  based : IsSome (base_of p turns) ⊎ (tops_of p turns ≡ [])
  count : offs (base_of p turns) + length (tops_of p turns) ≡ change NoAccess p + length turns

based_by : (k bits : ℕ) (p : Perm) (turns : List Turn) → bits ≡ k + 10 → TurnsWithin 0 (2 ^ k) turns → IsBased bits p turns
based_by k bits p turns width within = record { base = base; rising = rising; based = based; count = count }
  where
    size : 2 ^ bits ≡ 2 ^ k * 1024
    size = ap (λ j. 2 ^ j) width ∙ pow-add 2 k 10

    some : 0 < 2 ^ bits
    some = pow_pos bits

    base : IfSome (base_of p turns) (λ address. address < 2 ^ bits)
    base = go (perm_eq NoAccess p) turns within
      where
        go : (b : Bool) → (turns : List Turn) → TurnsWithin 0 (2 ^ k) turns → IfSome (if b then first_of turns else Some 0) (λ address. address < 2 ^ bits)
        go true [] within = tt
        go true (t ∷ turns) within = omega (arith, size, within.1)
        go false turns within = some

    rising : AreRising bits 0 (tops_of p turns)
    rising = go (perm_eq NoAccess p) turns within
      where
        go : (b : Bool) → (turns : List Turn) → TurnsWithin 0 (2 ^ k) turns → AreRising bits 0 (if b then tops_behind turns else tops_from p turns)
        go true [] within = tt
        go true (t ∷ turns) within = rising_tops k bits t.page 0 t.perm turns width within.2 (omega arith)
        go false turns within = rising_tops k bits 0 0 p turns width within (omega arith)

    based : IsSome (base_of p turns) ⊎ (tops_of p turns ≡ [])
    based = go (perm_eq NoAccess p) turns
      where
        go : (b : Bool) → (turns : List Turn) → IsSome (if b then first_of turns else Some 0) ⊎ ((if b then tops_behind turns else tops_from p turns) ≡ [])
        go true [] = inr refl
        go true (t ∷ turns) = inl refl
        go false turns = inl refl

    count : offs (base_of p turns) + length (tops_of p turns) ≡ change NoAccess p + length turns
    count = go (perm_eq NoAccess p) turns
      where
        go :
            (b : Bool) → (turns : List Turn)
            → offs (if b then first_of turns else Some 0) + length {A = Top} (if b then tops_behind turns else tops_from p turns)
            ≡ (if b then 0 else 1) + length turns
        go true [] = refl
        go true (t ∷ turns) = let n = tops_length t.perm turns in omega (arith, n)
        go false turns = let n = tops_length p turns in omega (arith, n)

pub passed_made :
    (xlen : Xlen) (place : ℕ) (view : View) (tree : PermTree) (p : Perm) (es : List Entry) (turns : List Turn) → TreeMeansAt view (space_log2 xlen) 0 tree
    → HasNoneBehind (space_log2 xlen) view → IsPassed (space_log2 xlen) 0 p NoAccess tree es turns
    → IsMade xlen place view (passed_list es p turns) (change NoAccess p + through tree p NoAccess)
passed_made xlen place view tree p es turns means none passed =
    let k : ℕ = space_log2 xlen in
    let facts : Passes view (space_log2 xlen) 0 p NoAccess tree es turns = passed_facts view tree (space_log2 xlen) 0 p NoAccess es turns means passed in
    let within : TurnsWithin 0 (2 ^ space_log2 xlen) turns = from_zero (space_log2 xlen) turns facts.within in
    let held : IsBased (address_bits xlen) p turns = based_by (space_log2 xlen) (address_bits xlen) p turns (width xlen).0 within in
    record {
      chained = record {
        reached = reached_parts xlen es facts.parts;
        base = held.base;
        rising = held.rising;
        based = inr (inr held.based);
      };
      means = list_means xlen view (passed_list es p turns) held.rising
          (λ page inside.
          subst (λ q. PageGiven (extents_of (passed_list es p turns)) page q)
          (all_pages view (space_log2 xlen) es (turn_at p turns) facts.parts none (λ page low. facts.gives page (omega arith) (over (space_log2 xlen) page low))
          (λ page high. from_end p turns 0 (2 ^ space_log2 xlen) page within high ∙ facts.last) page inside)
          (blocks_given es _ page 0 (space_log2 xlen) (turn_at p turns page) facts.parts
          (off_given (base_of p turns) _ page (turn_at p turns page)
          (based_given (space_log2 xlen) p turns page within facts.last (bottom_by (base_of p turns) es) (bottom_is (base_of p turns) es)))));
      count = omega (arith, held.count, facts.count);
    }
  where
    over : (k page : ℕ) → page < 2 ^ k → page < 0 + 2 ^ k
    over k page low = let all : 0 + 2 ^ k ≡ 2 ^ k = zero-add (2 ^ k) in omega (arith, low, all)

-- ---- a list whose chain begins under its last block

behind_last : (before : ℕ) (es : List Entry) (e : Entry) → address_behind before (es ++ e ∷ []) ≡ address_of e
behind_last before [] e = refl
behind_last before (f ∷ es) e = behind_last (address_of f) es e

last_holds : (es : List Entry) (e : Entry) (page : ℕ) → e.region.base ≤ page * 4096 → page * 4096 < e.region.base + 2 ^ e.region.log2
    → Holds (es ++ e ∷ []) page
last_holds [] e page low high = inl (holds_from e.region (page * 4096) low high)
last_holds (f ∷ es) e page low high = inr (last_holds es e page low high)

not_empty : (es : List Entry) (e : Entry) → es ++ e ∷ [] ≢ []
not_empty [] e h = cc
not_empty (f ∷ es) e h = cc

pub begun_made :
    (xlen : Xlen) (place : ℕ) (view : View) (tree : PermTree) (es : List Entry) (e : Entry) (b : Perm) (turns : List Turn)
    → TreeMeansAt view (space_log2 xlen) 0 tree → HasNoneBehind (space_log2 xlen) view → IsBegun (space_log2 xlen) 0 NoAccess tree es e b turns
    → IsMade xlen place view (begun_list es e b turns) (begins tree NoAccess)
begun_made xlen place view tree es e b turns means none begun =
    record {
      chained = record {
        reached = reached_parts xlen (es ++ e ∷ []) parts;
        base = tt;
        rising = rising;
        based = inr (inl (not_empty es e));
      };
      means = list_means xlen view (begun_list es e b turns) rising
          (λ page inside.
          subst (λ q. PageGiven (extents_of (begun_list es e b turns)) page q) (at page inside)
          (subst (λ n. PageGiven (matched_by (es ++ e ∷ []) ++ matched_from n (tops_from b turns)) page (perm_at (f page) (es ++ e ∷ []) (page * 4096)))
          (sym (behind_last 0 es e)) (given page)));
      count = (let s = length-append es (e ∷ []) in let n = tops_length b turns in omega (arith, s, n, facts.count));
    }
  where
    k : ℕ
    k = space_log2 xlen

    facts : Begins view k 0 NoAccess tree es e b turns
    facts = begun_facts view tree k 0 NoAccess es e b turns means begun

    all : 0 + 2 ^ k ≡ 2 ^ k
    all = zero-add (2 ^ k)

    end : ℕ
    end = facts.end

    f : ℕ → Perm
    f = begun_at end b turns

    parts : AreParts 0 k (es ++ e ∷ [])
    parts = All_append (IsPart 0 k) es (e ∷ []) facts.parts (facts.part, tt)

    early : end ≤ 2 ^ k
    early = omega (arith, facts.ends, facts.part.0.1, all)

    within : TurnsWithin end (2 ^ k) turns
    within = wider end (0 + 2 ^ k) end (2 ^ k) turns facts.within (omega arith) (omega (arith, all))

    rising : AreRising (address_bits xlen) 0 (tops_from b turns)
    rising = rising_tops k (address_bits xlen) end 0 b turns (width xlen).0 within (omega arith)

    behind : (page : ℕ) → 2 ^ k ≤ page → f page ≡ NoAccess
    behind page high =
        ap (λ t. cond t NoAccess (turn_at b turns page)) (le-ltb page end (omega (arith, early, high)))
        ∙ from_end b turns end (2 ^ k) page within high
        ∙ facts.last

    at : (page : ℕ) → page < 2 ^ 44 → perm_at (f page) (es ++ e ∷ []) (page * 4096) ≡ view page
    at page inside =
        all_pages view k (es ++ e ∷ []) f parts none (λ page low. facts.gives page (omega arith) (omega (arith, low, all))) behind page inside

    -- where its address register lies
    inside_block : (e.region.base < 4 * address_of e + 1) × (4 * address_of e + 1 < e.region.base + 2 ^ e.region.log2)
    inside_block = ⊎_elim (λ here. here) (λ other. absurd other) (last_hides 0 e [])

    given : (page : ℕ)
        → PageGiven (matched_by (es ++ e ∷ []) ++ matched_from (address_of e) (tops_from b turns)) page (perm_at (f page) (es ++ e ∷ []) (page * 4096))
    given page =
        ⊎_elim
        (λ under.
        let from = base e facts.part.1 in
        let below : (page + 1) * 4096 ≤ 4 * address_of e = omega (arith, from.1, under, inside_block.0) in
        let none : f page ≡ NoAccess =
        ap (λ t. cond t NoAccess (turn_at b turns page)) (lt-ltb page end (omega (arith, below, inside_block.1, facts.ends))) in
        blocks_given (es ++ e ∷ []) _ page 0 k (f page) parts
        (subst (λ q. PageGiven (matched_from (address_of e) (tops_from b turns)) page q) (sym none)
        (before_given (address_of e) end (2 ^ k) b turns page within (omega (arith, inside_block.1, facts.ends)) below)))
        (λ begun.
        ⊎_elim (λ held. blocks_held (es ++ e ∷ []) _ page 0 k (f page) parts (last_holds es e page begun held))
        (λ above.
        let late : f page ≡ turn_at b turns page = ap (λ t. cond t NoAccess (turn_at b turns page)) (le-ltb page end (omega (arith, above, facts.ends))) in
        blocks_given (es ++ e ∷ []) _ page 0 k (f page) parts
        (subst (λ q. PageGiven (matched_from (address_of e) (tops_from b turns)) page q) (sym late)
        (chain_given (address_of e) b turns page (omega (arith, above, inside_block.1)) facts.last)))
        (cases_lt (page * 4096) (e.region.base + 2 ^ e.region.log2)))
        (cases_lt (page * 4096) e.region.base)

-- ---- a chain that is the whole list

pub alone_made :
    (xlen : Xlen) (view : View) (tree : PermTree) → TreeMeansAt view (space_log2 xlen) 0 tree → HasNoneBehind (space_log2 xlen) view
    → last_perm tree ≡ NoAccess
    → IsMade xlen 0 view (alone_list (space_log2 xlen) tree) (changes_in tree)
alone_made xlen view tree means none last =
    record {
      chained = record { reached = reached_parts xlen [] tt; base = tt; rising = rising; based = inl refl };
      means = list_means xlen view (alone_list k tree) rising
          (λ page inside.
          subst (λ q. PageGiven (extents_of (alone_list k tree)) page q) (at page inside) (chain_given 0 p turns page (omega arith) (facts.last ∙ last)));
      count = (let n = tops_length p turns in omega (arith, n, facts.count, change_same p));
    }
  where
    k : ℕ
    k = space_log2 xlen

    p : Perm
    p = first_perm tree

    turns : List Turn
    turns = turns_in k 0 p tree

    facts : Follows view k 0 p tree
    facts = follows_tree view tree k 0 p means

    within : TurnsWithin 0 (2 ^ k) turns
    within = from_zero k turns facts.within

    all : 0 + 2 ^ k ≡ 2 ^ k
    all = zero-add (2 ^ k)

    rising : AreRising (address_bits xlen) 0 (tops_from p turns)
    rising = rising_tops k (address_bits xlen) 0 0 p turns (width xlen).0 within (omega arith)

    at : (page : ℕ) → page < 2 ^ 44 → turn_at p turns page ≡ view page
    at page inside =
        all_pages view k [] (turn_at p turns) tt none (λ page low. facts.gives page (omega arith) (omega (arith, low, all)))
        (λ page high. from_end p turns 0 (2 ^ k) page within high ∙ facts.last ∙ last) page inside
