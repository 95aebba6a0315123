-- A plan of the whole space.
use Rattle.std.proofs.Common.{◌≡◌, ℕ, zero, suc, ◌+◌, ◌-◌, ◌*◌, ◌/◌, ◌%◌, ◌^◌, ◌<◌, ◌≤◌, min, Bool, true, false, ◌&&◌, ◌==◌, None, List, [], ◌∷◌, ◌++◌, refl, sym, ap, subst, ◌∙◌, arith, pow_mono, pow_pos, pow-suc, zero-add, if◌then◌else◌}
use Rattle.std.proofs.lemmas.Bool.{eqb-true}
use Rattle.pmp_encoding.specs.declared.perm.Perm.{Perm}
use Rattle.pmp_encoding.specs.declared.perm.Perm.TheVariants.{NoAccess, Read, ReadWrite, Execute, ReadExecute, ReadWriteExecute}
use Rattle.pmp_encoding.specs.declared.region.Entry.{Entry}
use Rattle.pmp_encoding.specs.Perms.{index_of, perm_eq}
use Rattle.pmp_encoding.specs.declared.xlen.Xlen.{Xlen}
use Rattle.pmp_encoding.specs.Views.{View}
use Rattle.prefix_tree.specs.Coding.{perm_of}
use Rattle.prefix_tree.specs.Counts.{last_perm}
use Rattle.prefix_tree.specs.TreeOf.{tree_of}
use Rattle.prefix_tree.proofs.Canonical.{tree_at-means}
use Rattle.prefix_tree.specs.Trees.{PermTree, Uniform, Split, Fits, TreeMeansAt}
use Rattle.entry_planner.specs.Costs.{least_of}
use Rattle.entry_planner.specs.Placement.{ArePages}
use Rattle.entry_planner.specs.Reach.{HasNoneBehind}
use Rattle.entry_planner.proofs.CostLemmas.{least_is, least_le}
use Rattle.entry_planner.proofs.SamePerm.{perm_eq-true}
use Rattle.chain_planner.specs.declared.costs.Costs.{Costs}
use Rattle.chain_planner.specs.declared.tops.Top.{Top}
use Rattle.chain_planner.specs.declared.turns.Turn.{Turn}
use Rattle.chain_planner.specs.ChainCosts.{change, through, begins, changes_in, passed, chained_cost}
use Rattle.chain_planner.specs.declared.chain_plan.Kind.TheVariants.{Alone, Passes, Begins}
use Rattle.chain_planner.specs.ChainPlans.{IsPassedKey, IsKind, IsAlone, IsPassing, IsBeginning, alone_list, passed_list, begun_list}
use Rattle.chain_planner.specs.Chained.{Chained, IsFewestChained, length_of, space_log2}
use Rattle.chain_planner.specs.Choices.{AreCosts, AreSmall}
use Rattle.chain_planner.specs.Placed.{IsPassed, follows, covers, halves, covers_halves, IsBegun, under, under_halves, in_lower, in_upper}
use Rattle.chain_planner.specs.Turns.{TurnsWithin, turns_in, tops_from}
use Rattle.chain_planner.proofs.Assembled.{IsMade, alone_made, passed_made, begun_made}
use Rattle.chain_planner.proofs.Means.{chained_le}
use Rattle.chain_planner.proofs.KeysLeast.{index_small, perm_of_index}
use Rattle.chain_planner.proofs.TurnLists.{to_within, both_within, wider, within-append}

-- ---- the lowest part of the space

pub no_levels : (view : View) (levels k : ℕ) (tree : PermTree) → levels ≡ 0 → TreeMeansAt view (levels + k) 0 tree → TreeMeansAt view k 0 tree
no_levels view levels k tree none means =
    let same : levels + k ≡ k = omega (arith, none) in
    subst (λ n. TreeMeansAt view n 0 tree) same means

pub uniform_part : (view : View) (levels k : ℕ) (tree : PermTree) (v : Perm) → tree ≡ Uniform v → TreeMeansAt view (levels + k) 0 tree
    → TreeMeansAt view k 0 tree
uniform_part view levels k tree v is means =
    let whole : TreeMeansAt view (levels + k) 0 (Uniform v) = subst (λ t. TreeMeansAt view (levels + k) 0 t) is means in
    let more : 2 ^ k ≤ 2 ^ (levels + k) = pow_mono (omega arith) in
    subst (λ t. TreeMeansAt view k 0 t) (sym is) (λ i h. whole i (omega (arith, more, h)))

pub lower_part : (view : View) (levels k : ℕ) (tree lower upper : PermTree) → tree ≡ Split lower upper → 0 < levels → TreeMeansAt view (levels + k) 0 tree
    → TreeMeansAt view (levels - 1 + k) 0 lower
lower_part view levels k tree lower upper is some means =
    let size : levels + k ≡ suc (levels - 1 + k) = omega (arith, some) in
    let both : TreeMeansAt view (suc (levels - 1 + k)) 0 (Split lower upper) =
    subst (λ t. TreeMeansAt view (suc (levels - 1 + k)) 0 t) is (subst (λ n. TreeMeansAt view n 0 tree) size means) in
    both.0

pub means_fits : (view : View) (k first : ℕ) (tree : PermTree) → TreeMeansAt view k first tree → Fits k tree
means_fits view k first (Uniform v) means = tt
means_fits view zero first (Split lower upper) means = means
means_fits view (suc k) first (Split lower upper) means = (means_fits view k first lower means.0, means_fits view k (first + 2 ^ k) upper means.1)

pub space_pages : (k : ℕ) → k ≤ 44 → ArePages k 0
space_pages k most = record { place = 0; aligned = omega arith; inside = (let more : 2 ^ k ≤ 2 ^ 44 = pow_mono most in omega (arith, more)) }

-- ---- the changes are in the space

passed_within : {k first : ℕ} {p q : Perm} {tree : PermTree} {es : List Entry} {turns : List Turn} → IsPassed k first p q tree es turns
    → TurnsWithin first (first + 2 ^ k) turns
passed_within follows = tt
passed_within (covers {k = k} {first = first} {p = p} {q = q} block least) =
    to_within first first (first + 2 ^ k) p q (omega arith) (let some : 0 < 2 ^ k = pow_pos k in omega (arith, some))
passed_within (halves {k = k} {first = first} {m = m} {n = n} {before = before} {behind = behind} a b least) =
    both_within k first first m n before behind (omega arith) (passed_within a) (passed_within b)
passed_within (covers_halves {k = k} {first = first} {p = p} {q = q} low high e cover least) =
    to_within first first (first + 2 ^ suc k) p q (omega arith) (let some : 0 < 2 ^ suc k = pow_pos (suc k) in omega (arith, some))

begun_within : {k first : ℕ} {q b : Perm} {tree : PermTree} {es : List Entry} {e : Entry} {turns : List Turn} → IsBegun k first q tree es e b turns
    → TurnsWithin first (first + 2 ^ k) turns
begun_within (under block) = tt
begun_within (under_halves low high cover least) = tt
begun_within (in_lower {k = k} {first = first} {m = m} {n = n} {before = before} {behind = behind} a b least) =
    both_within k first first m n before behind (omega arith) (begun_within a) (passed_within b)
begun_within (in_upper {k = k} {first = first} low {turns = turns} placed a least) =
    let double : 2 ^ suc k ≡ 2 ^ k * 2 = pow-suc 2 k in
    wider (first + 2 ^ k) (first + 2 ^ k + 2 ^ k) first (first + 2 ^ suc k) turns (begun_within a) (omega arith) (omega (arith, double))

alone_within : (k first : ℕ) (p : Perm) (tree : PermTree) → TurnsWithin first (first + 2 ^ k) (turns_in k first p tree)
alone_within k first p (Uniform v) = to_within first first (first + 2 ^ k) p v (omega arith) (let some : 0 < 2 ^ k = pow_pos k in omega (arith, some))
alone_within zero first p (Split lower upper) = tt
alone_within (suc k) first p (Split lower upper) =
    let double : 2 ^ suc k ≡ 2 ^ k * 2 = pow-suc 2 k in
    wider first (first + 2 ^ k + 2 ^ k) first (first + 2 ^ suc k) (turns_in k first p lower ++ turns_in k (first + 2 ^ k) (last_perm lower) upper)
    (within-append first (first + 2 ^ k) (first + 2 ^ k + 2 ^ k) (turns_in k first p lower) (turns_in k (first + 2 ^ k) (last_perm lower) upper) (omega arith)
    (alone_within k first p lower) (alone_within k (first + 2 ^ k) (last_perm lower) upper) (omega arith))
    (omega arith) (omega (arith, double))

in_space : (k : ℕ) (turns : List Turn) → k ≤ 44 → TurnsWithin 0 (0 + 2 ^ k) turns → TurnsWithin 0 (2 ^ 44) turns
in_space k turns most within =
    let more : 2 ^ k ≤ 2 ^ 44 = pow_mono most in
    let all : 0 + 2 ^ k ≡ 2 ^ k = zero-add (2 ^ k) in
    wider 0 (0 + 2 ^ k) 0 (2 ^ 44) turns within (omega arith) (omega (arith, more, all))

pub passed_in_space : (k : ℕ) (p q : Perm) (tree : PermTree) (es : List Entry) (turns : List Turn) → k ≤ 44 → IsPassed k 0 p q tree es turns
    → TurnsWithin 0 (2 ^ 44) turns
passed_in_space k p q tree es turns most passed = in_space k turns most (passed_within passed)

pub begun_in_space :
    (k : ℕ) (q b : Perm) (tree : PermTree) (es : List Entry) (e : Entry) (turns : List Turn) → k ≤ 44 → IsBegun k 0 q tree es e b turns
    → TurnsWithin 0 (2 ^ 44) turns
begun_in_space k q b tree es e turns most begun = in_space k turns most (begun_within begun)

pub alone_in_space : (k : ℕ) (p : Perm) (tree : PermTree) → k ≤ 44 → TurnsWithin 0 (2 ^ 44) (turns_in k 0 p tree)
alone_in_space k p tree most = in_space k (turns_in k 0 p tree) most (alone_within k 0 p tree)

-- ---- how a chain begins

-- the key as the code has it
abbrev code_key : Costs → Perm → ℕ
code_key costs NoAccess = 8 * costs.through.none.none
code_key costs Read = 8 * costs.through.read.none + 9
code_key costs ReadWrite = 8 * costs.through.read_write.none + 10
code_key costs Execute = 8 * costs.through.execute.none + 11
code_key costs ReadExecute = 8 * costs.through.read_execute.none + 12
code_key costs ReadWriteExecute = 8 * costs.through.all.none + 13

pub passed_key_is : (costs : Costs) (tree : PermTree) (key : ℕ) → AreCosts costs tree → AreSmall (2 ^ 22) costs → key ≡ least_of (code_key costs)
    → IsPassedKey tree key
passed_key_is costs tree key are small is =
    let r = least_is (code_key costs) in
    let t = least_is (λ p. change NoAccess p + through tree p NoAccess) in
    let number : key / 8 ≡ change NoAccess r.0 + through tree r.0 NoAccess = omega (arith, is, r.1, at_key r.0, index_small r.0) in
    let place : key % 8 ≡ index_of r.0 = omega (arith, is, r.1, at_key r.0, index_small r.0) in
    let perm : perm_of (key % 8) ≡ r.0 = ap perm_of place ∙ perm_of_index r.0 in
    let least : change NoAccess r.0 + through tree r.0 NoAccess ≡ passed tree =
    omega (
      arith,
      r.1,
      t.1,
      at_key r.0,
      at_key t.0,
      index_small r.0,
      index_small t.0,
      least_le (code_key costs) t.0,
      least_le (λ p. change NoAccess p + through tree p NoAccess) r.0,
    ) in (
      omega (arith, number, least),
      rw perm least,
      omega (arith, is, r.1, least_le (code_key costs) NoAccess, small.through.none.none),
    )
  where
    at_key : (p : Perm) → code_key costs p ≡ 8 * (change NoAccess p + through tree p NoAccess) + index_of p
    at_key NoAccess = omega (arith, are.through NoAccess NoAccess)
    at_key Read = omega (arith, are.through Read NoAccess)
    at_key ReadWrite = omega (arith, are.through ReadWrite NoAccess)
    at_key Execute = omega (arith, are.through Execute NoAccess)
    at_key ReadExecute = omega (arith, are.through ReadExecute NoAccess)
    at_key ReadWriteExecute = omega (arith, are.through ReadWriteExecute NoAccess)

-- what a chain alone costs, or more than all others where there is none
abbrev pub alone_or_more : ℕ → PermTree → ℕ
alone_or_more place tree = if place == 0 && perm_eq (last_perm tree) NoAccess then changes_in tree else 2 ^ 31

pub least_of_three : (place : ℕ) (tree : PermTree) → passed tree < 2 ^ 30
    → chained_cost place tree ≡ min (alone_or_more place tree) (min (passed tree) (begins tree NoAccess))
least_of_three place tree small = go (place == 0 && perm_eq (last_perm tree) NoAccess)
  where
    go :
        (b : Bool)
        → (if b then min (changes_in tree) (min (passed tree) (begins tree NoAccess)) else min (passed tree) (begins tree NoAccess))
        ≡ min (if b then changes_in tree else 2 ^ 31) (min (passed tree) (begins tree NoAccess))
    go true = refl
    go false = omega (arith, small)

pub is_alone : (place : ℕ) (tree : PermTree) → alone_or_more place tree < 2 ^ 31
    → (place ≡ 0) × ((last_perm tree ≡ NoAccess) × (alone_or_more place tree ≡ changes_in tree))
is_alone place tree less = go (place == 0) refl (perm_eq (last_perm tree) NoAccess) refl less
  where
    go :
        (a : Bool) → (place == 0) ≡ a → (b : Bool) → perm_eq (last_perm tree) NoAccess ≡ b → (if a && b then changes_in tree else 2 ^ 31) < 2 ^ 31
        → (place ≡ 0) × ((last_perm tree ≡ NoAccess) × ((if a && b then changes_in tree else 2 ^ 31) ≡ changes_in tree))
    go true zero_is true last_is less = (eqb-true place 0 zero_is, (perm_eq-true (last_perm tree) NoAccess last_is, refl))
    go true zero_is false last_is less = absurd (omega (arith, less))
    go false zero_is b last_is less = absurd (omega (arith, less))

-- ---- the plan is the shortest

pub fewest_by :
    (xlen : Xlen) (place n : ℕ) (view : View) (tree : PermTree) (list : Chained) → TreeMeansAt view (space_log2 xlen) 0 tree
    → IsMade xlen place view list n → chained_cost place tree ≡ n
    → IsFewestChained xlen place view list
fewest_by xlen place n view tree list means made least = record {
  chained = made.chained;
  means = made.means;
  least = λ other chained gives.
      (let most : chained_cost place tree ≤ length_of other = chained_le xlen place view tree other means chained gives in
      omega (arith, made.count, least, most));
}

pub alone_fewest :
    (xlen : Xlen) (place : ℕ) (view : View) (tree : PermTree) (list : Chained) → TreeMeansAt view (space_log2 xlen) 0 tree
    → HasNoneBehind (space_log2 xlen) view → IsKind place tree Alone → IsAlone (space_log2 xlen) tree list
    → IsFewestChained xlen place view list
alone_fewest xlen place view tree list means none kind is =
    subst (λ n. IsFewestChained xlen n view list) (sym kind.0)
    (subst (λ l. IsFewestChained xlen 0 view l) (sym is)
    (fewest_by xlen 0 (changes_in tree) view tree (alone_list (space_log2 xlen) tree) means (alone_made xlen view tree means none kind.1)
    (ap (λ n. chained_cost n tree) (sym kind.0) ∙ kind.2)))

pub passing_fewest :
    (xlen : Xlen) (place : ℕ) (view : View) (tree : PermTree) (p : Perm) (list : Chained) → TreeMeansAt view (space_log2 xlen) 0 tree
    → HasNoneBehind (space_log2 xlen) view → IsKind place tree (Passes p) → IsPassing (space_log2 xlen) p tree list
    → IsFewestChained xlen place view list
passing_fewest xlen place view tree p list means none kind is =
    subst (λ l. IsFewestChained xlen place view l) (sym is.3)
    (fewest_by xlen place (change NoAccess p + through tree p NoAccess) view tree (passed_list is.0 p is.1) means
    (passed_made xlen place view tree p is.0 is.1 means none is.2) kind)

pub beginning_fewest :
    (xlen : Xlen) (place : ℕ) (view : View) (tree : PermTree) (list : Chained) → TreeMeansAt view (space_log2 xlen) 0 tree
    → HasNoneBehind (space_log2 xlen) view → IsKind place tree Begins → IsBeginning (space_log2 xlen) tree list
    → IsFewestChained xlen place view list
beginning_fewest xlen place view tree list means none kind is =
    subst (λ l. IsFewestChained xlen place view l) (sym is.5)
    (fewest_by xlen place (begins tree NoAccess) view tree (begun_list is.0 is.1 is.2 is.3) means
    (begun_made xlen place view tree is.0 is.1 is.2 is.3 means none is.4) kind)

pub nothing_before : {X : Type 0} {old new added : List X} → old ≡ [] → new ≡ old ++ added → new ≡ added
nothing_before {added = added} none is = is ∙ ap (λ xs. xs ++ added) none

pub begun_is :
    (es : List Entry) (e : Entry) (b : Perm) (turns : List Turn) (blocks : List Entry) (tops : List Top) → blocks ≡ es ++ e ∷ [] → tops ≡ tops_from b turns
    → ◌≡◌ {A = Chained} (record { blocks = blocks; off = None; tops = tops }) (begun_list es e b turns)
begun_is es e b turns blocks tops x y =
    ap (λ (l : List Entry). record { blocks = l; off = None; tops = tops }) x
    ∙ ap (λ (l : List Top). record { blocks = es ++ e ∷ []; off = None; tops = l }) y

-- the part of the space that registers reach
pub space_means :
    (view : View) (whole part : PermTree) (k log2 : ℕ) → whole ≡ tree_of view → log2 ≡ k → log2 ≤ 44
    → ((view : View) (k : ℕ) → TreeMeansAt view (44 - log2 + k) 0 whole → TreeMeansAt view k 0 part)
    → TreeMeansAt view k 0 part
space_means view whole part k log2 is same most lowest =
    let all : 44 ≡ 44 - log2 + k = omega (arith, same, most) in
    lowest view k (subst (λ n. TreeMeansAt view n 0 whole) all (subst (λ t. TreeMeansAt view 44 0 t) (sym is) (tree_at-means view 44 0)))
