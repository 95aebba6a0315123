-- Chains of blocks.
use Rattle.std.proofs.Common.{◌≡◌, ◌≢◌, ℕ, zero, suc, ◌+◌, ◌-◌, ◌*◌, ◌/◌, ◌^◌, ◌<◌, ◌≤◌, ⊎_elim, List, [], ◌∷◌, length, slice_index_or, None, Some, true, false}
use Rattle.std.proofs.Common.{cond, refl, sym, ap, ap₂, subst, ◌∙◌, arith, pow_mono, pow_pos, pow-add, pow-suc, add-mul, mul-le-mul_right, suc-mul}
use Rattle.std.proofs.Math.Nat.{div-eq_of_lt, div-lt_iff_lt-mul, div-mul-le_self, lt-div-mul-add}
use Rattle.std.proofs.lemmas.Nat.{leading_length, xor_lt, xor_shr}
use Rattle.std.specs.Int.Bits.{bit_xor, xor_assoc, xor_self, xor_zero_r}
use Rattle.std.specs.Int.Count.{count_leading_zeros}
use Rattle.std.proofs.lemmas.Bool.{cases_lt, lt-ltb, le-ltb, lt-leb, le-leb, leb-true, leb-false}
use Rattle.pmp_encoding.specs.declared.perm.Perm.{Perm}
use Rattle.pmp_encoding.specs.declared.perm.Perm.TheVariants.{NoAccess}
use Rattle.permission_map.specs.declared.runs.Run.{Run}
use Rattle.permission_map.specs.Runs.{end_of, view_of_runs}
use Rattle.permission_map.proofs.Rising.{view_in, view_above, view_past}
use Rattle.prefix_tree.specs.Trees.{PermTree, Uniform, Split, TreeMeansAt}
use Rattle.prefix_tree.specs.Joined.{joined, one_perm}
use Rattle.prefix_tree.specs.TreeOf.{tree_at}
use Rattle.prefix_tree.specs.Counts.{splits}
use Rattle.prefix_tree.specs.Slices.{AreBlockRuns}
use Rattle.prefix_tree.specs.declared.chains.Chain.{Chain}
use Rattle.prefix_tree.specs.declared.chains.Edges.{Edges}
use Rattle.prefix_tree.specs.declared.chains.Part.{Part}
use Rattle.prefix_tree.specs.Chains.{nested, chained, goes_up, smaller, AreEdges, IsPartAround, HasEdges}
use Rattle.prefix_tree.proofs.Canonical.{tree_at-is, tree_at-means, not_one, one_run}

-- ---- a block and the next

pub nested_lower :
    (n place : ℕ) (before behind : Perm) (tree : PermTree) → place < 2 ^ n
    → nested (suc n) place before behind tree ≡ Split (nested n place before behind tree) (Uniform behind)
nested_lower n place before behind tree low =
    ap (λ t. cond t (Split (nested n place before behind tree) (Uniform behind)) (Split (Uniform before) (nested n (place - 2 ^ n) before behind tree)))
    (lt-ltb place (2 ^ n) low)

pub nested_upper :
    (n place : ℕ) (before behind : Perm) (tree : PermTree) → 2 ^ n ≤ place
    → nested (suc n) place before behind tree ≡ Split (Uniform before) (nested n (place - 2 ^ n) before behind tree)
nested_upper n place before behind tree high =
    ap (λ t. cond t (Split (nested n place before behind tree) (Uniform behind)) (Split (Uniform before) (nested n (place - 2 ^ n) before behind tree)))
    (le-ltb place (2 ^ n) high)

pub splits-nested : (n place : ℕ) (before behind : Perm) (tree : PermTree) → splits (nested n place before behind tree) ≡ n + splits tree
splits-nested zero place before behind tree = omega arith
splits-nested (suc n) place before behind tree =
    ⊎_elim (λ low. omega (arith, ap splits (nested_lower n place before behind tree low), splits-nested n place before behind tree))
    (λ high. omega (arith, ap splits (nested_upper n place before behind tree high), splits-nested n (place - 2 ^ n) before behind tree))
    (cases_lt place (2 ^ n))

pub splits-chained : (shape tree : PermTree) (chain : Chain) → shape ≡ chained chain tree → splits shape ≡ chain.levels + splits tree
splits-chained shape tree chain is = ap splits is ∙ splits-nested chain.levels chain.place chain.before chain.behind tree

-- the largest block splits into the next and one of one permission
pub smaller_lower :
    (chain : Chain) (tree : PermTree) → 0 < chain.levels → goes_up chain ≡ false
    → (chained chain tree ≡ Split (chained (smaller chain) tree) (Uniform chain.behind)) × ((smaller chain).place < 2 ^ (smaller chain).levels)
smaller_lower chain tree some down =
    let n = chain.levels - 1 in
    let up : chain.levels ≡ suc n = omega arith in
    let low : chain.place < 2 ^ n = leb-false (2 ^ n) chain.place down in
    let same : cond (goes_up chain) (chain.place - 2 ^ n) chain.place ≡ chain.place = ap (λ t. cond t (chain.place - 2 ^ n) chain.place) down in (
      ap (λ m. nested m chain.place chain.before chain.behind tree) up
          ∙ nested_lower n chain.place chain.before chain.behind tree low
          ∙ ap (λ p. Split (nested n p chain.before chain.behind tree) (Uniform chain.behind)) (sym same),
      omega (arith, same, low),
    )

pub smaller_upper :
    (chain : Chain) (tree : PermTree) → 0 < chain.levels → chain.place < 2 ^ chain.levels → goes_up chain ≡ true
    → (chained chain tree ≡ Split (Uniform chain.before) (chained (smaller chain) tree)) × ((smaller chain).place < 2 ^ (smaller chain).levels)
smaller_upper chain tree some placed up =
    let n = chain.levels - 1 in
    let next : chain.levels ≡ suc n = omega arith in
    let high : 2 ^ n ≤ chain.place = leb-true (2 ^ n) chain.place up in
    let double : 2 ^ chain.levels ≡ 2 ^ n * 2 = ap (λ m. 2 ^ m) next ∙ pow-suc 2 n in
    let same : cond (goes_up chain) (chain.place - 2 ^ n) chain.place ≡ chain.place - 2 ^ n = ap (λ t. cond t (chain.place - 2 ^ n) chain.place) up in (
      ap (λ m. nested m chain.place chain.before chain.behind tree) next
          ∙ nested_upper n chain.place chain.before chain.behind tree high
          ∙ ap (λ p. Split (Uniform chain.before) (nested n p chain.before chain.behind tree)) (sym same),
      omega (arith, same, high, placed, double),
    )

-- the code's place of the smallest block in the next
pub smaller_is : (chain : Chain) (half : ℕ) → half ≡ 2 ^ (chain.levels - 1) → half ≤ chain.place
    → ◌≡◌ {A = Chain} (record { levels = chain.levels - 1; place = chain.place - half; before = chain.before; behind = chain.behind }) (smaller chain)
smaller_is chain half is high =
    let make : ℕ → Chain = λ p. record { levels = chain.levels - 1; place = p; before = chain.before; behind = chain.behind } in
    let up : goes_up chain ≡ true = le-leb (2 ^ (chain.levels - 1)) chain.place (omega (arith, is)) in
    ap make (ap (λ n. chain.place - n) is ∙ sym (ap (λ t. cond t (chain.place - 2 ^ (chain.levels - 1)) chain.place) up))

pub smaller_stays : (chain : Chain) (half : ℕ) → half ≡ 2 ^ (chain.levels - 1) → chain.place < half
    → ◌≡◌ {A = Chain} (record { levels = chain.levels - 1; place = chain.place; before = chain.before; behind = chain.behind }) (smaller chain)
smaller_stays chain half is low =
    let make : ℕ → Chain = λ p. record { levels = chain.levels - 1; place = p; before = chain.before; behind = chain.behind } in
    let down : goes_up chain ≡ false = lt-leb (2 ^ (chain.levels - 1)) chain.place (omega (arith, is)) in
    ap make (sym (ap (λ t. cond t (chain.place - 2 ^ (chain.levels - 1)) chain.place) down))

-- ---- of a view

joined_lower : (lower upper : PermTree) → one_perm lower ≡ None → joined lower upper ≡ Split lower upper
joined_lower (Uniform q) upper none = absurd (let no : ⊥ = cc in no)
joined_lower (Split a b) upper none = refl

joined_upper : (lower upper : PermTree) → one_perm upper ≡ None → joined lower upper ≡ Split lower upper
joined_upper lower (Uniform q) none = absurd (let no : ⊥ = cc in no)
joined_upper (Uniform p) (Split c d) none = refl
joined_upper (Split a b) (Split c d) none = refl

-- so many parts of m pages, and more
pub parts_below : (place parts m : ℕ) → place < parts → place * m + m ≤ parts * m
parts_below place parts m less = let more : suc place * m ≤ parts * m = mul-le-mul_right m less in omega (arith, suc-mul place m)

parts_back : (place parts m : ℕ) → parts ≤ place → (place - parts) * m + parts * m ≡ place * m
parts_back place parts m more = let back : place - parts + parts ≡ place = omega arith in sym (add-mul (place - parts) parts m) ∙ ap (λ n. n * m) back

-- a block, of one permission before a smaller one and of one after it, that is not of one in all
abbrev Nests : (ℕ → Perm) → ℕ → ℕ → ℕ → ℕ → ℕ → Perm → Perm → Type 0
Nests v n h k first place before behind =
    (tree_at v h first ≡ nested n place before behind (tree_at v k (first + place * 2 ^ k))) × (one_perm (tree_at v h first) ≡ None)

wider : (h m : ℕ) → h ≡ suc m → 2 ^ h ≡ 2 ^ m * 2
wider h m e = ap (λ x. 2 ^ x) e ∙ pow-suc 2 m

halves_of : (v : ℕ → Perm) (h m first : ℕ) → h ≡ suc m → tree_at v h first ≡ joined (tree_at v m first) (tree_at v m (first + 2 ^ m))
unfolding tree_at
halves_of v h m first e = ap (λ x. tree_at v x first) e

moved : (v : ℕ → Perm) (first n i : ℕ) → v (first + n + i) ≡ v (first + (n + i))
moved v first n i = let same : first + n + i ≡ first + (n + i) = omega arith in ap v same

nests_lower :
    (v : ℕ → Perm) (n h k first place : ℕ) (before behind : Perm) → h ≡ suc (n + k) → place < 2 ^ n
    → ((i : ℕ) → place * 2 ^ k + 2 ^ k ≤ i → i < 2 ^ h → v (first + i) ≡ behind) → Nests v n (n + k) k first place before behind
    → Nests v (suc n) h k first place before behind
nests_lower v n h k first place before behind e low a r =
    let size : 2 ^ (n + k) ≡ 2 ^ n * 2 ^ k = pow-add 2 n k in
    let wide = wider h (n + k) e in
    let fits : place * 2 ^ k + 2 ^ k ≤ 2 ^ n * 2 ^ k = parts_below place (2 ^ n) (2 ^ k) low in
    let rest : tree_at v (n + k) (first + 2 ^ (n + k)) ≡ Uniform behind =
    tree_at-is v (n + k) (first + 2 ^ (n + k)) (Uniform behind) tt
    (λ i to. moved v first (2 ^ (n + k)) i ∙ a (2 ^ (n + k) + i) (omega (arith, size, fits)) (omega (arith, wide, to))) in
    let whole = halves_of v h (n + k) first e ∙ joined_lower (tree_at v (n + k) first) (tree_at v (n + k) (first + 2 ^ (n + k))) r.1 in (
      whole ∙ ap₂ Split r.0 rest ∙ sym (nested_lower n place before behind (tree_at v k (first + place * 2 ^ k)) low),
      ap one_perm whole,
    )

pub upper_place : (n k first place : ℕ) → 2 ^ n ≤ place → first + 2 ^ (n + k) + (place - 2 ^ n) * 2 ^ k ≡ first + place * 2 ^ k
upper_place n k first place high = omega (arith, pow-add 2 n k, parts_back place (2 ^ n) (2 ^ k) high)

nests_upper :
    (v : ℕ → Perm) (n h k first place : ℕ) (before behind : Perm) → h ≡ suc (n + k) → 2 ^ n ≤ place
    → ((i : ℕ) → i < place * 2 ^ k → v (first + i) ≡ before) → Nests v n (n + k) k (first + 2 ^ (n + k)) (place - 2 ^ n) before behind
    → Nests v (suc n) h k first place before behind
nests_upper v n h k first place before behind e high b r =
    let size : 2 ^ (n + k) ≡ 2 ^ n * 2 ^ k = pow-add 2 n k in
    let back : (place - 2 ^ n) * 2 ^ k + 2 ^ n * 2 ^ k ≡ place * 2 ^ k = parts_back place (2 ^ n) (2 ^ k) high in
    let rest : tree_at v (n + k) first ≡ Uniform before =
    tree_at-is v (n + k) first (Uniform before) tt (λ i to. b i (omega (arith, size, back, to))) in
    let whole = halves_of v h (n + k) first e ∙ joined_upper (tree_at v (n + k) first) (tree_at v (n + k) (first + 2 ^ (n + k))) r.1 in (
      whole
          ∙ ap₂ Split rest (r.0 ∙ ap (λ x. nested n (place - 2 ^ n) before behind (tree_at v k x)) (upper_place n k first place high))
          ∙ sym (nested_upper n place before behind (tree_at v k (first + place * 2 ^ k)) high),
      ap one_perm whole,
    )

pub nests :
    (v : ℕ → Perm) (n h k first place : ℕ) (before behind : Perm) → h ≡ n + k → place < 2 ^ n → one_perm (tree_at v k (first + place * 2 ^ k)) ≡ None
    → ((i : ℕ) → i < place * 2 ^ k → v (first + i) ≡ before) → ((i : ℕ) → place * 2 ^ k + 2 ^ k ≤ i → i < 2 ^ h → v (first + i) ≡ behind)
    → Nests v n h k first place before behind
nests v zero h k first place before behind e less cut b a =
    let none : place ≡ 0 = omega arith in
    let here : first + 0 * 2 ^ k ≡ first = omega arith in
    let level : h ≡ k = omega arith in
    let same : tree_at v h first ≡ tree_at v k (first + place * 2 ^ k) =
    ap₂ (tree_at v) level (sym here ∙ ap (λ p. first + p * 2 ^ k) (sym none)) in
    (same, ap one_perm same ∙ cut)
nests v (suc n) h k first place before behind e less cut b a =
    let up : h ≡ suc (n + k) = omega arith in
    let size : 2 ^ (n + k) ≡ 2 ^ n * 2 ^ k = pow-add 2 n k in
    let wide = wider h (n + k) up in
    ⊎_elim
    (λ low. nests_lower v n h k first place before behind up low a (nests v n (n + k) k first place before behind refl low cut b
    (λ i from to. a i from (omega (arith, wide, to)))))
    (λ high.
    let back : (place - 2 ^ n) * 2 ^ k + 2 ^ n * 2 ^ k ≡ place * 2 ^ k = parts_back place (2 ^ n) (2 ^ k) high in
    nests_upper v n h k first place before behind up high b
    (nests v n (n + k) k (first + 2 ^ (n + k)) (place - 2 ^ n) before behind refl (omega (arith, less, high, pow-suc 2 n))
    (ap (λ x. one_perm (tree_at v k x)) (upper_place n k first place high) ∙ cut)
    (λ i to. moved v first (2 ^ (n + k)) i ∙ b (2 ^ (n + k) + i) (omega (arith, size, back, to)))
    (λ i from to. moved v first (2 ^ (n + k)) i ∙ a (2 ^ (n + k) + i) (omega (arith, size, back, from)) (omega (arith, wide, to)))))
    (cases_lt place (2 ^ n))

-- ---- the part of a block that has its edges

edge_inside :
    (v : ℕ → Perm) (k start low : ℕ) (before : Perm) → start < low → low < start + 2 ^ k → v start ≡ before → v low ≢ before
    → one_perm (tree_at v k start) ≡ None
edge_inside v k start low before begins ends first apart =
    not_one (tree_at v k start)
    (λ q same.
    let means : TreeMeansAt v k start (Uniform q) = rw same at (tree_at-means v k start) in
    let here : start ≡ start + 0 = omega arith in
    let there : low ≡ start + (low - start) = omega arith in
    let one : v start ≡ q = ap v here ∙ means 0 (pow_pos k) in
    let two : v low ≡ q = ap v there ∙ means (low - start) (omega arith) in
    apart (two ∙ sym one ∙ first))

pub part_chained :
    (v : ℕ → Perm) (first height : ℕ) (edges : Edges) (part : Part) → AreEdges v first (first + 2 ^ height) edges → HasEdges first height edges part
    → tree_at v height first ≡ nested part.levels part.place edges.before edges.behind (tree_at v (height - part.levels) part.first)
part_chained v first height edges part are is =
    let k = height - part.levels in
    let level : height ≡ part.levels + k = omega (arith, is.within) in
    let cut : one_perm (tree_at v k part.first) ≡ None =
    edge_inside v k part.first edges.low edges.before is.begins (omega (arith, are.rising, is.reaches))
    (are.before part.first (omega (arith, is.starts)) is.begins) are.apart in
    (nests v part.levels height k first part.place edges.before edges.behind level is.placed (ap (λ x. one_perm (tree_at v k x)) (sym is.starts) ∙ cut)
    (λ i to. are.before (first + i) (omega arith) (omega (arith, is.starts, is.begins, to)))
    (λ i from to. are.behind (first + i) (omega (arith, is.starts, is.reaches, from)) (omega (arith, to)))).0
    ∙ ap (λ x. nested part.levels part.place edges.before edges.behind (tree_at v k x)) (sym is.starts)

-- the whole block
-- numbers that differ in digits below a place alone are the same above it
same_above : (a b m : ℕ) → bit_xor a b < 2 ^ m → a / 2 ^ m ≡ b / 2 ^ m
same_above a b m few =
    let p = a / 2 ^ m in
    let q = b / 2 ^ m in
    let none : bit_xor p q ≡ 0 = sym (xor_shr a b m) ∙ div-eq_of_lt few in
    sym (xor_zero_r p) ∙ ap (bit_xor p) (sym (xor_self q)) ∙ sym (xor_assoc p q q) ∙ ap (λ x. bit_xor x q) none

-- a number of few digits is short
short : (x m height : ℕ) → 2 ^ m ≤ 2 * x + 1 → x < 2 ^ height → m ≤ height
short x m height long less =
    ⊎_elim (λ more. let far : 2 ^ suc height ≤ 2 ^ m = pow_mono more in absurd (omega (arith, far, pow-suc 2 height))) (λ within. within) (cases_lt height m)

-- the part by the digits in which the places of the page before the first edge and of the last edge differ
pub part_is :
    (first height low high log2 : ℕ) → height ≤ 44 → first < low → low ≤ high → high < first + 2 ^ height
    → log2 ≡ 64 - count_leading_zeros 64 (bit_xor (low - first - 1) (high - first))
    → (log2 ≤ height)
    × IsPartAround first height low high (height - log2) ((high - first) / 2 ^ log2) (first + (high - first) / 2 ^ log2 * 2 ^ log2)
part_is first height low high log2 small begins rising ends is =
    let a = low - first - 1 in
    let b = high - first in
    let place = b / 2 ^ log2 in
    let inside : b < 2 ^ height = omega arith in
    let few : bit_xor a b < 2 ^ height = xor_lt height a b (omega arith) inside in
    let most : 2 ^ height ≤ 2 ^ 44 = pow_mono small in
    let l = leading_length 64 (bit_xor a b) (omega (arith, few, most)) in
    let length_is : l.0 ≡ log2 = omega (arith, is, l.1) in
    let L : ℕ → Type 0 = λ m. (bit_xor a b < 2 ^ m) × (2 ^ m ≤ 2 * bit_xor a b + 1) in
    let long = subst L length_is (l.2, l.3) in
    let within : log2 ≤ height = short (bit_xor a b) log2 height long.1 few in
    let left : height - (height - log2) ≡ log2 = omega arith in
    let size : 2 ^ (height - (height - log2)) ≡ 2 ^ log2 = ap (λ n. 2 ^ n) left in
    let both : height ≡ height - log2 + log2 = omega arith in
    let whole : 2 ^ height ≡ 2 ^ (height - log2) * 2 ^ log2 = ap (λ n. 2 ^ n) both ∙ pow-add 2 (height - log2) log2 in
    let placed : place < 2 ^ (height - log2) = (div-lt_iff_lt-mul (pow_pos log2)).1 (omega (arith, inside, whole)) in
    let same : a / 2 ^ log2 * 2 ^ log2 ≡ place * 2 ^ log2 = ap (λ x. x * 2 ^ log2) (same_above a b log2 long.0) in
    let at_most : a / 2 ^ log2 * 2 ^ log2 ≤ a = div-mul-le_self a (2 ^ log2) in
    let above : b < place * 2 ^ log2 + 2 ^ log2 = lt-div-mul-add (pow_pos log2) in
    let below : place * 2 ^ log2 + 2 ^ log2 ≤ 2 ^ (height - log2) * 2 ^ log2 = parts_below place (2 ^ (height - log2)) (2 ^ log2) placed in (
      within,
      record {
        within = omega arith;
        placed = placed;
        starts = ap (λ n. first + place * n) (sym size);
        ends = omega (arith, size, whole, below);
        begins = omega (arith, same, at_most);
        reaches = omega (arith, size, above);
      },
    )

-- ---- the edges of one run

pub run_ends :
    (run : Run) (first height : ℕ) → AreBlockRuns (run ∷ []) first height → one_perm (tree_at (view_of_runs (run ∷ [])) height first) ≡ None → run.first ≤ first
    → AreEdges (view_of_runs (run ∷ [])) first (first + 2 ^ height) (record { low = end_of run; high = end_of run; before = run.perm; behind = NoAccess })
run_ends run first height are cut begins =
    record {
      low = are.meet.0.ends;
      rising = omega arith;
      high =
          ⊎_elim (λ within. within)
          (λ past.
          let whole : one_perm (tree_at (view_of_runs (run ∷ [])) height first) ≡ Some run.perm = one_run run [] height first begins (omega arith) in
          absurd (let no : ⊥ = cc in no))
          (cases_lt (end_of run) (first + 2 ^ height));
      apart = λ same. are.are_runs.0.allows (sym same ∙ view_past run [] (end_of run) (omega arith));
      before = λ page from to. view_in run [] page (omega (arith, begins, from)) to;
      behind = λ page from to. view_past run [] page from;
    }

pub run_inside :
    (run : Run) (first height : ℕ) → AreBlockRuns (run ∷ []) first height → first < run.first → end_of run < first + 2 ^ height
    → AreEdges (view_of_runs (run ∷ [])) first (first + 2 ^ height) (record { low = run.first; high = end_of run; before = NoAccess; behind = NoAccess })
run_inside run first height are begins ends =
    record {
      low = begins;
      rising = omega arith;
      high = ends;
      apart = λ same. are.are_runs.0.allows (sym (view_in run [] run.first (omega arith) (omega (arith, are.are_runs.0.some))) ∙ same);
      before = λ page from to. view_above run [] page to;
      behind = λ page from to. view_past run [] page from;
    }

pub run_begins :
    (run : Run) (first height : ℕ) → AreBlockRuns (run ∷ []) first height → first < run.first → first + 2 ^ height ≤ end_of run
    → AreEdges (view_of_runs (run ∷ [])) first (first + 2 ^ height) (record { low = run.first; high = run.first; before = NoAccess; behind = run.perm })
run_begins run first height are begins ends =
    record {
      low = begins;
      rising = omega arith;
      high = are.meet.0.begins;
      apart = λ same. are.are_runs.0.allows (sym (view_in run [] run.first (omega arith) (omega (arith, are.are_runs.0.some))) ∙ same);
      before = λ page from to. view_above run [] page to;
      behind = λ page from to. view_in run [] page from (omega (arith, ends, to));
    }

-- the one run of a list
pub one_run_is : (runs : List Run) (d : Run) → 1 ≤ length runs → length runs < 2 → runs ≡ slice_index_or runs 0 d ∷ []
one_run_is [] d some one = absurd (omega arith)
one_run_is (run ∷ []) d some one = refl
one_run_is (run ∷ (next ∷ runs)) d some one = absurd (omega arith)

-- the part of the block that has its edges is a block of the run, too
pub part_runs :
    (run : Run) (first height : ℕ) (edges : Edges) (part : Part) → AreBlockRuns (run ∷ []) first height → edges.low ≤ end_of run → run.first ≤ edges.high
    → HasEdges first height edges part → AreBlockRuns (run ∷ []) part.first (height - part.levels)
part_runs run first height edges part are ends begins is =
    record {
      low = omega (arith, are.low);
      inside = omega (arith, are.inside, is.ends);
      are_runs = are.are_runs;
      meet = (record { rising = omega arith; some = are.meet.0.some; begins = omega (arith, begins, is.reaches); ends = omega (arith, ends, is.begins) }, tt);
    }
