-- The canonical tree of a view, and of the runs that meet a block.
use Rattle.std.proofs.Common.{◌≡◌, ℕ, zero, suc, ◌+◌, ◌-◌, ◌*◌, ◌^◌, ◌<◌, ◌≤◌, ◌⊎◌, ⊎_elim, List, [], ◌∷◌, ◌++◌, length, take, drop, get_or, slice_index_or}
use Rattle.std.proofs.Common.{count_by, None, Some, refl, sym, ap, ap₂, ◌∙◌, arith, pow_pos}
use Rattle.std.proofs.lemmas.List.{take-append-drop}
use Rattle.pmp_encoding.specs.declared.perm.Perm.{Perm}
use Rattle.pmp_encoding.specs.declared.perm.Perm.TheVariants.{NoAccess}
use Rattle.permission_map.specs.declared.runs.Run.{Run}
use Rattle.permission_map.specs.Runs.{end_of, view_of_runs, AreRunsAfter, AreRuns}
use Rattle.permission_map.specs.Overwrite.{last_end, last_perm}
use Rattle.std.proofs.lemmas.Bool.{cases_lt}
use Rattle.permission_map.proofs.Rising.{view_in, runs_first, runs_second}
use Rattle.permission_map.proofs.Searched.{next_is, begins_inside, ends_inside}
use Rattle.prefix_tree.specs.Trees.{PermTree, Uniform, Split, TreeMeansAt, TreeMeans, IsCanonical, Fits}
use Rattle.prefix_tree.specs.Joined.{joined, one_perm}
use Rattle.prefix_tree.specs.Slices.{MeetBehind, AreBlockRuns}
use Rattle.prefix_tree.specs.TreeOf.{tree_at, tree_of}
use Rattle.prefix_tree.specs.Counts.{runs_in, splits}
use Rattle.prefix_tree.proofs.Edges.{splits-edges, edges-runs}
use Rattle.prefix_tree.proofs.RunCount.{runs_in-length}
use Rattle.prefix_tree.proofs.Meant.{means_along, means_fits, one_canonical}
use Rattle.prefix_tree.proofs.Counted.{Fits-more}
use Rattle.prefix_tree.proofs.Joins.{Joins, two, joins, joined_canonical, joined_means}
use Rattle.prefix_tree.proofs.Cut.{begins_before, ends_before, lower_meet, lower_view, upper_meet, upper_view}

-- ---- of a view

pub tree_at-means : (v : ℕ → Perm) (k first : ℕ) → TreeMeansAt v k first (tree_at v k first)
unfolding tree_at
tree_at-means v zero first = λ i h. let e : first + i ≡ first = omega arith in ap v e
tree_at-means v (suc k) first =
    joined_means v k first (tree_at v k first) (tree_at v k (first + 2 ^ k)) (tree_at-means v k first) (tree_at-means v k (first + 2 ^ k))

pub tree_at-canonical : (v : ℕ → Perm) (k first : ℕ) → IsCanonical (tree_at v k first)
unfolding tree_at
tree_at-canonical v zero first = tt
tree_at-canonical v (suc k) first =
    joined_canonical (tree_at v k first) (tree_at v k (first + 2 ^ k)) (tree_at-canonical v k first) (tree_at-canonical v k (first + 2 ^ k))

pub tree_at-fits : (v : ℕ → Perm) (k first : ℕ) → Fits k (tree_at v k first)
tree_at-fits v k first = means_fits v k first (tree_at v k first) (tree_at-means v k first)

-- a tree that is canonical and means the view is this one
pub tree_at-is : (v : ℕ → Perm) (k first : ℕ) (tree : PermTree) → IsCanonical tree → TreeMeansAt v k first tree → tree_at v k first ≡ tree
tree_at-is v k first tree canonical means =
    one_canonical v k first (tree_at v k first) tree (tree_at-canonical v k first) canonical (tree_at-means v k first) means

-- two views that agree over a block have one tree there
pub tree_at-same : (v w : ℕ → Perm) (k first : ℕ) → ((i : ℕ) → i < 2 ^ k → v (first + i) ≡ w (first + i)) → tree_at v k first ≡ tree_at w k first
tree_at-same v w k first same =
    sym (tree_at-is w k first (tree_at v k first) (tree_at-canonical v k first) (means_along v w k first (tree_at v k first) same (tree_at-means v k first)))

joins_split : (lower upper tree : PermTree) → Joins lower upper tree → one_perm tree ≡ None → tree ≡ Split lower upper
joins_split lower upper (Uniform q) j none = absurd (let no : ⊥ = cc in no)
joins_split lower upper (Split l u) (two apart) none = refl

joined_split : (lower upper : PermTree) → one_perm (joined lower upper) ≡ None → joined lower upper ≡ Split lower upper
joined_split lower upper none = joins_split lower upper (joined lower upper) (joins lower upper) none

-- a block that is not of one permission is split into its halves' trees
pub tree_at-halves :
    (v : ℕ → Perm) (h k first : ℕ) → h ≡ suc k → one_perm (tree_at v h first) ≡ None
    → tree_at v h first ≡ Split (tree_at v k first) (tree_at v k (first + 2 ^ k))
unfolding tree_at
tree_at-halves v h k first e none =
    let whole : tree_at v h first ≡ joined (tree_at v k first) (tree_at v k (first + 2 ^ k)) = ap (λ n. tree_at v n first) e in
    whole ∙ joined_split (tree_at v k first) (tree_at v k (first + 2 ^ k)) (sym (ap one_perm whole) ∙ none)

-- ---- of the runs that meet a block

any_runs : (at : ℕ) (before : Perm) (runs : List Run) → AreRunsAfter at before runs → AreRuns runs
any_runs at before [] are = tt
any_runs at before (run ∷ runs) are =
    (record { rising = omega arith; maximal = λ touch. are.0.allows; some = are.0.some; allows = are.0.allows; inside = are.0.inside }, are.1)

runs_parted : (n : ℕ) (runs : List Run) → AreRuns runs → AreRuns (take n runs ++ drop n runs)
runs_parted n runs are = rw (take-append-drop n runs) are

runs_taken : (n : ℕ) (runs : List Run) → AreRuns runs → AreRuns (take n runs)
runs_taken n runs are = runs_first 0 NoAccess (take n runs) (drop n runs) (runs_parted n runs are)

runs_dropped : (n : ℕ) (runs : List Run) → AreRuns runs → AreRuns (drop n runs)
runs_dropped n runs are =
    any_runs (last_end 0 (take n runs)) (last_perm NoAccess (take n runs)) (drop n runs)
    (runs_second 0 NoAccess (take n runs) (drop n runs) (runs_parted n runs are))

-- the runs that meet each half
pub lower_runs :
    (runs : List Run) (h k first : ℕ) → h ≡ suc k → AreBlockRuns runs first h
    → AreBlockRuns (take (count_by (begins_before (first + 2 ^ k)) runs) runs) first k
lower_runs runs h k first e are =
    let double : 2 ^ h ≡ 2 ^ k + 2 ^ k = ap (λ n. 2 ^ n) e ∙ omega (arith, pow_pos k) in
    record {
      low = omega (arith, are.low);
      inside = omega (arith, are.inside);
      are_runs = runs_taken (count_by (begins_before (first + 2 ^ k)) runs) runs are.are_runs;
      meet = lower_meet first (first + 2 ^ h) (first + 2 ^ k) runs are.meet;
    }

pub upper_runs :
    (runs : List Run) (h k first : ℕ) → h ≡ suc k → AreBlockRuns runs first h
    → AreBlockRuns (drop (count_by (ends_before (first + 2 ^ k)) runs) runs) (first + 2 ^ k) k
upper_runs runs h k first e are =
    let double : 2 ^ h ≡ 2 ^ k + 2 ^ k = ap (λ n. 2 ^ n) e ∙ omega (arith, pow_pos k) in
    let end : first + 2 ^ h ≡ first + 2 ^ k + 2 ^ k = omega arith in
    record {
      low = omega (arith, are.low);
      inside = omega (arith, are.inside);
      are_runs = runs_dropped (count_by (ends_before (first + 2 ^ k)) runs) runs are.are_runs;
      meet = rw end at (upper_meet first (first + 2 ^ h) (first + 2 ^ k) runs are.meet);
    }

-- the block is split into the trees of the runs of each half
pub runs_halved :
    (runs : List Run) (h k first : ℕ) → h ≡ suc k → AreBlockRuns runs first h → one_perm (tree_at (view_of_runs runs) h first) ≡ None
    → tree_at (view_of_runs runs) h first
    ≡ Split (tree_at (view_of_runs (take (count_by (begins_before (first + 2 ^ k)) runs) runs)) k first)
    (tree_at (view_of_runs (drop (count_by (ends_before (first + 2 ^ k)) runs) runs)) k (first + 2 ^ k))
runs_halved runs h k first e are none =
    let middle = first + 2 ^ k in
    let low = tree_at-same (view_of_runs runs) (view_of_runs (take (count_by (begins_before middle) runs) runs)) k first
    (λ i below. sym (lower_view first (first + 2 ^ h) middle (first + i) runs are.meet (omega arith))) in
    let high = tree_at-same (view_of_runs runs) (view_of_runs (drop (count_by (ends_before middle) runs) runs)) k middle
    (λ i below. sym (upper_view first (first + 2 ^ h) middle (middle + i) runs are.meet (omega arith))) in
    tree_at-halves (view_of_runs runs) h k first e none ∙ ap₂ Split low high

-- ---- a block of one permission

pub no_runs : (h first : ℕ) → one_perm (tree_at (view_of_runs []) h first) ≡ Some NoAccess
no_runs h first = ap one_perm (tree_at-is (view_of_runs []) h first (Uniform NoAccess) tt (λ i below. refl))

pub one_run :
    (run : Run) (runs : List Run) (h first : ℕ) → run.first ≤ first → first + 2 ^ h - run.first ≤ run.count
    → one_perm (tree_at (view_of_runs (run ∷ runs)) h first) ≡ Some run.perm
one_run run runs h first begins ends =
    ap one_perm
    (tree_at-is (view_of_runs (run ∷ runs)) h first (Uniform run.perm) tt
    (λ i below. view_in run runs (first + i) (omega arith) (omega arith)))

all_behind : (at low high : ℕ) (runs : List Run) → MeetBehind at low high runs → (j : ℕ) (d : Run) → j < length runs → low < end_of (get_or runs j d)
all_behind at low high [] meet j d inside = absurd (omega arith)
all_behind at low high (run ∷ runs) meet zero d inside = meet.0.ends
all_behind at low high (run ∷ runs) meet (suc j) d inside = all_behind (end_of run) low high runs meet.1 j d (omega arith)

pub not_one : (tree : PermTree) → ((q : Perm) → tree ≡ Uniform q → ⊥) → one_perm tree ≡ None
not_one (Uniform q) not = absurd (not q refl)
not_one (Split lower upper) not = refl

pub more_runs :
    (run : Run) (runs : List Run) (h first : ℕ) → AreBlockRuns (run ∷ runs) first h → (first < run.first) ⊎ (end_of run < first + 2 ^ h)
    → one_perm (tree_at (view_of_runs (run ∷ runs)) h first) ≡ None
more_runs run runs h first are cut =
    let next = next_is (run ∷ runs) first 0 run are.are_runs (λ j d inside. absurd (omega arith)) (all_behind 0 first (first + 2 ^ h) (run ∷ runs) are.meet)
    (omega arith) in
    let view = view_of_runs (run ∷ runs) in
    not_one (tree_at view h first)
    (λ q same.
    let means : TreeMeansAt view h first (Uniform q) = rw same at (tree_at-means view h first) in
    ⊎_elim (λ low. begins_inside (run ∷ runs) first (2 ^ h) run next low are.meet.0.begins q means)
    (λ high.
    ⊎_elim (λ low. begins_inside (run ∷ runs) first (2 ^ h) run next low are.meet.0.begins q means)
    (λ low. ends_inside (run ∷ runs) first (2 ^ h) run next low high q means)
    (cases_lt first run.first))
    cut)

-- ---- the same, as the code has them

pub none_at : (runs : List Run) (h first : ℕ) → length runs < 1 → Some NoAccess ≡ one_perm (tree_at (view_of_runs runs) h first)
none_at [] h first none = sym (no_runs h first)
none_at (run ∷ runs) h first none = absurd (omega arith)

pub one_at :
    (runs : List Run) (d : Run) (h first : ℕ) → 1 ≤ length runs → (slice_index_or runs 0 d).first ≤ first
    → first + 2 ^ h - (slice_index_or runs 0 d).first ≤ (slice_index_or runs 0 d).count
    → Some (slice_index_or runs 0 d).perm ≡ one_perm (tree_at (view_of_runs runs) h first)
one_at [] d h first some begins ends = absurd (omega arith)
one_at (run ∷ runs) d h first some begins ends = sym (one_run run runs h first begins ends)

pub more_at :
    (runs : List Run) (d : Run) (h first : ℕ) → 1 ≤ length runs → AreBlockRuns runs first h
    → (first < (slice_index_or runs 0 d).first) ⊎ (end_of (slice_index_or runs 0 d) < first + 2 ^ h) → None ≡ one_perm (tree_at (view_of_runs runs) h first)
more_at [] d h first some are cut = absurd (omega arith)
more_at (run ∷ runs) d h first some are cut = sym (more_runs run runs h first are cut)

-- a page is not split
pub split_high : (v : ℕ → Perm) (h first : ℕ) → one_perm (tree_at v h first) ≡ None → 0 < h
unfolding tree_at
split_high v zero first none = absurd (let no : ⊥ = cc in no)
split_high v (suc h) first none = omega arith

-- the halves of a block of the space
pub halves_fit : (tree lower upper : PermTree) → tree ≡ Split lower upper → Fits 44 tree → Fits 44 lower × Fits 44 upper
halves_fit tree lower upper e fits =
    let halves : Fits 44 (Split lower upper) = rw e at fits in
    (Fits-more 43 44 lower (omega arith) halves.0, Fits-more 43 44 upper (omega arith) halves.1)

-- ---- the tree of a map

pub map_fits : (runs : List Run) (tree : PermTree) → tree ≡ tree_of (view_of_runs runs) → Fits 44 tree
map_fits runs tree e = rw e (tree_at-fits (view_of_runs runs) 44 0)

pub map_canonical : (runs : List Run) (tree : PermTree) → tree ≡ tree_of (view_of_runs runs) → IsCanonical tree
map_canonical runs tree e = rw e (tree_at-canonical (view_of_runs runs) 44 0)

pub map_means : (runs : List Run) (tree : PermTree) → tree ≡ tree_of (view_of_runs runs) → TreeMeans (view_of_runs runs) tree
map_means runs tree e = rw e (tree_at-means (view_of_runs runs) 44 0)

pub map_runs : (runs : List Run) (tree : PermTree) → tree ≡ tree_of (view_of_runs runs) → AreRuns runs → runs_in tree ≡ length runs
map_runs runs tree e are = runs_in-length (view_of_runs runs) tree runs (map_means runs tree e) are (λ page h. refl)

pub map_splits : (runs : List Run) (tree : PermTree) → tree ≡ tree_of (view_of_runs runs) → AreRuns runs → splits tree ≤ 88 * length runs
map_splits runs tree e are =
    omega (arith, splits-edges 44 tree (map_fits runs tree e) (map_canonical runs tree e), edges-runs tree, map_runs runs tree e are)
