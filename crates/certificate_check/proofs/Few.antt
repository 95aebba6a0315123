-- A sound bound of a map's view is small: for each size at most one for each end of a run inside the space, and one more.
use Rattle.std.proofs.Common.{◌≡◌, ℕ, zero, suc, ◌+◌, ◌*◌, ◌^◌, ◌<◌, ◌≤◌, List, [], ◌∷◌, length, Result, Ok, Err, Bool, true, false, cond, ⊎_elim, pow_pos}
use Rattle.std.proofs.Common.{pow-suc, add_assoc, mul-le-mul_left, mul-add, suc-mul, arith, sym, refl, ap, ◌∙◌}
use Rattle.std.specs.Prelude.{IfOk, nat_lt, ◌&&◌, if◌then◌else◌}
use Rattle.std.proofs.lemmas.Bool.{cases_lt, eq-eqb}
use Rattle.std.proofs.lemmas.Bool.Decides.{nat_tests}
use Rattle.std.proofs.lemmas.Grind.{common_steps}
use Rattle.pmp_encoding.specs.declared.perm.Perm.{Perm}
use Rattle.pmp_encoding.specs.declared.perm.Perm.TheVariants.{NoAccess}
use Rattle.pmp_encoding.specs.Perms.{bits_of, perm_eq}
use Rattle.pmp_encoding.specs.Views.{View, IsUniform}
use Rattle.pmp_match.specs.Bounds.{BoundTree, Leaf, Branch, bound_of, IsSoundAt}
use Rattle.permission_map.specs.declared.runs.Run.{Run}
use Rattle.permission_map.specs.Runs.{end_of, in_range, view_of_runs}
use Rattle.certificate_check.specs.declared.refusal.CheckRefusal.{CheckRefusal}
use Rattle.certificate_format.specs.declared.costs.SixCosts.{SixCosts}
use Rattle.certificate_format.specs.Costs.{cost_of}
use Rattle.certificate_check.specs.Nodes.{IsNodeRead}

-- 1 where a page is one of those from `first` to before `end`, and not the first of them
abbrev inner : ℕ → ℕ → ℕ → ℕ
inner first end page = cond (nat_lt first page && nat_lt page end) 1 0

-- how many of the runs' first pages and ends stand so
abbrev edges : List Run → ℕ → ℕ → ℕ
edges [] first end = 0
edges (run ∷ runs) first end = inner first end run.first + inner first end (end_of run) + edges runs first end

inner_split : (first mid end page : ℕ) → first ≤ mid → mid ≤ end → inner first mid page + inner mid end page ≤ inner first end page
inner_split first mid end page a b = grind (arith, nat_tests, common_steps)

inner_most : (first end page : ℕ) → inner first end page ≤ 1
inner_most first end page = grind (arith, nat_tests, common_steps)

edges_split : (runs : List Run) (first mid end : ℕ) → first ≤ mid → mid ≤ end → edges runs first mid + edges runs mid end ≤ edges runs first end
edges_split [] first mid end a b = omega arith
edges_split (run ∷ runs) first mid end a b =
    omega (arith, inner_split first mid end run.first a b, inner_split first mid end (end_of run) a b, edges_split runs first mid end a b)

edges_most : (runs : List Run) (first end : ℕ) → edges runs first end ≤ 2 * length runs
edges_most [] first end = omega arith
edges_most (run ∷ runs) first end = omega (arith, inner_most first end run.first, inner_most first end (end_of run), edges_most runs first end)

-- a run that neither begins nor ends inside has all of the pages or none
same_side :
    (first end start count page : ℕ) → inner first end start ≡ 0 → inner first end (start + count) ≡ 0 → first ≤ page → page < end
    → in_range start count page ≡ in_range start count first
same_side first end start count page a b from to = grind (arith, nat_tests, common_steps)

one_permission : (runs : List Run) (first end page : ℕ) → edges runs first end ≡ 0 → first ≤ page → page < end
    → view_of_runs runs page ≡ view_of_runs runs first
one_permission [] first end page none from to = refl
one_permission (run ∷ runs) first end page none from to =
    let later : view_of_runs runs page ≡ view_of_runs runs first = one_permission runs first end page (omega arith) from to in
    let side : in_range run.first run.count page ≡ in_range run.first run.count first = same_side first end run.first run.count page (omega arith)
    (omega arith) from to in
    ap (λ t. cond t run.perm (view_of_runs runs page)) side ∙ ap (λ p. cond (in_range run.first run.count first) run.perm p) later

-- ---- the bound of a block of one permission

none_own : (q p : Perm) → q ≡ p → bound_of (Leaf q) p ≡ 0
none_own q p is = rw (eq-eqb (bits_of q) (bits_of p) (ap bits_of is)) refl

leaf_most : (q p : Perm) → bound_of (Leaf q) p ≤ 1
leaf_most q p = go (perm_eq q p)
  where
    go : (t : Bool) → (if t then 0 else 1) ≤ 1
    go true = omega arith
    go false = omega arith

-- the number for the block's own permission is 0, and the others are at most 1
record IsSmall (tree : BoundTree) (perm : Perm) : Type 0 where
  pub own : bound_of tree perm ≡ 0
  pub any : (p : Perm) → bound_of tree p ≤ 1

leaf_small : (view : View) (k first : ℕ) (q perm : Perm) → IsUniform view k first perm → IsUniform view k first q → IsSmall (Leaf q) perm
leaf_small view k first q perm uniform sound = record { own = none_own q perm (sym (sound 0 (pow_pos k)) ∙ uniform 0 (pow_pos k)); any = leaf_most q }

uniform_small : (view : View) (k first : ℕ) (tree : BoundTree) (perm : Perm) → IsUniform view k first perm → IsSoundAt view k first tree → IsSmall tree perm
uniform_small view zero first (Leaf q) perm uniform sound = leaf_small view zero first q perm uniform sound
uniform_small view (suc k) first (Leaf q) perm uniform sound = leaf_small view (suc k) first q perm uniform sound
uniform_small view zero first (Branch bounds lower upper) perm uniform sound = absurd sound
uniform_small view (suc k) first (Branch bounds lower upper) perm uniform (low, high, same, any) =
    let double : 2 ^ suc k ≡ 2 ^ k * 2 = pow-suc 2 k in
    let l = uniform_small view k first lower perm (λ i less. uniform i (omega arith)) low in
    let u = uniform_small view k (first + 2 ^ k) upper perm (λ i less. rw add_assoc (uniform (2 ^ k + i) (omega arith))) high in
    record {
      own = (let s = same perm in let a = l.own in let b = u.own in omega arith);
      any = λ p. let s = any p perm in let a = l.own in let b = u.own in
          omega arith;
    }

-- ---- the bound of any block

halves_most : (k e e1 e2 : ℕ) → e1 + e2 ≤ e → 0 < e → (1 + k * e1) + (1 + k * e2) ≤ 1 + suc k * e
halves_most k e e1 e2 split some =
    let most : k * (e1 + e2) ≤ k * e = mul-le-mul_left k split in
    let sum : k * (e1 + e2) ≡ k * e1 + k * e2 = mul-add k e1 e2 in
    let more : suc k * e ≡ k * e + e = suc-mul k e in
    omega arith

bound_most : (runs : List Run) (k first : ℕ) (tree : BoundTree) → IsSoundAt (view_of_runs runs) k first tree → (p : Perm)
    → bound_of tree p ≤ 1 + k * edges runs first (first + 2 ^ k)
bound_most runs k first (Leaf q) sound p = let l = leaf_most q p in omega arith
bound_most runs zero first (Branch bounds lower upper) sound p = absurd sound
bound_most runs (suc k) first (Branch bounds lower upper) (low, high, same, any) p =
    let double : 2 ^ suc k ≡ 2 ^ k * 2 = pow-suc 2 k in
    let end : first + 2 ^ k + 2 ^ k ≡ first + 2 ^ suc k = omega arith in
    let e : ℕ = edges runs first (first + 2 ^ suc k) in
    ⊎_elim
    (λ some.
    let l = bound_most runs k first lower low p in
    let u = bound_most runs k (first + 2 ^ k) upper high p in
    let whole : edges runs first (first + 2 ^ k + 2 ^ k) ≡ e = ap (λ n. edges runs first n) end in
    let parts = edges_split runs first (first + 2 ^ k) (first + 2 ^ k + 2 ^ k) (omega arith) (omega arith) in
    let both = halves_most k e (edges runs first (first + 2 ^ k)) (edges runs (first + 2 ^ k) (first + 2 ^ k + 2 ^ k)) (omega arith) some in
    let s = same p in
    omega arith)
    (λ none.
    let small = uniform_small (view_of_runs runs) (suc k) first (Branch bounds lower upper) (view_of_runs runs first)
    (λ i less. one_permission runs first (first + 2 ^ suc k) (first + i) (omega arith) (omega arith) (omega arith)) (low, high, same, any) in
    let a = small.any p in
    omega arith)
    (cases_lt 0 e)

-- of the whole space, where there are at most 4096 runs: 1 + 44 * 8192
root_most : (runs : List Run) (tree : BoundTree) → length runs ≤ 4096 → IsSoundAt (view_of_runs runs) 44 0 tree → (p : Perm) → bound_of tree p < 2 ^ 19
root_most runs tree few sound p =
    let most = bound_most runs 44 0 tree sound p in
    let e = edges_most runs 0 (0 + 2 ^ 44) in
    omega arith

pub few_needed :
    (runs : List Run) (bytes rest : List ℕ) (result : Result SixCosts CheckRefusal) → length runs ≤ 4096
    → IfOk result (λ numbers. IsNodeRead (view_of_runs runs) 44 0 bytes rest numbers) → IfOk result (λ numbers. numbers.no_access < 2 ^ 19)
few_needed runs bytes rest (Err refusal) few read = tt
few_needed runs bytes rest (Ok numbers) few read =
    let most = root_most runs read.tree few read.right.sound NoAccess in
    let number : cost_of numbers NoAccess ≡ bound_of read.tree NoAccess = read.numbers_of NoAccess in
    omega arith
