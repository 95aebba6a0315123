-- Pages of a group.
use Rattle.std.proofs.Common.{◌≡◌, ℕ, zero, suc, ◌+◌, ◌-◌, ◌≤◌, ◌==◌, if◌then◌else◌, List, [], ◌∷◌, Option, None, Box, Global, slice_index_or, slice_set}
use Rattle.std.proofs.Common.{replicate, arith, refl, ap, sym, ◌∙◌}
use Rattle.std.specs.Box.{with_value}
use Rattle.std.specs.Prelude.{Result, Ok, Err, OnErr}
use Rattle.std.proofs.lemmas.Bool.Decides.{nat_tests}
use Rattle.std.proofs.lemmas.Grind.{common_steps}
use Rattle.hart_sim.specs.declared.page_group.PageGroup.{PageGroup}
use Rattle.hart_sim.specs.Memory.{in_range}
use Rattle.hart_sim.specs.Groups.{bytes_of, page_at}

pub none_at : {X : Type 0} (n k : ℕ) → slice_index_or {A = Option X} (replicate n None) k None ≡ None
none_at zero k = refl
none_at (suc n) zero = refl
none_at (suc n) (suc k) = none_at n k

gone : {X : Type 0} (xs : List (Option X)) (i k : ℕ) → slice_index_or (slice_set xs i None) k None ≡ (if i == k then None else slice_index_or xs k None)
gone [] i k = grind (arith, common_steps)
gone (x ∷ xs) zero zero = grind (arith, nat_tests, common_steps)
gone (x ∷ xs) zero (suc k) = grind (arith, nat_tests, common_steps)
gone (x ∷ xs) (suc i) zero = grind (arith, nat_tests, common_steps)
gone (x ∷ xs) (suc i) (suc k) = grind (arith, nat_tests, common_steps, gone xs i k)

-- one page more is forgotten
pub forgets_more : (pages : List (Option (Box (List ℕ) Global))) (old : PageGroup) (from place : ℕ) → from ≤ place
    → ((k : ℕ) → bytes_of (slice_index_or pages k None) ≡ (if in_range from (place - from) k then None else page_at old k))
    → (k : ℕ) → bytes_of (slice_index_or (slice_set pages place None) k None) ≡ (if in_range from (place + 1 - from) k then None else page_at old k)
forgets_more pages old from place low so k = grind (arith, nat_tests, common_steps, so k, gone pages place k)

-- what stands at a place is put back there
pub put_back : {X : Type 0} (xs : List (Option X)) (i : ℕ) (x other : Option X) → slice_index_or xs i other ≡ x → slice_set xs i x ≡ xs
put_back [] i x other is = refl
put_back (y ∷ ys) zero x other is = ap (λ z. z ∷ ys) (sym is)
put_back (y ∷ ys) (suc i) x other is = ap (λ zs. y ∷ zs) (put_back ys i x other is)

-- what a clause of an `Err` gives
pub on_err : {T E P Q : Type 0} (r : Result T E) → (P → Q) → OnErr r P → OnErr r Q
on_err (Ok x) f p = tt
on_err (Err e) f p = f p

-- a group that is as it was
pub same_group : (group : Box PageGroup Global) (new was : PageGroup) → new ≡ was → was ≡ group.value → with_value group new ≡ group
same_group group new was is from = ap (with_value group) (is ∙ from)
