-- Eight aligned bytes are cut by an entry with an end in their middle alone.
use Rattle.std.proofs.Common.{◌≡◌, ◌≢◌, ◌∙◌, ℕ, ◌+◌, ◌/◌, ◌%◌, ◌^◌, ◌<◌, ◌≤◌, ◌⊎◌, ◌↔◌, inl, inr, ⊎_elim, suc, zero, List, [], ◌∷◌, ◌++◌, All, length, take}
use Rattle.std.proofs.Common.{drop, get_or, Some, true, ap, refl, sym, subst, arith, max}
use Rattle.std.specs.Prelude.{IsTrue, nat_lt, slice_get}
use Rattle.std.specs.List.{AllByRecursion}
use Rattle.std.proofs.lemmas.Bool.{cases_lt, eqb-true, lt-ltb, ltb-true, or_cases}
use Rattle.std.proofs.lemmas.List.Elements.{recursion_from_All, All-from_recursion}
use Rattle.std.proofs.lemmas.Option.{get_or_from_slice_get, slice_get-get_or, slice_get_within}
use Rattle.pmp_encoding.specs.declared.extent.Extent.{Extent}
use Rattle.pmp_encoding.specs.declared.perm.Perm.{Perm}
use Rattle.pmp_encoding.specs.declared.perm.Perm.TheVariants.{NoAccess, Read, ReadWrite, Execute, ReadExecute, ReadWriteExecute}
use Rattle.pmp_encoding.specs.Views.{View}
use Rattle.pmp_match.specs.declared.access.Access.{Access}
use Rattle.pmp_match.specs.declared.access.Kind.{Kind}
use Rattle.pmp_match.specs.declared.access.Kind.TheVariants.{Fetch, Load, Store}
use Rattle.pmp_match.specs.Accesses.{IsAligned}
use Rattle.pmp_match.specs.Kinds.{has_size, holds}
use Rattle.pmp_match.specs.RegisterDecision.{ContainsAll, ExtentsMean, IsFirstMatch, IsNeverCut, IsWords, Meets, NoneMeets}
use Rattle.pmp_match.specs.Tor.{nowhere}
use Rattle.pmp_match.proofs.RegistersDecided.{contains_from_ends, ends_from_contains}
use Rattle.pmp_match.proofs.RegistersEachByte.{IsSmall, small_contained}
use Rattle.pmp_match.proofs.RegistersUncut.{one_match}
use Rattle.register_audit.specs.Findings.{IsCut, IsFirstOf, IsLowestCut, IsUncut, load_of_eight}
use Rattle.register_audit.proofs.Each.{split_at}

-- ---- an extent and eight bytes

pub met_from_ends : (x : Extent) (at : ℕ) → IsWords x → x.base < at + 8 → at < x.end → Meets x (load_of_eight at)
met_from_ends x at words low high =
    let long : x.base < x.end = ⊎_elim (λ more. more) (λ none. absurd (omega (arith, none.1, high))) words.some in
    (max x.base at, (omega arith, omega arith), (omega arith, omega arith))

pub ends_from_met : (x : Extent) (at : ℕ) → Meets x (load_of_eight at) → (x.base < at + 8) × (at < x.end)
ends_from_met x at m = (omega (arith, m.1.1, m.2.0), omega (arith, m.1.0, m.2.1))

-- an extent that has some of eight aligned bytes and not all has an end in their middle
pub ends_inside : (x : Extent) (at : ℕ) → IsWords x → at % 8 ≡ 0 → Meets x (load_of_eight at) → ¬ ContainsAll x (load_of_eight at)
    → (at + 4 ≡ x.base) ⊎ (at + 4 ≡ x.end)
ends_inside x at words aligned met partly =
    let ends = ends_from_met x at met in
    ⊎_elim (λ below. inl (omega (arith, below, ends.0, words.base, aligned)))
    (λ begun.
    ⊎_elim (λ short. inr (omega (arith, short, ends.1, words.end, aligned))) (λ whole. absurd (partly (contains_from_ends x (load_of_eight at) begun whole)))
    (cases_lt x.end (at + 8)))
    (cases_lt at x.base)

-- and one with an end in their middle does not have all
pub middle_partly : (x : Extent) (at : ℕ) → (at + 4 ≡ x.base) ⊎ (at + 4 ≡ x.end) → ¬ ContainsAll x (load_of_eight at)
middle_partly x at end whole =
    let ends = ends_from_contains x (load_of_eight at) whole in
    ⊎_elim (λ low. omega (arith, low, ends.0)) (λ high. omega (arith, high, ends.1)) end

-- ---- an entry of a list

pub at_place : (P : Extent → Type 0) (xs : List Extent) (i : ℕ) (x : Extent) → All P xs → slice_get xs i ≡ Some x → P x
at_place P xs i x all is = subst P (get_or_from_slice_get xs i x nowhere is) (all i nowhere (slice_get_within xs i x is))

split_by : (xs : List Extent) (i : ℕ) (x : Extent) → slice_get xs i ≡ Some x → xs ≡ take i xs ++ x ∷ drop (i + 1) xs
split_by xs i x is = split_at xs i nowhere (slice_get_within xs i x is) ∙ ap (λ y. take i xs ++ y ∷ drop (i + 1) xs) (get_or_from_slice_get xs i x nowhere is)

pub cut_boundary : (view : View) (xs : List Extent) (i at : ℕ) (x : Extent) → All IsWords xs → slice_get xs i ≡ Some x → IsCut view xs i at
    → (at + 4 ≡ x.base) ⊎ (at + 4 ≡ x.end)
cut_boundary view xs i at x words is cut =
    let same : cut.extent ≡ x = sym (get_or_from_slice_get xs i cut.extent nowhere cut.first.number) ∙ get_or_from_slice_get xs i x nowhere is in
    subst (λ y. (at + 4 ≡ y.base) ⊎ (at + 4 ≡ y.end)) same
    (ends_inside cut.extent at (at_place IsWords xs i cut.extent words cut.first.number) cut.aligned cut.first.met cut.partly)

-- a list that cuts eight bytes does not mean the view
pub cut_not : (view : View) (xs : List Extent) (i at : ℕ) → IsCut view xs i at → ¬ ExtentsMean xs view
cut_not view xs i at cut means =
    let p = (means (load_of_eight at) cut.aligned cut.inside (λ machine. cc)).1 cut.may in
    let first : IsFirstMatch xs (load_of_eight at) cut.extent = record {
      before = take i xs;
      after = drop (i + 1) xs;
      split = split_by xs i cut.extent cut.first.number;
      missed = cut.first.missed;
      met = cut.first.met;
    } in
    cut.partly (subst (λ y. ContainsAll y (load_of_eight at)) (one_match xs (load_of_eight at) p.extent cut.extent p.first first) p.whole)

-- ---- the sizes of accesses

pub data Size (kind : Kind) (size : ℕ) : Type 0 where
  small : IsSmall size → Size kind size
  eight : size ≡ 8 → kind ≢ Fetch → Size kind size

pub size_of : (kind : Kind) (size : ℕ) → has_size kind size ≡ true → Size kind size
size_of Fetch size h = ⊎_elim (λ e. small (inr (inl (eqb-true size 2 e)))) (λ e. small (inr (inr (eqb-true size 4 e)))) (or_cases _ _ h)
size_of Load size h =
    ⊎_elim (λ p. ⊎_elim (λ e. small (inl (eqb-true size 1 e))) (λ e. small (inr (inl (eqb-true size 2 e)))) (or_cases _ _ p))
    (λ p. ⊎_elim (λ e. small (inr (inr (eqb-true size 4 e)))) (λ e. eight (eqb-true size 8 e) (λ k. cc)) (or_cases _ _ p)) (or_cases _ _ h)
size_of Store size h =
    ⊎_elim (λ p. ⊎_elim (λ e. small (inl (eqb-true size 1 e))) (λ e. small (inr (inl (eqb-true size 2 e)))) (or_cases _ _ p))
    (λ p. ⊎_elim (λ e. small (inr (inr (eqb-true size 4 e)))) (λ e. eight (eqb-true size 8 e) (λ k. cc)) (or_cases _ _ p)) (or_cases _ _ h)

reads : (perm : Perm) (kind : Kind) → kind ≢ Fetch → holds perm kind ≡ true → holds perm Load ≡ true
reads perm Fetch other h = absurd (other refl)
reads perm Load other h = h
reads NoAccess Store other h = cc
reads Read Store other h = cc
reads ReadWrite Store other h = refl
reads Execute Store other h = cc
reads ReadExecute Store other h = cc
reads ReadWriteExecute Store other h = refl

-- ---- no access is cut

take_before : {X : Type 0} (before : List X) (x : X) (after : List X) → take (length before) (before ++ x ∷ after) ≡ before
take_before [] x after = refl
take_before (y ∷ before) x after = ap (λ ys. y ∷ ys) (take_before before x after)

get_before : {X : Type 0} (before : List X) (x : X) (after : List X) → slice_get (before ++ x ∷ after) (length before) ≡ Some x
get_before [] x after = refl
get_before (y ∷ before) x after = get_before before x after

all_misses : (xs : List Extent) (a : Access) → a.size ≡ 8 → AllByRecursion (λ x. ¬ Meets x a) xs → AllByRecursion (λ x. ¬ Meets x (load_of_eight a.address)) xs
all_misses [] a size none = tt
all_misses (x ∷ xs) a size none =
    ((λ m. none.0 (m.0, (m.1.0, (let last = m.1.1 in omega (arith, last, size))), m.2)), all_misses xs a size none.1)

eight_bytes : (view : View) (xs : List Extent) (a : Access) (x : Extent) → AllByRecursion IsWords xs → ((i : ℕ) → IsUncut view xs i) → a.size ≡ 8 → IsAligned a
    → a.address < 2 ^ 56
    → holds (view (a.address / 4096)) Load ≡ true → IsFirstMatch xs a x → (¬ ContainsAll x (load_of_eight a.address)) → ⊥
eight_bytes view xs a x words uncut size aligned inside may first partly =
    let P : Extent → Type 0 = λ y. ¬ Meets y (load_of_eight a.address) in
    uncut (length first.before) a.address
    (record {
      aligned = rw size at aligned;
      inside = inside;
      may = may;
      extent = x;
      first = record {
        number = ap (λ ys. slice_get ys (length first.before)) first.split ∙ get_before first.before x first.after;
        missed =
            subst (λ (ys : List Extent). All P ys) (sym (ap (λ ys. take (length first.before) ys) first.split ∙ take_before first.before x first.after))
            (All-from_recursion P first.before (all_misses first.before a size (recursion_from_All (λ y. ¬ Meets y a) first.before first.missed)));
        met = (first.met.0, (first.met.1.0, (let last = first.met.1.1 in omega (arith, last, size))), first.met.2);
      };
      partly = partly;
    })

words_of : (before after : List Extent) (x : Extent) → AllByRecursion IsWords (before ++ x ∷ after) → IsWords x
words_of [] after x words = words.0
words_of (y ∷ before) after x words = words_of before after x words.1

pub never_cut : (view : View) (xs : List Extent) → AllByRecursion IsWords xs → ((i : ℕ) → IsUncut view xs i) → IsNeverCut xs view
never_cut view xs words uncut a aligned inside user may x first = by (size_of a.kind a.size a.sized)
  where
    long : IsWords x
    long = words_of first.before first.after x (subst (λ (ys : List Extent). AllByRecursion IsWords ys) first.split words)

    whole : a.size ≡ 8 → a.kind ≢ Fetch → (x.base ≤ a.address) × (a.address + 8 ≤ x.end)
    whole size other =
        let not : ¬ ¬ ContainsAll x (load_of_eight a.address) = λ partly. eight_bytes view xs a x words uncut size aligned inside
        (reads (view (a.address / 4096)) a.kind other may) first partly in
        ⊎_elim (λ below. absurd (not (λ c. let ends = ends_from_contains x (load_of_eight a.address) c in omega (arith, ends.0, below))))
        (λ begun.
        ⊎_elim (λ short. absurd (not (λ c. let ends = ends_from_contains x (load_of_eight a.address) c in omega (arith, ends.1, short)))) (λ all. (begun, all))
        (cases_lt x.end (a.address + 8)))
        (cases_lt a.address x.base)

    by : Size a.kind a.size → ContainsAll x a
    by (small s) = small_contained x a long aligned s first.met
    by (eight s other) = let ends = whole s other in contains_from_ends x a ends.0 (omega (arith, s, ends.1))

-- ---- what is looked for

pub met_by : (x : Extent) (at : ℕ) → IsWords x → x.base < at + 8 → IsTrue (nat_lt at x.end) ↔ Meets x (load_of_eight at)
met_by x at words low = ((λ t. met_from_ends x at words low (ltb-true _ _ t)), (λ m. lt-ltb _ _ (ends_from_met x at m).1))

pub some_meets : (xs : List Extent) (i at : ℕ) → i < length xs → Meets (get_or xs i nowhere) (load_of_eight at) → ¬ NoneMeets xs (load_of_eight at)
some_meets xs i at inside met none = none i nowhere inside met

-- the end of an entry that cuts is a multiple of four
pub end_four : (xs : List Extent) (i end : ℕ) → All IsWords xs → i < length xs → ((x : Extent) → slice_get xs i ≡ Some x → (end ≡ x.base) ⊎ (end ≡ x.end))
    → end % 4 ≡ 0
end_four xs i end words inside ends =
    let w = words i nowhere inside in
    ⊎_elim (λ low. omega (arith, low, w.base)) (λ high. omega (arith, high, w.end)) (ends (get_or xs i nowhere) (slice_get-get_or xs i nowhere inside))

pub cut_found : (view : View) (xs : List Extent) (i end at : ℕ) → All IsWords xs → i < length xs
    → ((x : Extent) → slice_get xs i ≡ Some x → (end ≡ x.base) ⊎ (end ≡ x.end)) → end ≤ 2 ^ 56
    → (end % 8 ≡ 0 → ⊥) → end ≡ at + 4 → holds (view (at / 4096)) Load ≡ true → ((x : Extent) → slice_get xs i ≡ Some x → IsFirstOf xs i at x)
    → IsCut view xs i at
cut_found view xs i end at words inside ends within other is may first =
    let four = end_four xs i end words inside ends in
    let x = get_or xs i nowhere in
    let number = slice_get-get_or xs i nowhere inside in
    let middle : (at + 4 ≡ (get_or xs i nowhere).base) ⊎ (at + 4 ≡ (get_or xs i nowhere).end) =
    ⊎_elim (λ low. inl (sym is ∙ low)) (λ high. inr (sym is ∙ high)) (ends (get_or xs i nowhere) number) in
    record {
      aligned = aligned_at end at four other is;
      inside = omega (arith, is, within);
      may = may;
      extent = x;
      first = first x number;
      partly = middle_partly x at middle;
    }
  where
    aligned_at : (end at : ℕ) → end % 4 ≡ 0 → (end % 8 ≡ 0 → ⊥) → end ≡ at + 4 → at % 8 ≡ 0
    aligned_at end at four other is = go (at % 8) refl
      where
        go : (n : ℕ) → at % 8 ≡ n → at % 8 ≡ 0
        go zero e = e
        go (suc n) e = absurd (other (omega (arith, four, is, e)))

-- the lowest eight bytes that an entry cuts
pub lowest_base : (view : View) (xs : List Extent) (i at : ℕ) → All IsWords xs → i < length xs → at + 4 ≡ (get_or xs i nowhere).base → IsCut view xs i at
    → IsLowestCut view xs i at
lowest_base view xs i at words inside is cut =
    let w = words i nowhere inside in
    record {
      cut = cut;
      lowest = λ other cuts.
          ⊎_elim (λ low. omega (arith, is, low))
          (λ high. ⊎_elim (λ long. omega (arith, is, high, long)) (λ none. absurd (omega (arith, is, none.0))) w.some)
          (cut_boundary view xs i other (get_or xs i nowhere) words (slice_get-get_or xs i nowhere inside) cuts);
    }

pub lowest_end : (view : View) (xs : List Extent) (i at : ℕ) → All IsWords xs → i < length xs → at + 4 ≡ (get_or xs i nowhere).end
    → ((other : ℕ) → other + 4 ≡ (get_or xs i nowhere).base → ¬ IsCut view xs i other) → IsCut view xs i at → IsLowestCut view xs i at
lowest_end view xs i at words inside is below cut = record {
  cut = cut;
  lowest = λ other cuts.
      ⊎_elim (λ low. absurd (below other low cuts)) (λ high. omega (arith, is, high))
      (cut_boundary view xs i other (get_or xs i nowhere) words (slice_get-get_or xs i nowhere inside) cuts);
}

pub uncut_by : (view : View) (xs : List Extent) (i : ℕ) → All IsWords xs → i < length xs
    → ((other : ℕ) → other + 4 ≡ (get_or xs i nowhere).base → ¬ IsCut view xs i other)
    → ((other : ℕ) → other + 4 ≡ (get_or xs i nowhere).end → ¬ IsCut view xs i other) → IsUncut view xs i
uncut_by view xs i words inside low high at cut =
    ⊎_elim (λ b. low at b cut) (λ e. high at e cut) (cut_boundary view xs i at (get_or xs i nowhere) words (slice_get-get_or xs i nowhere inside) cut)

pub uncut_more : (view : View) (xs : List Extent) (i : ℕ) → ((j : ℕ) → j < i → IsUncut view xs j) → IsUncut view xs i → (j : ℕ) → j < i + 1 → IsUncut view xs j
uncut_more view xs i before here j less =
    ⊎_elim (λ under. before j under) (λ over. let same : i ≡ j = omega (arith, over, less) in subst (λ k. IsUncut view xs k) same here) (cases_lt j i)

pub uncut_all : (view : View) (xs : List Extent) (i : ℕ) → length xs ≤ i → ((j : ℕ) → j < i → IsUncut view xs j) → (j : ℕ) → IsUncut view xs j
uncut_all view xs i all before j at cut = before j (omega (arith, all, slice_get_within xs j cut.extent cut.first.number)) at cut
