-- The decision by the first match, as tests one after another.
use Rattle.std.proofs.Common.{◌≡◌, ◌≢◌, ◌+◌, ◌-◌, ◌<◌, ◌≤◌, ⊎_elim, max, List, [], ◌∷◌, ◌++◌, Bool, true, false, cond, ◌&&◌, ◌||◌}
use Rattle.std.proofs.Common.{nat_lt, nat_le, refl, sym, ap, subst, ◌∙◌, arith}
use Rattle.std.specs.List.{AllByRecursion}
use Rattle.std.proofs.lemmas.Bool.{ltb-true, leb-true, lt-ltb, le-leb, and_from, and_parts, false_from_ne_true, both_ways}
use Rattle.std.proofs.lemmas.List.Elements.{All-nil, All-cons, All-head, All-tail}
use Rattle.pmp_encoding.specs.declared.extent.Extent.{Extent}
use Rattle.pmp_match.specs.declared.access.Access.{Access}
use Rattle.pmp_match.specs.declared.access.Mode.{Mode}
use Rattle.pmp_match.specs.declared.access.Mode.TheVariants.{Machine, Supervisor, User}
use Rattle.pmp_match.specs.Decision.{is_machine}
use Rattle.pmp_match.specs.Kinds.{holds}
use Rattle.pmp_match.specs.Matching.{touches, grants, lets_through}
use Rattle.pmp_match.proofs.Decided.{size_positive}
use Rattle.pmp_match.specs.RegisterDecision.{ContainsAll, IsFirstMatch, IsWords, Meets, NoneMeets, Permits}

pub not_machine : (m : Mode) → m ≢ Machine → is_machine m ≡ false
not_machine Machine user = absurd (user refl)
not_machine Supervisor user = refl
not_machine User user = refl

-- ---- one extent

pub Meets-from_test : (x : Extent) (a : Access) → IsWords x → touches x a ≡ true → Meets x a
Meets-from_test x a words h =
    let both : (nat_lt x.base (a.address + a.size) ≡ true) × (nat_lt a.address x.end ≡ true) = and_parts _ _ h in
    let low : x.base < a.address + a.size = ltb-true _ _ both.0 in
    let high : a.address < x.end = ltb-true _ _ both.1 in
    let some : 0 < a.size = size_positive a.kind a.size a.sized in
    let long : x.base < x.end = ⊎_elim (λ more. more) (λ none. absurd (omega (arith, none.1, high))) words.some in
    (max x.base a.address, (omega arith, omega arith), (omega arith, omega arith))

pub test_from_Meets : (x : Extent) (a : Access) → Meets x a → touches x a ≡ true
test_from_Meets x a m =
    let low : x.base < a.address + a.size = omega (arith, m.1.1, m.2.0) in
    let high : a.address < x.end = omega (arith, m.1.0, m.2.1) in
    and_from _ _ (lt-ltb _ _ low) (lt-ltb _ _ high)

pub untouched : (x : Extent) (a : Access) → IsWords x → ¬ Meets x a → touches x a ≡ false
untouched x a words off = false_from_ne_true _ (λ t. off (Meets-from_test x a words t))

pub contains_from_ends : (x : Extent) (a : Access) → x.base ≤ a.address → a.address + a.size ≤ x.end → ContainsAll x a
contains_from_ends x a low high byte reach = (omega (arith, low, reach.0), omega (arith, high, reach.1))

pub ends_from_contains : (x : Extent) (a : Access) → ContainsAll x a → (x.base ≤ a.address) × (a.address + a.size ≤ x.end)
ends_from_contains x a c =
    let some : 0 < a.size = size_positive a.kind a.size a.sized in
    let first : (x.base ≤ a.address) × (a.address < x.end) = c a.address (omega arith, omega arith) in
    let last : (x.base ≤ a.address + a.size - 1) × (a.address + a.size - 1 < x.end) = c (a.address + a.size - 1) (omega arith, omega arith) in
    (first.0, omega (arith, last.1))

granted : (x : Extent) (a : Access) → ContainsAll x a → holds x.perm a.kind ≡ true → grants x a ≡ true
granted x a c may =
    let ends = ends_from_contains x a c in
    rw (le-leb _ _ ends.0, le-leb _ _ ends.1, may) (or_true (is_machine a.mode))
  where
    or_true : (t : Bool) → (t || true) ≡ true
    or_true true = refl
    or_true false = refl

contained : (x : Extent) (a : Access) → grants x a ≡ true → ContainsAll x a
contained x a h =
    let both = and_parts _ _ h in
    let ends : (nat_le x.base a.address ≡ true) × (nat_le (a.address + a.size) x.end ≡ true) = and_parts _ _ both.0 in
    contains_from_ends x a (leb-true _ _ ends.0) (leb-true _ _ ends.1)

held : (x : Extent) (a : Access) → is_machine a.mode ≡ false → grants x a ≡ true → holds x.perm a.kind ≡ true
held x a user h =
    let both : ((nat_le x.base a.address && nat_le (a.address + a.size) x.end) ≡ true) × ((is_machine a.mode || holds x.perm a.kind) ≡ true) = and_parts _ _ h
    in
    ap (λ t. t || holds x.perm a.kind) (sym user) ∙ both.1

-- ---- a list

-- one extent before the others that has no byte of the access
pub later : (x : Extent) (xs : List Extent) (a : Access) (y : Extent) → ¬ Meets x a → IsFirstMatch xs a y → IsFirstMatch (x ∷ xs) a y
later x xs a y off first = record {
  before = x ∷ first.before;
  after = first.after;
  split = ap (λ ys. x ∷ ys) first.split;
  missed = All-cons (λ z. ¬ Meets z a) x first.before off first.missed;
  met = first.met;
}

pub at_once : (x : Extent) (xs : List Extent) (a : Access) → Meets x a → IsFirstMatch (x ∷ xs) a x
at_once x xs a met = record { before = []; after = xs; split = refl; missed = All-nil (λ z. ¬ Meets z a); met = met }

pub permits_from_test : (xs : List Extent) (a : Access) → is_machine a.mode ≡ false → AllByRecursion IsWords xs → lets_through xs a ≡ true → Permits xs a
permits_from_test [] a user words h = absurd (both_ways (is_machine a.mode) user h)
permits_from_test (x ∷ xs) a user words h = go (touches x a) refl h (permits_from_test xs a user words.1)
  where
    go : (t : Bool) → touches x a ≡ t → cond t (grants x a) (lets_through xs a) ≡ true → (lets_through xs a ≡ true → Permits xs a) → Permits (x ∷ xs) a
    go true is h rest = record { extent = x; first = at_once x xs a (Meets-from_test x a words.0 is); whole = contained x a h; may = held x a user h }
    go false is h rest =
        let p = rest h in
        record {
          extent = p.extent;
          first = later x xs a p.extent (λ m. both_ways (touches x a) is (test_from_Meets x a m)) p.first;
          whole = p.whole;
          may =
              p.may;
        }

-- the answer goes by what comes after the extents that do not meet the access
through_after : (before after : List Extent) (a : Access) → AllByRecursion IsWords (before ++ after) → NoneMeets before a
    → lets_through (before ++ after) a ≡ lets_through after a
through_after [] after a words none = refl
through_after (x ∷ before) after a words none =
    let P : Extent → Type 0 = λ z. ¬ Meets z a in
    ap (λ t. cond t (grants x a) (lets_through (before ++ after) a)) (untouched x a words.0 (All-head P x before none))
    ∙ through_after before after a words.1 (All-tail P x before none)

pub test_from_permits : (xs : List Extent) (a : Access) → AllByRecursion IsWords xs → Permits xs a → lets_through xs a ≡ true
test_from_permits xs a words p =
    let first = p.first in
    let parts : AllByRecursion IsWords (first.before ++ p.extent ∷ first.after) = subst (λ (ys : List Extent). AllByRecursion IsWords ys) first.split words in
    ap (λ ys. lets_through ys a) first.split
    ∙ through_after first.before (p.extent ∷ first.after) a parts first.missed
    ∙ ap (λ t. cond t (grants p.extent a) (lets_through first.after a)) (test_from_Meets p.extent a first.met)
    ∙ granted p.extent a p.whole p.may
