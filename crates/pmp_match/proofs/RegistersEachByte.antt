-- Extents that mean a view give each byte the view's permission: they are made of aligned words of four bytes.
use Rattle.std.proofs.Common.{◌≡◌, ℕ, ◌+◌, ◌*◌, ◌/◌, ◌%◌, ◌^◌, ◌<◌, ◌≤◌, ◌⊎◌, inl, inr, List, [], ◌∷◌, Bool, true, false, cond, nat_lt}
use Rattle.std.proofs.Common.{nat_le, refl, sym, ap, ap₂, ◌∙◌, arith}
use Rattle.std.specs.List.{AllByRecursion}
use Rattle.std.proofs.lemmas.Bool.{ltb-true, leb-true, lt-ltb, le-leb, and_from, and_parts}
use Rattle.pmp_encoding.specs.declared.extent.Extent.{Extent}
use Rattle.pmp_encoding.specs.Views.{View}
use Rattle.pmp_match.specs.declared.access.Access.{Access}
use Rattle.pmp_match.specs.declared.access.Kind.{Kind}
use Rattle.pmp_match.specs.declared.access.Kind.TheVariants.{Fetch, Load, Store}
use Rattle.pmp_match.specs.declared.access.Mode.TheVariants.{Supervisor}
use Rattle.pmp_match.specs.Accesses.{IsAligned}
use Rattle.pmp_match.specs.Decision.{is_machine}
use Rattle.pmp_match.specs.Kinds.{has_size, holds}
use Rattle.pmp_match.specs.Matching.{touches, grants, lets_through}
use Rattle.pmp_match.proofs.Decided.{size_positive}
use Rattle.pmp_match.proofs.FirstByte.{no_access, same_bool, same_perm}
use Rattle.pmp_match.specs.RegisterBytes.{has_byte, perm_at}
use Rattle.pmp_match.specs.RegisterDecision.{ContainsAll, ExtentsMean, IsWords, Meets}
use Rattle.pmp_match.proofs.RegistersDecided.{contains_from_ends, permits_from_test, test_from_permits}

-- ---- an access of at most four bytes

abbrev pub IsSmall : ℕ → Type 0
IsSmall size = (size ≡ 1) ⊎ ((size ≡ 2) ⊎ (size ≡ 4))

-- at a multiple of its size it has no boundary of words inside it
inside4 : (base end at size : ℕ) → base % 4 ≡ 0 → end % 4 ≡ 0 → at % size ≡ 0 → IsSmall size → base < at + size → at < end → (base ≤ at) × (at + size ≤ end)
inside4 base end at size b l aligned (inl e) low high = (omega (arith, e, low), omega (arith, e, high))
inside4 base end at size b l aligned (inr (inl e)) low high = let a : at % 2 ≡ 0 = rw e at aligned in
    (omega (arith, e, a, b, low), omega (arith, e, a, l, high))
inside4 base end at size b l aligned (inr (inr e)) low high = let a : at % 4 ≡ 0 = rw e at aligned in
    (omega (arith, e, a, b, low), omega (arith, e, a, l, high))

-- an extent that has a byte of it has all
pub small_contained : (x : Extent) (a : Access) → IsWords x → IsAligned a → IsSmall a.size → Meets x a → ContainsAll x a
small_contained x a words aligned small m =
    let ends = inside4 x.base x.end a.address a.size words.base words.end aligned small (omega (arith, m.1.1, m.2.0)) (omega (arith, m.1.0, m.2.1)) in
    contains_from_ends x a ends.0 ends.1

touched : (x : Extent) (a : Access) → IsWords x → IsAligned a → IsSmall a.size → touches x a ≡ has_byte x a.address
touched x a words aligned small = same_bool (touches x a) (has_byte x a.address) there back
  where
    there : touches x a ≡ true → has_byte x a.address ≡ true
    there h =
        let both : (nat_lt x.base (a.address + a.size) ≡ true) × (nat_lt a.address x.end ≡ true) = and_parts _ _ h in
        let ends = inside4 x.base x.end a.address a.size words.base words.end aligned small (ltb-true _ _ both.0) (ltb-true _ _ both.1) in
        and_from _ _ (le-leb _ _ ends.0) both.1

    back : has_byte x a.address ≡ true → touches x a ≡ true
    back h =
        let both : (nat_le x.base a.address ≡ true) × (nat_lt a.address x.end ≡ true) = and_parts _ _ h in
        let low : x.base ≤ a.address = leb-true _ _ both.0 in
        let some : 0 < a.size = size_positive a.kind a.size a.sized in
        let under : x.base < a.address + a.size = omega (arith, low, some) in
        and_from _ _ (lt-ltb _ _ under) both.1

grants_held : (x : Extent) (a : Access) → is_machine a.mode ≡ false → IsWords x → IsAligned a → IsSmall a.size → has_byte x a.address ≡ true
    → grants x a ≡ holds x.perm a.kind
grants_held x a user words aligned small h =
    let both : (nat_le x.base a.address ≡ true) × (nat_lt a.address x.end ≡ true) = and_parts _ _ h in
    let low : x.base ≤ a.address = leb-true _ _ both.0 in
    let some : 0 < a.size = size_positive a.kind a.size a.sized in
    let ends = inside4 x.base x.end a.address a.size words.base words.end aligned small (omega (arith, low, some)) (ltb-true _ _ both.1) in
    rw (both.0, le-leb _ _ ends.1, user) refl

-- the answer to it is that of the permission at its first byte
pub small_answer : (xs : List Extent) (a : Access) → is_machine a.mode ≡ false → AllByRecursion IsWords xs → IsAligned a → IsSmall a.size
    → lets_through xs a ≡ holds (perm_at xs a.address) a.kind
small_answer [] a user words aligned small = user ∙ sym (no_access a.kind)
small_answer (x ∷ xs) a user words aligned small = go (has_byte x a.address) refl (small_answer xs a user words.1 aligned small)
  where
    go : (t : Bool) → has_byte x a.address ≡ t → lets_through xs a ≡ holds (perm_at xs a.address) a.kind
        → lets_through (x ∷ xs) a ≡ holds (perm_at (x ∷ xs) a.address) a.kind
    go true is rest = rw (touched x a words.0 aligned small, is) (grants_held x a user words.0 aligned small is)
    go false is rest = rw (touched x a words.0 aligned small, is) rest

-- ---- a byte and its word

word_byte : (x : Extent) (byte : ℕ) → IsWords x → has_byte x (4 * (byte / 4)) ≡ has_byte x byte
word_byte x byte words = same_bool (has_byte x (4 * (byte / 4))) (has_byte x byte) there back
  where
    there : has_byte x (4 * (byte / 4)) ≡ true → has_byte x byte ≡ true
    there h =
        let both : (nat_le x.base (4 * (byte / 4)) ≡ true) × (nat_lt (4 * (byte / 4)) x.end ≡ true) = and_parts _ _ h in
        let low : x.base ≤ 4 * (byte / 4) = leb-true _ _ both.0 in
        let high : 4 * (byte / 4) < x.end = ltb-true _ _ both.1 in
        let under : x.base ≤ byte = omega (arith, low) in
        let over : byte < x.end = omega (arith, high, words.end) in
        and_from _ _ (le-leb _ _ under) (lt-ltb _ _ over)

    back : has_byte x byte ≡ true → has_byte x (4 * (byte / 4)) ≡ true
    back h =
        let both : (nat_le x.base byte ≡ true) × (nat_lt byte x.end ≡ true) = and_parts _ _ h in
        let low : x.base ≤ byte = leb-true _ _ both.0 in
        let high : byte < x.end = ltb-true _ _ both.1 in
        let under : x.base ≤ 4 * (byte / 4) = omega (arith, low, words.base) in
        let over : 4 * (byte / 4) < x.end = omega (arith, high) in
        and_from _ _ (le-leb _ _ under) (lt-ltb _ _ over)

perm_word : (xs : List Extent) (byte : ℕ) → AllByRecursion IsWords xs → perm_at xs (4 * (byte / 4)) ≡ perm_at xs byte
perm_word [] byte words = refl
perm_word (x ∷ xs) byte words = ap₂ (λ held rest. cond held x.perm rest) (word_byte x byte words.0) (perm_word xs byte words.1)

-- each kind has accesses of four bytes
four : (kind : Kind) → has_size kind 4 ≡ true
four Fetch = refl
four Load = refl
four Store = refl

abbrev a_word : Kind → ℕ → Access
a_word kind word = record { mode = Supervisor; kind = kind; size = 4; address = 4 * word; sized = four kind }

perm_of_word : (xs : List Extent) (view : View) → AllByRecursion IsWords xs → ExtentsMean xs view → (word : ℕ) → word < 2 ^ 54
    → perm_at xs (4 * word) ≡ view (4 * word / 4096)
perm_of_word xs view words means word small = same_perm (perm_at xs (4 * word)) (view (4 * word / 4096)) agree
  where
    agree : (kind : Kind) → holds (perm_at xs (4 * word)) kind ≡ holds (view (4 * word / 4096)) kind
    agree kind =
        let aligned : 4 * word % 4 ≡ 0 = omega arith in
        let inside : 4 * word < 2 ^ 56 = omega (arith, small) in
        let answer : lets_through xs (a_word kind word) ≡ holds (perm_at xs (4 * word)) kind = small_answer xs (a_word kind word) refl words aligned
        (inr (inr refl)) in
        let says = means (a_word kind word) aligned inside (λ m. cc) in
        same_bool (holds (perm_at xs (4 * word)) kind) (holds (view (4 * word / 4096)) kind)
        (λ h. says.0 (permits_from_test xs (a_word kind word) refl words (answer ∙ h)))
        (λ h. sym answer ∙ test_from_permits xs (a_word kind word) words (says.1 h))

pub each_byte : (xs : List Extent) (view : View) → AllByRecursion IsWords xs → ExtentsMean xs view → (byte : ℕ) → byte < 2 ^ 56
    → perm_at xs byte ≡ view (byte / 4096)
each_byte xs view words means byte small =
    let page : 4 * (byte / 4) / 4096 ≡ byte / 4096 = omega arith in
    sym (perm_word xs byte words) ∙ perm_of_word xs view words means (byte / 4) (omega (arith, small)) ∙ ap view page
