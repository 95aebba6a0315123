-- Sets of permissions as numbers, and as tests.
use Rattle.std.proofs.Common.{◌≡◌, ℕ, zero, suc, ◌+◌, ◌*◌, ◌/◌, ◌%◌, ◌<◌, ◌≤◌, min, max, Bool, true, false, not, ◌==◌, ◌&&◌, ◌||◌, refl, sym, ap, ◌∙◌, arith}
use Rattle.std.proofs.Common.{bit_and, bit_or}
use Rattle.std.specs.Int.{bit_at}
use Rattle.std.proofs.lemmas.Bool.Decides.{nat_tests}
use Rattle.std.proofs.Math.Path.{ap₂}
use Rattle.std.proofs.lemmas.Nat.{and_le_l, or_lt}
use Rattle.std.proofs.lemmas.Nat.Bits.{bit_at_and, bit_at_or, same_from_bits_below}
use Rattle.pmp_encoding.specs.declared.perm.Perm.{Perm}
use Rattle.pmp_encoding.specs.declared.perm.Perm.TheVariants.{NoAccess, Read, ReadWrite, Execute, ReadExecute, ReadWriteExecute}
use Rattle.entry_planner.specs.Best.{any_of}
use Rattle.pmp_encoding.specs.Perms.{index_of}
use Rattle.entry_planner.specs.PermSets.{has, bit_of, set_of}

bit_of-most : (b : Bool) → bit_of b ≤ 1
bit_of-most true = omega arith
bit_of-most false = omega arith

bit_of-test : (b : Bool) → (bit_of b == 1) ≡ b
bit_of-test true = refl
bit_of-test false = refl

-- the number's bits, from six bits
abbrev six : ℕ → ℕ → ℕ → ℕ → ℕ → ℕ → ℕ
six a b c d e f = a + 2 * b + 4 * c + 8 * d + 16 * e + 32 * f

bit_0 : (a b c d e f : ℕ) → a ≤ 1 → six a b c d e f / 1 % 2 ≡ a
bit_0 a b c d e f h = omega arith

bit_1 : (a b c d e f : ℕ) → a ≤ 1 → b ≤ 1 → six a b c d e f / 2 % 2 ≡ b
bit_1 a b c d e f h i = omega arith

bit_2 : (a b c d e f : ℕ) → a ≤ 1 → b ≤ 1 → c ≤ 1 → six a b c d e f / 4 % 2 ≡ c
bit_2 a b c d e f h i j = omega arith

bit_3 : (a b c d e f : ℕ) → a ≤ 1 → b ≤ 1 → c ≤ 1 → d ≤ 1 → six a b c d e f / 8 % 2 ≡ d
bit_3 a b c d e f h i j k = omega arith

bit_4 : (a b c d e f : ℕ) → a ≤ 1 → b ≤ 1 → c ≤ 1 → d ≤ 1 → e ≤ 1 → six a b c d e f / 16 % 2 ≡ e
bit_4 a b c d e f h i j k l = omega arith

bit_5 : (a b c d e f : ℕ) → a ≤ 1 → b ≤ 1 → c ≤ 1 → d ≤ 1 → e ≤ 1 → f ≤ 1 → six a b c d e f / 32 % 2 ≡ f
bit_5 a b c d e f h i j k l m = omega arith

pub bit_at-set_of : (f : Perm → Bool) (p : Perm) → bit_at (set_of f) (index_of p) ≡ bit_of (f p)
bit_at-set_of f NoAccess = bit_0 _ _ _ _ _ _ (bit_of-most (f NoAccess))
bit_at-set_of f Read = bit_1 _ _ _ _ _ _ (bit_of-most (f NoAccess)) (bit_of-most (f Read))
bit_at-set_of f ReadWrite = bit_2 _ _ _ _ _ _ (bit_of-most (f NoAccess)) (bit_of-most (f Read)) (bit_of-most (f ReadWrite))
bit_at-set_of f Execute =
    bit_3 _ _ _ _ _ _ (bit_of-most (f NoAccess)) (bit_of-most (f Read)) (bit_of-most (f ReadWrite)) (bit_of-most (f Execute))
bit_at-set_of f ReadExecute =
    bit_4 _ _ _ _ _ _ (bit_of-most (f NoAccess)) (bit_of-most (f Read)) (bit_of-most (f ReadWrite)) (bit_of-most (f Execute)) (bit_of-most (f ReadExecute))
bit_at-set_of f ReadWriteExecute =
    bit_5 _ _ _ _ _ _ (bit_of-most (f NoAccess)) (bit_of-most (f Read)) (bit_of-most (f ReadWrite)) (bit_of-most (f Execute)) (bit_of-most (f ReadExecute))
    (bit_of-most (f ReadWriteExecute))

pub set_of-most : (f : Perm → Bool) → set_of f < 64
set_of-most f =
    omega (
      arith,
      bit_of-most (f NoAccess),
      bit_of-most (f Read),
      bit_of-most (f ReadWrite),
      bit_of-most (f Execute),
      bit_of-most (f ReadExecute),
      bit_of-most
          (f ReadWriteExecute),
    )

-- the set has just the permissions that it was made of
pub has-set_of : (f : Perm → Bool) (p : Perm) → has (set_of f) p ≡ f p
has-set_of f p = ap (λ n. n == 1) (bit_at-set_of f p) ∙ bit_of-test (f p)

-- a number of six bits is the number of a set that has the same bits
perm_at_place : (i : ℕ) → i < 6 → (p : Perm) × (index_of p ≡ i)
perm_at_place zero h = (NoAccess, refl)
perm_at_place (suc zero) h = (Read, refl)
perm_at_place (suc (suc zero)) h = (ReadWrite, refl)
perm_at_place (suc (suc (suc zero))) h = (Execute, refl)
perm_at_place (suc (suc (suc (suc zero)))) h = (ReadExecute, refl)
perm_at_place (suc (suc (suc (suc (suc zero))))) h = (ReadWriteExecute, refl)
perm_at_place (suc (suc (suc (suc (suc (suc n)))))) h = absurd (omega arith)

from_bits : (n : ℕ) (f : Perm → Bool) → n < 64 → ((p : Perm) → bit_at n (index_of p) ≡ bit_of (f p)) → n ≡ set_of f
from_bits n f small same =
    same_from_bits_below 6 n (set_of f) small (set_of-most f)
    (λ i h.
    let p = perm_at_place i h in
    ap (λ j. bit_at n j) (sym p.1) ∙ same p.0 ∙ sym (bit_at-set_of f p.0) ∙ ap (λ j. bit_at (set_of f) j) p.1)

min_is_and : (a b : Bool) → min (bit_of a) (bit_of b) ≡ bit_of (a && b)
min_is_and true true = refl
min_is_and true false = refl
min_is_and false true = refl
min_is_and false false = refl

max_is_or : (a b : Bool) → max (bit_of a) (bit_of b) ≡ bit_of (a || b)
max_is_or true true = refl
max_is_or true false = refl
max_is_or false true = refl
max_is_or false false = refl

pub bit_and-sets : (f g : Perm → Bool) → bit_and (set_of f) (set_of g) ≡ set_of (λ p. f p && g p)
bit_and-sets f g =
    from_bits (bit_and (set_of f) (set_of g)) (λ p. f p && g p) (omega (arith, and_le_l (set_of f) (set_of g), set_of-most f))
    (λ p. bit_at_and (set_of f) (set_of g) (index_of p) ∙ ap₂ min (bit_at-set_of f p) (bit_at-set_of g p) ∙ min_is_and (f p) (g p))

pub bit_or-sets : (f g : Perm → Bool) → bit_or (set_of f) (set_of g) ≡ set_of (λ p. f p || g p)
bit_or-sets f g =
    from_bits (bit_or (set_of f) (set_of g)) (λ p. f p || g p) (or_lt 6 (set_of f) (set_of g) (set_of-most f) (set_of-most g))
    (λ p. bit_at_or (set_of f) (set_of g) (index_of p) ∙ ap₂ max (bit_at-set_of f p) (bit_at-set_of g p) ∙ max_is_or (f p) (g p))

-- no permission is in the set where its number is 0
positive : (n : ℕ) → 0 < n → (n == 0) ≡ false
positive n h = grind (arith, nat_tests)

any_cases : (a b c d e f : Bool) → (six (bit_of a) (bit_of b) (bit_of c) (bit_of d) (bit_of e) (bit_of f) == 0) ≡ not (a || (b || (c || (d || (e || f)))))
any_cases true b c d e f = positive _ (omega arith)
any_cases false true c d e f = positive _ (omega arith)
any_cases false false true d e f = positive _ (omega arith)
any_cases false false false true e f = positive _ (omega arith)
any_cases false false false false true f = positive _ (omega arith)
any_cases false false false false false true = refl
any_cases false false false false false false = refl

pub set_of-empty : (f : Perm → Bool) → (set_of f == 0) ≡ not (any_of f)
set_of-empty f = any_cases (f NoAccess) (f Read) (f ReadWrite) (f Execute) (f ReadExecute) (f ReadWriteExecute)
