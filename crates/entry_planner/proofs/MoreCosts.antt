-- How many more entries a block costs under each permission, by the table.
use Rattle.std.proofs.Common.{◌≡◌, ◌∙◌, ℕ, zero, suc, ◌-◌, ◌/◌, ◌%◌, ◌<◌, ◌≤◌, Bool, true, false, ◌&&◌, ◌==◌, T, eqb, eqb→eq, [], get_or, if◌then◌else◌}
use Rattle.std.proofs.Common.{eq-zero-or-pos, inl, inr, ap, arith}
use lib.Ieee.Fits.{and_l, and_r}
use Rattle.pmp_encoding.specs.declared.perm.Perm.{Perm}
use Rattle.pmp_encoding.specs.declared.perm.Perm.TheVariants.{NoAccess, Read, ReadWrite, Execute, ReadExecute, ReadWriteExecute}
use Rattle.pmp_encoding.specs.Perms.{index_of}
use Rattle.entry_planner.specs.PermSets.{has}
use Rattle.entry_planner.specs.declared.costs.TheConstants.{MORE}

abbrev more : ℕ → Perm → ℕ
more b p = if has b p then 0 else 1

abbrev is_at : ℕ → Perm → Bool
is_at b p = eqb (get_or (get_or MORE b []) (index_of p) 0) (more b p)

abbrev is_row : ℕ → Bool
is_row b = is_at b NoAccess && (is_at b Read && (is_at b ReadWrite && (is_at b Execute && (is_at b ReadExecute && is_at b ReadWriteExecute))))

-- the rows below n
abbrev are_rows : ℕ → Bool
are_rows zero = true
are_rows (suc b) = is_row b && are_rows b

row_below : (n b : ℕ) → T (are_rows n) → b < n → T (is_row b)
row_below zero b t h = absurd (omega arith)
row_below (suc n) b t h =
    elim (eq-zero-or-pos (n - b)) [
      | inl z ↦ let e : b ≡ n = omega arith in rw e (and_l (is_row n) (are_rows n) t)
      | inr g ↦ row_below n b (and_r (is_row n) (are_rows n) t) (omega arith)
    ]

in_row : (b : ℕ) (p : Perm) → T (is_row b) → T (is_at b p)
in_row b NoAccess t = and_l (is_at b NoAccess) _ t
in_row b Read t = and_l (is_at b Read) _ (and_r (is_at b NoAccess) _ t)
in_row b ReadWrite t = and_l (is_at b ReadWrite) _ (and_r (is_at b Read) _ (and_r (is_at b NoAccess) _ t))
in_row b Execute t = and_l (is_at b Execute) _ (and_r (is_at b ReadWrite) _ (and_r (is_at b Read) _ (and_r (is_at b NoAccess) _ t)))
in_row b ReadExecute t = and_l (is_at b ReadExecute) _ (and_r (is_at b Execute) _
    (and_r (is_at b ReadWrite) _ (and_r (is_at b Read) _ (and_r (is_at b NoAccess) _ t))))
in_row b ReadWriteExecute t = and_r (is_at b ReadExecute) _ (and_r (is_at b Execute) _
    (and_r (is_at b ReadWrite) _ (and_r (is_at b Read) _ (and_r (is_at b NoAccess) _ t))))

-- six bits of a set say all
six_bits : (n : ℕ) (p : Perm) → has (n % 64) p ≡ has n p
six_bits n NoAccess = let e : n % 64 / 1 % 2 ≡ n / 1 % 2 = omega arith in ap (λ m. m == 1) e
six_bits n Read = let e : n % 64 / 2 % 2 ≡ n / 2 % 2 = omega arith in ap (λ m. m == 1) e
six_bits n ReadWrite = let e : n % 64 / 4 % 2 ≡ n / 4 % 2 = omega arith in ap (λ m. m == 1) e
six_bits n Execute = let e : n % 64 / 8 % 2 ≡ n / 8 % 2 = omega arith in ap (λ m. m == 1) e
six_bits n ReadExecute = let e : n % 64 / 16 % 2 ≡ n / 16 % 2 = omega arith in ap (λ m. m == 1) e
six_bits n ReadWriteExecute = let e : n % 64 / 32 % 2 ≡ n / 32 % 2 = omega arith in ap (λ m. m == 1) e

pub MORE_at : (n : ℕ) (p : Perm) → get_or (get_or MORE (n % 64) []) (index_of p) 0 ≡ (if has n p then 0 else 1)
MORE_at n p = eqb→eq _ _ (in_row (n % 64) p (row_below 64 (n % 64) tt (omega arith))) ∙ ap (λ b. if b then 0 else 1) (six_bits n p)

one_at_most : (b : Bool) → (if b then 0 else 1) ≤ 1
one_at_most true = omega arith
one_at_most false = omega arith

pub MORE_most : (n : ℕ) (p : Perm) → get_or (get_or MORE (n % 64) []) (index_of p) 0 ≤ 1
MORE_most n p = omega (arith, MORE_at n p, one_at_most (has n p))
