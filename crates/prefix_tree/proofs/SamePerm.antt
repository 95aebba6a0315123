-- Permissions of the same bits are the same.
use Rattle.std.proofs.Common.{◌≡◌, ◌≢◌, ℕ, ◌==◌, Bool, true, false, cond, refl, sym, ap, ◌∙◌}
use Rattle.std.proofs.lemmas.Bool.{eqb-true, eq-eqb}
use Rattle.pmp_encoding.specs.declared.perm.Perm.{Perm}
use Rattle.pmp_encoding.specs.declared.perm.Perm.TheVariants.{NoAccess, Read, ReadWrite, Execute, ReadExecute, ReadWriteExecute}
use Rattle.pmp_encoding.specs.Perms.{bits_of, perm_eq}

abbrev perm_from : ℕ → Perm
perm_from bits = cond (bits == 0) NoAccess (cond (bits == 1) Read (cond (bits == 3) ReadWrite
    (cond (bits == 4) Execute (cond (bits == 5) ReadExecute ReadWriteExecute))))

perm_from_bits : (p : Perm) → perm_from (bits_of p) ≡ p
perm_from_bits NoAccess = refl
perm_from_bits Read = refl
perm_from_bits ReadWrite = refl
perm_from_bits Execute = refl
perm_from_bits ReadExecute = refl
perm_from_bits ReadWriteExecute = refl

pub perm_eq-true : (p q : Perm) → perm_eq p q ≡ true → p ≡ q
perm_eq-true p q h = sym (perm_from_bits p) ∙ ap perm_from (eqb-true (bits_of p) (bits_of q) h) ∙ perm_from_bits q

pub perm_eq-same : (p q : Perm) → p ≡ q → perm_eq p q ≡ true
perm_eq-same p q e = eq-eqb (bits_of p) (bits_of q) (ap bits_of e)

pub not_same : (p q : Perm) → p ≢ q → perm_eq p q ≡ false
not_same p q apart = go (perm_eq p q) refl
  where
    go : (t : Bool) → perm_eq p q ≡ t → t ≡ false
    go true is = absurd (apart (perm_eq-true p q is))
    go false is = refl
