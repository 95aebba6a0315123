-- When two permissions are the same.
use Rattle.std.proofs.Common.{◌≡◌, Bool, true, false, not, refl, sym, ap, ◌∙◌, rules}
use Rattle.std.proofs.lemmas.Bool.{eqb-true, eq-eqb}
use denote.Enum.Bare.{sameb, same_true}
use Rattle.pmp_encoding.specs.contracts.perm.Perm.{the_type}
use Rattle.pmp_encoding.specs.declared.perm.Perm.{Perm}
use Rattle.pmp_encoding.specs.declared.perm.Perm.TheVariants.{NoAccess, Read, ReadWrite, Execute, ReadExecute, ReadWriteExecute}
use Rattle.pmp_encoding.specs.Perms.{bits_of, perm_eq}
use Rattle.pmp_encoding.proofs.Pairs.{perm_from_same_bits}

pub perm_eq-true : (p q : Perm) → perm_eq p q ≡ true → p ≡ q
perm_eq-true p q h = perm_from_same_bits p q (eqb-true (bits_of p) (bits_of q) h)

pub perm_eq-same : (p : Perm) → perm_eq p p ≡ true
perm_eq-same p = eq-eqb (bits_of p) (bits_of p) refl

pub perm_eq-false : (p q : Perm) → (p ≡ q → ⊥) → perm_eq p q ≡ false
perm_eq-false p q differ = go (perm_eq p q) refl
  where
    go : (t : Bool) → perm_eq p q ≡ t → perm_eq p q ≡ false
    go true is = absurd (differ (perm_eq-true p q is))
    go false is = is

-- the tests `==` and `!=` of the code
pub same_perm : (p q : Perm) (t : Bool) → t ≡ sameb the_type p q → t ≡ true → p ≡ q
same_perm p q t is holds = same_true the_type (search rules) p q (sym is ∙ holds)

sameb-same : (p : Perm) → sameb the_type p p ≡ true
sameb-same NoAccess = refl
sameb-same Read = refl
sameb-same ReadWrite = refl
sameb-same Execute = refl
sameb-same ReadExecute = refl
sameb-same ReadWriteExecute = refl

pub perm_eq-other : (p q : Perm) (t : Bool) → t ≡ not (sameb the_type p q) → t ≡ true → perm_eq p q ≡ false
perm_eq-other p q t is holds = perm_eq-false p q (λ same. go (sameb the_type p q) (sym is ∙ holds) (ap (sameb the_type p) (sym same) ∙ sameb-same p))
  where
    go : (b : Bool) → not b ≡ true → b ≡ true → ⊥
    go true h k = cc
    go false h k = cc

pub not_other : (p q : Perm) (t : Bool) → t ≡ not (sameb the_type p q) → t ≡ false → p ≡ q
not_other p q t is fails = same_true the_type (search rules) p q (go (sameb the_type p q) (sym is ∙ fails))
  where
    go : (b : Bool) → not b ≡ false → b ≡ true
    go true h = refl
    go false h = cc
