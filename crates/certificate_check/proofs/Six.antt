-- The six permissions.
use Rattle.std.proofs.Common.{◌≡◌, ℕ, ◌<◌, ◌≤◌, ⊎_elim, min, arith, ◌∙◌, true, false, is_some, Option, Some, None}
use Rattle.std.specs.Prelude.{IfSome, IfNone}
use Rattle.std.proofs.lemmas.Bool.{cases_lt}
use Rattle.pmp_encoding.specs.declared.perm.Perm.{Perm}
use Rattle.pmp_encoding.specs.declared.perm.Perm.TheVariants.{NoAccess, Read, ReadWrite, Execute, ReadExecute, ReadWriteExecute}
use Rattle.certificate_format.specs.Costs.{cost_of}
use Rattle.certificate_format.specs.declared.costs.SixCosts.{SixCosts}

-- what holds of each of the six holds of every permission
pub six : (P : Perm → Type 0) → P NoAccess → P Read → P ReadWrite → P Execute → P ReadExecute → P ReadWriteExecute → (p : Perm) → P p
six P a b c d e f NoAccess = a
six P a b c d e f Read = b
six P a b c d e f ReadWrite = c
six P a b c d e f Execute = d
six P a b c d e f ReadExecute = e
six P a b c d e f ReadWriteExecute = f

-- the lesser of two of the numbers is one of them
pub lesser : (numbers : SixCosts) (x y m : ℕ) → m ≡ min x y → ((p : Perm) × (x ≡ cost_of numbers p)) → ((p : Perm) × (y ≡ cost_of numbers p))
    → (p : Perm) × (m ≡ cost_of numbers p)
lesser numbers x y m is a b =
    ⊎_elim (λ less. (a.0, (let e : m ≡ x = omega arith in e ∙ a.1))) (λ over. (b.0, (let e : m ≡ y = omega arith in e ∙ b.1))) (cases_lt x y)

-- where a permission was looked for whose number is above the other's: none has one, or this one has
pub none_above : (found : Option Perm) (f g : Perm → ℕ) → is_some found ≡ false → IfNone found ((p : Perm) → f p ≤ g p) → (p : Perm) → f p ≤ g p
none_above None f g said none p = none p
none_above (Some q) f g said none p = cc

pub some_above : (found : Option Perm) (f g : Perm → ℕ) → is_some found ≡ true → IfSome found (λ p. g p < f p) → (p : Perm) × (g p < f p)
some_above None f g said some = cc
some_above (Some q) f g said some = (q, some)
