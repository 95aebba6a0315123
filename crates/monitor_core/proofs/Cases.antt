-- By the two truth values, and by whether there is a value.
use Rattle.std.proofs.Common.{◌≡◌, Bool, true, false, Option, None, Some, IfSome, refl}

pub both : {P : Type 0} (b : Bool) → (b ≡ true → P) → (b ≡ false → P) → P
both true when unless = when refl
both false when unless = unless refl

-- what is true of a value that there may be
pub if_some : {A : Type 0} {P Q : A → Type 0} (o : Option A) → ((x : A) → P x → Q x) → IfSome o P → IfSome o Q
if_some None each is = tt
if_some (Some x) each is = each x is
