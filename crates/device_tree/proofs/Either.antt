-- One of two that are asked in turn.
use Rattle.std.proofs.Common.{◌≡◌, ◌∙◌, sym, Bool, true, false, refl}
use Rattle.std.specs.Prelude.{◌||◌}

pub first_is : (a x y : Bool) → a ≡ x → a ≡ true → true ≡ (x || y)
first_is a x y is held = rw (sym is ∙ held) refl

pub second_is : (a x b y : Bool) → a ≡ x → a ≡ false → b ≡ y → b ≡ (x || y)
second_is a x b y is failed other = rw (sym is ∙ failed) other
