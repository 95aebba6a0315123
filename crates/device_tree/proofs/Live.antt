-- The kind of a node in use, by what is asked of its properties.
use Rattle.std.proofs.Common.{◌≡◌, ◌∙◌, ap, ap₂, ℕ, Bool, Option, true, List, refl, codes}
use Rattle.device_tree.specs.Pieces.{Part}
use Rattle.device_tree.specs.declared.kinds.Place.{Place}
use Rattle.device_tree.specs.MachineDevices.{is_machine}
use Rattle.device_tree.specs.Properties.{is_okay, value_in}
use Rattle.device_tree.specs.Meaning.{has_type, is_there, kind_by, live_kind}

pub live : (place : Place) (P : List Part) (h m u o : Bool) → is_okay P ≡ true → h ≡ has_type (codes "cpu") P → m ≡ has_type (codes "memory") P
    → u ≡ is_there (value_in (codes "no-map") P)
    → o ≡ is_machine (value_in (codes "compatible") P) (value_in (codes "interrupts-extended") P) (is_there (value_in (codes "riscv,children") P))
    → kind_by place h m u o ≡ live_kind place P
live place P h m u o ok a b c d = rw (a, b, c, d, ok) refl

pub same_machine : (a b c d : Option (List ℕ)) (x y o : Bool) → o ≡ is_machine a c x → a ≡ b → c ≡ d → x ≡ y → o ≡ is_machine b d y
same_machine a b c d x y o is p q r = is ∙ ap (λ (z : Option (List ℕ)). is_machine z c x) p
    ∙ ap₂ (λ (z : Option (List ℕ)) (t : Bool). is_machine b z t) q r
