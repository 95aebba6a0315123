-- Lists of checks in order.
use Rattle.std.specs.Prelude.{◌≡◌, List, [], ◌∷◌, ⊤, ◌⊎◌}

-- each check of a list passes. A check is a refusal or a fault, followed by its condition
abbrev pub AllPass : {F : Type 0} → List (F × Type 0) → Type 0
AllPass [] = ⊤
AllPass (check ∷ checks) = check.1 × AllPass checks

-- the first check of the list that does not pass has this refusal or fault
abbrev pub FailsFirst : {F : Type 0} → List (F × Type 0) → F → Type 0
FailsFirst [] refusal = ⊥
FailsFirst (check ∷ checks) refusal = ((refusal ≡ check.0) × (check.1 → ⊥))
    ⊎ (check.1 × FailsFirst checks refusal)
