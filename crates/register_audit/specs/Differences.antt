-- The stretches on which the permissions of registers and a view differ, with their lines.
use Rattle.std.specs.Prelude.{◌≢◌, ◌^◌, List, [], ◌∷◌}
use Rattle.pmp_encoding.specs.declared.extent.Extent.{Extent}
use Rattle.pmp_encoding.specs.Views.{View}
use Rattle.pmp_match.specs.declared.registers.Registers.{Registers}
use Rattle.pmp_match.specs.declared.access.Mode.{Mode}
use Rattle.map_table.specs.declared.stretch.Stretch.{Stretch}
use Rattle.map_table.specs.Stretches.{AreStretches}
use Rattle.register_audit.specs.Findings.{agrees}
use Rattle.register_audit.specs.Modes.{AreGiven}

-- the stretches of a list that do not agree, in its order
pub data AreOdd : List Stretch → List Stretch → Type 0 where
  end : AreOdd [] []
  same : {all odd : List Stretch} → (s : Stretch) → agrees s → AreOdd all odd → AreOdd (s ∷ all) odd
  other : {all odd : List Stretch} → (s : Stretch) → s.wanted ≢ s.given → AreOdd all odd
      → AreOdd (s ∷ all) (s ∷ odd)

-- these are the stretches of the space on which registers give a mode another permission than a
-- view
pub record AreDifferences (mode : Mode) (view : View) (registers : Registers)
    (odd : List Stretch) : Type 0 where
  pub given : List Extent
  pub are_given : AreGiven mode registers given
  pub all : List Stretch
  pub stretches : AreStretches view given 0 all (2 ^ 56)
  pub are_odd : AreOdd all odd
