use Rattle.std.proofs.Common.{ℕ, ◌≤◌, ◌+◌, ◌-◌, Option, length}
use Rattle.std.specs.Prelude.{option_map}
use Rattle.text_lines.specs.Lines.{raw_lines}
use Rattle.input_files.specs.KeyPlaces.{Finds, opening_tables}
use Rattle.input_files.proofs.key_places.find.Given as goal

-- what is found in the rest is found in the text
abbrev pub invariant-loop-rest : goal.invariant-loop-rest
invariant-loop-rest l = (length l.rest ≤ length l.text) × (l.tables.ram + length l.rest ≤ length l.text)
    × (l.tables.devices + length l.rest ≤ length l.text)
    × ((found : Option ℕ) → Finds l.sought l.word l.tables (raw_lines l.rest) found
    → Finds l.sought l.word opening_tables (raw_lines l.text) (option_map (λ at. (length l.text - length l.rest) + at) found))

abbrev pub decreases-loop-rest : goal.decreases-loop-rest
decreases-loop-rest l = length l.rest
