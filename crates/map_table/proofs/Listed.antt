-- The stretches of a list of entries as rows.
use Rattle.std.proofs.Common.{◌≡◌, ℕ, suc, rules, ◌+◌, ◌<◌, List, [], ◌∷◌, All, length, Bool, true, false, Option, None, Some, IfSome, arith}
use Rattle.std.proofs.Common.{if◌then◌else◌}
use Rattle.std.specs.List.{AllByRecursion}
use Rattle.std.proofs.lemmas.List.Elements.{All-from_recursion}
use Rattle.std.proofs.lemmas.Option.{same_Some}
use Rattle.pmp_encoding.specs.declared.extent.Extent.{Extent}
use Rattle.pmp_encoding.specs.Views.{View}
use Rattle.pmp_match.specs.RegisterBytes.{has_byte}
use Rattle.map_table.specs.declared.stretch.Stretch.{Stretch}
use Rattle.map_table.specs.Stretches.{AreStretches, IsStretch, decider, decider_from}
use Rattle.map_table.specs.Rows.{IsRow}

inside_step : (n k m : ℕ) (t : Bool) (rest : Option ℕ) → (rest ≡ Some k → k < n + 1 + m) → (if t then Some n else rest) ≡ Some k → k < n + suc m
inside_step n k m true rest h e = omega (arith, same_Some n k e)
inside_step n k m false rest h e = omega (arith, h e)

-- a deciding extent is one of the list
inside : (n : ℕ) (extents : List Extent) (byte k : ℕ) → decider_from n extents byte ≡ Some k → k < n + length extents
inside n [] byte k e = absurd cc
inside n (x ∷ extents) byte k e = inside_step n k (length extents) (has_byte x byte) (decider_from (n + 1) extents byte)
    (λ s. inside (n + 1) extents byte k s) e

number_of : (extents : List Extent) (byte : ℕ) (entry : Option ℕ) → decider extents byte ≡ entry → IfSome entry (λ i. i < length extents)
number_of extents byte None e = search rules
number_of extents byte (Some i) e = search (rules, inside 0 extents byte i e)

row_of : (view : View) (extents : List Extent) (s : Stretch) → IsStretch view extents s → IsRow extents s
row_of view extents s is = record { some = is.some; number = number_of extents s.first s.entry (is.decided s.first (omega arith) is.some) }

rows_by : (view : View) (extents : List Extent) (from to : ℕ) (ss : List Stretch) → AreStretches view extents from ss to → AllByRecursion (IsRow extents) ss
rows_by view extents from to [] are = tt
rows_by view extents from to (s ∷ ss) are = (row_of view extents s are.1, rows_by view extents s.end to ss are.2)

pub rows_of : (view : View) (extents : List Extent) (from to : ℕ) (ss : List Stretch) → AreStretches view extents from ss to → All (IsRow extents) ss
rows_of view extents from to ss are = All-from_recursion (IsRow extents) ss (rows_by view extents from to ss are)
