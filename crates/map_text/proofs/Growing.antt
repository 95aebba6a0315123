-- The first line that gives a map a range is one after which there are the first.
use Rattle.std.proofs.Common.{◌≡◌, ◌<◌, ◌≤◌, List, [], ◌∷◌, length, Option, None, Some, refl, ap, arith}
use Rattle.permission_map.specs.declared.runs.Run.{Run}
use Rattle.map_text.specs.MapFile.{Leads, MakesFirst}

empty : (runs : List Run) → length runs ≤ 0 → runs ≡ []
empty [] none = refl
empty (run ∷ runs) none = absurd (omega (arith, none))

pub grows : (before after : List Run) (says : Option (Option Run)) → length before ≤ 0 → 0 < length after → Leads says before after → MakesFirst before says
grows before after None none some leads = absurd leads
grows before after (Some None) none some same = absurd (omega (arith, ap length same, none, some))
grows before after (Some (Some setting)) none some sets =
    (setting, refl, record { none = empty before none; runs = after; overwritten = sets.overwritten; some = some; most = sets.most })
