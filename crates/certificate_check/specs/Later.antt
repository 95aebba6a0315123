-- The last runs of a map, and views that agree from a page on.
use Rattle.std.specs.Prelude.{◌≡◌, ℕ, ◌<◌, ◌≤◌, List, [], ◌∷◌}
use Rattle.pmp_encoding.specs.declared.perm.Perm.{Perm}
use Rattle.pmp_encoding.specs.Views.{View}
use Rattle.permission_map.specs.declared.runs.Run.{Run}
use Rattle.permission_map.specs.Runs.{AreRunsAfter, end_of}

-- the runs are the maximal ones after some page
abbrev pub AreLaterRuns : List Run → Type 0
AreLaterRuns runs = (at : ℕ) × (before : Perm) × AreRunsAfter at before runs

-- the first of the runs ends after the page
abbrev pub StartsBehind : ℕ → List Run → Type 0
StartsBehind page [] = Unit {0}
StartsBehind page (run ∷ runs) = page < end_of run

-- the views agree on each page from this one on
abbrev pub AgreeFrom : ℕ → View → View → Type 0
AgreeFrom page view other = (at : ℕ) → page ≤ at → view at ≡ other at
