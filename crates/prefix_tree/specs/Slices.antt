-- Runs that meet a block.
use Rattle.std.specs.Prelude.{ℕ, ◌+◌, ◌^◌, ◌<◌, ◌≤◌, List, [], ◌∷◌, ⊤}
use Rattle.permission_map.specs.declared.runs.Run.{Run}
use Rattle.permission_map.specs.Runs.{end_of, AreRuns}

-- a run at or after page `at` that has a page in `low` up to but excluding `high`
pub record MeetsBehind (at low high : ℕ) (run : Run) : Type 0 where
  pub rising : at ≤ run.first
  pub some : 0 < run.count
  pub begins : run.first < high
  pub ends : low < end_of run

-- runs by ascending page, from `at` on, each of which has a page in `low` up to but excluding
-- `high`
abbrev pub MeetBehind : ℕ → ℕ → ℕ → List Run → Type 0
MeetBehind at low high [] = ⊤
MeetBehind at low high (run ∷ runs) = MeetsBehind at low high run
    × MeetBehind (end_of run) low high runs

-- the maximal runs that have a page in the block of the 2 ^ height pages from `first` on, which
-- lies in the space
pub record AreBlockRuns (runs : List Run) (first height : ℕ) : Type 0 where
  pub low : height ≤ 44
  pub inside : first + 2 ^ height ≤ 2 ^ 44
  pub are_runs : AreRuns runs
  pub meet : MeetBehind 0 first (first + 2 ^ height) runs
