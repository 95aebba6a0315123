-- Runs with one range overwritten, and the parts from which they are assembled.
use Rattle.std.specs.Prelude.{◌≡◌, ◌≢◌, ℕ, ◌+◌, ◌^◌, ◌<◌, ◌≤◌, ◌↔◌, List, [], ◌∷◌, length, Result}
use Rattle.std.specs.Prelude.{Option, None, Some, Ok, Err, OnOk, OnErr}
use Rattle.pmp_encoding.specs.declared.perm.Perm.{Perm}
use Rattle.pmp_encoding.specs.declared.perm.Perm.TheVariants.{NoAccess}
use Rattle.permission_map.specs.declared.runs.Run.{Run}
use Rattle.permission_map.specs.declared.fault.MapFault.{MapFault}
use Rattle.permission_map.specs.declared.fault.MapFault.TheVariants.{PastEnd, TooManyRanges, Memory}
use Rattle.permission_map.specs.Runs.{end_of, AreRunsAfter, AreRuns, view_of_runs}
use Rattle.pmp_encoding.specs.Views.{overwritten, SameView}

-- the maximal runs of the view of `old` with the permission in the `count` pages from `first` on
pub record AreOverwritten (old : List Run) (first count : ℕ) (perm : Perm) (runs : List Run) :
    Type 0 where
  pub are_runs : AreRuns runs
  pub view_is : SameView (view_of_runs runs) (overwritten (view_of_runs old) first count perm)

-- the permission of the `count` pages from `first` on is set, and of no other page; or nothing
-- changes, and each fault has its condition
pub record SetsRange (old : List Run) (first count : ℕ) (perm : Perm) (new : List Run)
    (result : Result (Unit {0}) MapFault) : Type 0 where
  pub done : OnOk result (AreOverwritten old first count perm new)
  pub kept : OnErr result (new ≡ old)
  pub nothing : count ≡ 0 → new ≡ old
  pub past_end : (result ≡ Err PastEnd) ↔ (2 ^ 44 < first + count)
  pub too_many : (result ≡ Err TooManyRanges)
      ↔ ((first + count ≤ 2 ^ 44)
      × ((runs : List Run) × AreOverwritten old first count perm runs × (4096 < length runs)))
  pub memory : result ≡ Err Memory
      → (runs : List Run) × AreOverwritten old first count perm runs
      × (length old < length runs) × (length runs ≤ 4096)

-- the conditions under which runs may stay unchanged instead of becoming `wanted`: there are too
-- many of them, or more than before, so that an allocation may have failed
abbrev pub MayRefuse : List Run → List Run → MapFault → Type 0
MayRefuse old wanted PastEnd = ⊥
MayRefuse old wanted TooManyRanges = 4096 < length wanted
MayRefuse old wanted Memory = (length old < length wanted) × (length wanted ≤ 4096)

-- the runs became `wanted`, or are unchanged for a reason
abbrev pub Becomes : List Run → List Run → List Run → Result (Unit {0}) MapFault → Type 0
Becomes old new wanted (Ok done) = (new ≡ wanted) × (length wanted ≤ 4096)
Becomes old new wanted (Err fault) = (new ≡ old) × MayRefuse old wanted fault

-- the end of the last run and its permission, by default the given ones
abbrev pub last_end : ℕ → List Run → ℕ
last_end at [] = at
last_end at (run ∷ runs) = last_end (end_of run) runs

abbrev pub last_perm : Perm → List Run → Perm
last_perm p [] = p
last_perm p (run ∷ runs) = last_perm run.perm runs

-- these runs stay below a range that begins at `first`, and a new run of the permission, which
-- absorbs its neighbour of the same permission, begins at `start`
pub record IsBelow (runs : List Run) (first : ℕ) (perm : Perm) (below : List Run) (start : ℕ) :
    Type 0 where
  pub are_runs : AreRuns below
  pub rising : last_end 0 below ≤ start
  pub maximal : perm ≢ NoAccess → last_end 0 below ≡ start → perm ≢ last_perm NoAccess below
  pub reaches : start ≤ first
  pub same_below : (page : ℕ) → page < start → view_of_runs below page ≡ view_of_runs runs page
  pub taken_in : (page : ℕ) → start ≤ page → page < first → view_of_runs runs page ≡ perm

-- these runs stay after a range that ends at `end`, and a new run of the permission, which absorbs
-- its neighbour of the same permission, ends at `stop`
pub record IsAbove (runs : List Run) (end : ℕ) (perm : Perm) (above : List Run) (stop : ℕ) :
    Type 0 where
  pub are_runs : AreRunsAfter stop perm above
  pub reaches : end ≤ stop
  pub inside : stop ≤ 2 ^ 44
  pub same_above : (page : ℕ) → stop ≤ page → view_of_runs above page ≡ view_of_runs runs page
  pub taken_in : (page : ℕ) → end ≤ page → page < stop → view_of_runs runs page ≡ perm

-- the new run, or `None` if it would have no permission
abbrev pub IsNew : ℕ → ℕ → Perm → Option Run → Type 0
IsNew start stop perm None = perm ≡ NoAccess
IsNew start stop perm (Some run) = (perm ≢ NoAccess) × (run.first ≡ start) × (end_of run ≡ stop)
    × (run.perm ≡ perm)
