-- A view stored as the points at which it changes.
use Rattle.std.specs.Prelude.{◌≡◌, ◌≢◌, ℕ, ◌+◌, ◌-◌, ◌*◌, ◌/◌, ◌%◌, ◌^◌, ◌<◌, ◌≤◌, ◌⊎◌, Bool, not}
use Rattle.std.specs.Prelude.{◌==◌, if◌then◌else◌, List, [], ◌∷◌, ◌++◌, length, take, drop, All}
use Rattle.std.specs.Prelude.{Option, None, Some, option_to_list, ⊤}
use Rattle.pmp_encoding.specs.declared.perm.Perm.{Perm}
use Rattle.pmp_encoding.specs.declared.perm.Perm.TheVariants.{NoAccess}
pub use Rattle.pmp_encoding.specs.Perms.{perm_for}
use Rattle.pmp_encoding.specs.Perms.{bits_of, perm_eq}
use Rattle.permission_map.specs.declared.points.Point.{Point}
use Rattle.permission_map.specs.declared.runs.Run.{Run}

-- the page of a point
abbrev pub page_of : Point → ℕ
page_of p = p.number / 8

-- the permission from a point on
abbrev pub perm_of : Point → Perm
perm_of p = perm_for (p.number % 8)

-- the permission from a point on allows something
abbrev pub allows : Point → Bool
allows p = not (p.number % 8 == 0)

-- a point at or after the page `at` that changes the permission `before`
pub record IsPointAfter (at : ℕ) (before : Perm) (p : Point) : Type 0 where
  pub rising : at ≤ page_of p
  pub changes : perm_of p ≢ before
  pub inside : page_of p < 2 ^ 44

-- points by ascending page, each of which changes the permission
abbrev pub ArePointsAfter : ℕ → Perm → List Point → Type 0
ArePointsAfter at before [] = ⊤
ArePointsAfter at before (p ∷ ps) = IsPointAfter at before p
    × ArePointsAfter (page_of p + 1) (perm_of p) ps

abbrev pub ArePoints : List Point → Type 0
ArePoints ps = ArePointsAfter 0 NoAccess ps

-- the page of the first point, or the end of the space
abbrev pub next_page : List Point → ℕ
next_page [] = 2 ^ 44
next_page (p ∷ ps) = page_of p

-- the run from a point up to a page, if it has a permission
abbrev pub run_to : ℕ → Point → List Run
run_to end p = if allows p then record {
  first = page_of p;
  count = end - page_of p;
  perm = perm_of p;
} ∷ [] else []

-- the runs between the points
abbrev pub runs_of : List Point → List Run
runs_of [] = []
runs_of (p ∷ ps) = run_to (next_page ps) p ++ runs_of ps

-- the permission after the points, if p holds before them
abbrev pub standing : Perm → List Point → Perm
standing p [] = p
standing p (q ∷ ps) = standing (perm_of q) ps

-- the point at a page where `before` changes to `perm`, or `None` if they are the same
abbrev pub IsTurn : Perm → ℕ → Perm → Option Point → Type 0
IsTurn before page perm None = perm ≡ before
IsTurn before page perm (Some q) = (perm ≢ before) × (page_of q ≡ page) × (perm_of q ≡ perm)

-- the point at the end of a range, or `None` at the end of the space
abbrev pub IsStop : Perm → ℕ → Perm → Option Point → Type 0
IsStop before page perm stop = ((page ≡ 2 ^ 44) × (stop ≡ None))
    ⊎ ((page < 2 ^ 44) × IsTurn before page perm stop)

-- points by ascending page, from the page `at` on, which need not change the permission
abbrev pub RiseAfter : ℕ → List Point → Type 0
RiseAfter at [] = ⊤
RiseAfter at (p ∷ ps) = (at ≤ page_of p) × (page_of p < 2 ^ 44) × RiseAfter (page_of p + 1) ps

abbrev pub Rise : List Point → Type 0
Rise ps = RiseAfter 0 ps

-- a point, if the permission changes there
abbrev pub turn_at : Perm → Point → List Point
turn_at before p = if perm_eq before (perm_of p) then [] else p ∷ []

-- the points that change the permission, if `before` holds before them
abbrev pub turns_after : Perm → List Point → List Point
turns_after before [] = []
turns_after before (p ∷ ps) = turn_at before p ++ turns_after (perm_of p) ps

-- the points that change the permission, starting from no access
abbrev pub turns : List Point → List Point
turns ps = turns_after NoAccess ps

-- the point at the same page with another permission
abbrev pub with_perm : Perm → Point → Point
with_perm perm p = record { number = page_of p * 8 + bits_of perm }

-- the state of a builder: points, the number of runs between the points that change the permission,
-- at most 4096 further points, and with the first run a capacity for the maximum number of points
pub record IsBuilt (points : List Point) (runs capacity : ℕ) : Type 0 where
  pub rise : Rise points
  pub count : length (runs_of (turns points)) ≡ runs
  pub few : runs ≤ 4096
  pub idle : length points ≤ length (turns points) + 4096
  pub room : 0 < runs → 12291 ≤ capacity

-- the first `from` points lie before the range, and those after the first `to` lie after its end
pub record IsCut (ps : List Point) (first end from to : ℕ) : Type 0 where
  pub before : All (λ q. page_of q < first) (take from ps)
  pub rest : All (λ q. first ≤ page_of q) (drop from ps)
  pub up_to : All (λ q. page_of q ≤ end) (take to ps)
  pub behind : All (λ q. end < page_of q) (drop to ps)

-- the new points are the old ones with a range set after the first `from` and before those after
-- the first `to`: at most two points that change the permission replace those between
pub record IsChanged (old new : List Point) (from to first end : ℕ) (perm : Perm) : Type 0 where
  pub start : Option Point
  pub stop : Option Point
  pub turn : IsTurn (standing NoAccess (take from old)) first perm start
  pub ends : IsStop perm end (standing NoAccess (take to old)) stop
  pub turns_are :
      turns new
      ≡ turns (take from old) ++ (option_to_list start
      ++ (option_to_list stop ++ turns_after (standing NoAccess (take to old)) (drop to old)))
