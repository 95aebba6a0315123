-- What a range makes of the runs, by what was found before it is set and by what was done.
use Rattle.std.proofs.Common.{◌≡◌, ℕ, ◌+◌, ◌^◌, ◌<◌, ◌≤◌, List, length, take, drop, count_by, All, Option, option_to_list, sym, ap, subst, arith}
use Rattle.pmp_encoding.specs.declared.perm.Perm.{Perm}
use Rattle.pmp_encoding.specs.declared.perm.Perm.TheVariants.{NoAccess}
use Rattle.permission_map.specs.declared.points.Point.{Point}
use Rattle.permission_map.specs.declared.runs.Run.{Run}
use Rattle.permission_map.specs.Overwrite.{AreOverwritten}
use Rattle.permission_map.specs.Points.{IsChanged, IsCut, IsStop, IsTurn, Rise, allows, page_of, runs_of, standing, turns, turns_after}
use Rattle.permission_map.proofs.PointSets.{cuts_overwritten, gone_few, replaced, replaced_count}
use Rattle.permission_map.proofs.Turns.{cut_at, stop_alike, turn_alike, turn_cuts, turn_parts, turns_are, turns_changed}

-- the cuts, the points that are to stand between them, and how many runs begin there now
pub record IsPlanned (ps : List Point) (first end from to gone : ℕ) (perm : Perm) (start stop : Option Point) : Type 0 where
  pub cut : IsCut ps first end from to
  pub turn : IsTurn (standing NoAccess (take from ps)) first perm start
  pub ends : IsStop perm end (standing NoAccess (take to ps)) stop
  pub parts : count_by allows (take (cut_at ps from) (turns ps)) + (gone + count_by allows (drop (cut_at ps to) (turns ps))) ≡ count_by allows (turns ps)

-- as the code says it
pub row_planned :
    (ps row : List Point) (first end from to gone : ℕ) (perm before after : Perm) (start stop : Option Point) → row ≡ ps
    → All (λ q. page_of q < first) (take from row)
    → All (λ q. first ≤ page_of q) (drop from row) → All (λ q. page_of q ≤ end) (take to row) → All (λ q. end < page_of q) (drop to row)
    → before ≡ standing NoAccess (take from row) → after ≡ standing NoAccess (take to row) → IsTurn before first perm start → IsStop perm end after stop
    → count_by allows (turns (take from row)) + (gone + count_by allows (turns_after (standing NoAccess (take to row)) (drop to row))) ≡ count_by allows
    (turns row)
    → IsPlanned ps first end from to gone perm start stop
row_planned ps row first end from to gone perm before after start stop same b r u e is_before is_after turn ends parts =
    let T : Perm → Type 0 = λ p. IsTurn p first perm start in
    let S : Perm → Type 0 = λ p. IsStop perm end p stop in
    let P : List Point → Type 0 = λ l. IsPlanned l first end from to gone perm start stop in
    let own : IsPlanned row first end from to gone perm start stop =
    record {
      cut = record { before = b; rest = r; up_to = u; behind = e };
      turn = subst T is_before turn;
      ends = subst S is_after ends;
      parts = turn_parts row from to gone parts;
    } in
    subst P same own

-- the runs that are to be
abbrev pub planned_runs : List Point → ℕ → ℕ → Option Point → Option Point → List Run
planned_runs ps from to start stop = runs_of (replaced (turns ps) (cut_at ps from) (cut_at ps to) start stop)

pub planned_over :
    (ps : List Point) (first count from to gone : ℕ) (perm : Perm) (start stop : Option Point) → Rise ps → 0 < count → first + count ≤ 2 ^ 44
    → IsPlanned ps first (first + count) from to gone perm start stop → AreOverwritten (runs_of (turns ps)) first count perm
    (planned_runs ps from to start stop)
planned_over ps first count from to gone perm start stop rise some small plan =
    cuts_overwritten (turns ps) first count (cut_at ps from) (cut_at ps to) perm start stop (turns_are ps rise) some small
    (turn_cuts ps first (first + count) from to perm start stop plan.cut plan.turn plan.ends)

pub planned_count :
    (ps : List Point) (first end from to gone : ℕ) (perm : Perm) (start stop : Option Point) → IsPlanned ps first end from to gone perm start stop
    → length (planned_runs ps from to start stop) + gone ≡ length (runs_of (turns ps)) + count_by allows (option_to_list start) + count_by allows
    (option_to_list stop)
planned_count ps first end from to gone perm start stop plan = replaced_count (turns ps) (cut_at ps from) (cut_at ps to) gone start stop plan.parts

pub planned_few :
    (ps : List Point) (first end from to gone : ℕ) (perm : Perm) (start stop : Option Point) → IsPlanned ps first end from to gone perm start stop
    → gone ≤ length (runs_of (turns ps))
planned_few ps first end from to gone perm start stop plan = gone_few (turns ps) (cut_at ps from) (cut_at ps to) gone plan.parts

pub changed_over :
    (ps new : List Point) (first count from to gone : ℕ) (perm : Perm) (start stop : Option Point) → Rise ps → 0 < count → first + count ≤ 2 ^ 44
    → IsPlanned ps first (first + count) from to gone perm start stop → IsChanged ps new from to first (first + count) perm
    → AreOverwritten (runs_of (turns ps)) first count perm (runs_of (turns new))
changed_over ps new first count from to gone perm start stop rise some small plan made =
    let A : List Point → Type 0 = λ l. AreOverwritten (runs_of (turns ps)) first count perm (runs_of l) in
    subst A (sym (turns_changed ps new from to first (first + count) perm made))
    (cuts_overwritten (turns ps) first count (cut_at ps from) (cut_at ps to) perm made.start made.stop (turns_are ps rise) some small
    (turn_cuts ps first (first + count) from to perm made.start made.stop plan.cut made.turn made.ends))

pub changed_count :
    (ps new : List Point) (first end from to gone : ℕ) (perm : Perm) (start stop : Option Point) → IsPlanned ps first end from to gone perm start stop
    → IsChanged ps new from to first end perm
    → length (runs_of (turns new)) + gone ≡ length (runs_of (turns ps)) + count_by allows (option_to_list start) + count_by allows (option_to_list stop)
changed_count ps new first end from to gone perm start stop plan made =
    let number = replaced_count (turns ps) (cut_at ps from) (cut_at ps to) gone made.start made.stop plan.parts in
    let is = ap (λ l. length (runs_of l)) (turns_changed ps new from to first end perm made) in
    let one = turn_alike (standing NoAccess (take from ps)) first perm start made.start plan.turn made.turn in
    let two = stop_alike perm end (standing NoAccess (take to ps)) stop made.stop plan.ends made.ends in
    omega (arith, number, is, one, two)
