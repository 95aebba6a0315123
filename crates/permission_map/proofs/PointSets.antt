-- Points with one range overwritten.
use Rattle.std.proofs.Common.{◌≡◌, ℕ, zero, suc, ◌+◌, ◌-◌, ◌*◌, ◌^◌, ◌<◌, ◌≤◌, ⊎_elim, List, [], ◌∷◌, ◌++◌, length, take, drop, get_or, count_by, All, nat_lt}
use Rattle.std.proofs.Common.{cond, Option, None, Some, option_to_list, refl, sym, ap, subst, ◌∙◌, arith}
use Rattle.std.specs.List.{AllByRecursion}
use Rattle.std.proofs.lemmas.Bool.{cases_lt, cond-true, cond-false, lt-ltb, le-ltb}
use Rattle.std.proofs.Math.Seq.{get_or-append_seam}
use Rattle.std.proofs.lemmas.List.{take-append-drop, get_or_default, get_or-take, get_or-drop, length-append, length-take, length-drop}
use Rattle.std.proofs.lemmas.List.Elements.{recursion_from_All}
use Rattle.pmp_encoding.specs.declared.perm.Perm.{Perm}
use Rattle.pmp_encoding.specs.declared.perm.Perm.TheVariants.{NoAccess}
use Rattle.permission_map.specs.declared.points.Point.{Point}
use Rattle.permission_map.specs.Runs.{in_range}
use Rattle.permission_map.specs.Views.{overwritten}
use Rattle.permission_map.specs.Overwrite.{AreOverwritten}
use Rattle.permission_map.specs.Points.{ArePoints, ArePointsAfter, IsCut, IsStop, IsTurn, Rise, RiseAfter, allows, page_of, perm_of, runs_of, standing}
use Rattle.permission_map.proofs.Overwritten.{changed_below, changed_in, changed_past}
use Rattle.permission_map.proofs.PointLists.{count_by-append}
use Rattle.permission_map.proofs.PointRuns.{pages_rise, runs_are, runs_count, view_from, view_is}

abbrev Behind : ℕ → List Point → Type 0
Behind page ps = AllByRecursion (λ q. page < page_of q) ps

abbrev UpTo : ℕ → List Point → Type 0
UpTo page ps = AllByRecursion (λ q. page_of q ≤ page) ps

-- ---- one list after another

-- the page after the last point
abbrev pub last_at : ℕ → List Point → ℕ
last_at at [] = at
last_at at (q ∷ ps) = last_at (page_of q + 1) ps

points_first : (at : ℕ) (p : Perm) (xs ys : List Point) → ArePointsAfter at p (xs ++ ys) → ArePointsAfter at p xs
points_first at p [] ys are = tt
points_first at p (x ∷ xs) ys are = (are.0, points_first (page_of x + 1) (perm_of x) xs ys are.1)

points_second : (at : ℕ) (p : Perm) (xs ys : List Point) → ArePointsAfter at p (xs ++ ys) → ArePointsAfter (last_at at xs) (standing p xs) ys
points_second at p [] ys are = are
points_second at p (x ∷ xs) ys are = points_second (page_of x + 1) (perm_of x) xs ys are.1

points_append : (at : ℕ) (p : Perm) (xs ys : List Point) → ArePointsAfter at p xs → ArePointsAfter (last_at at xs) (standing p xs) ys
    → ArePointsAfter at p (xs ++ ys)
points_append at p [] ys are more = more
points_append at p (x ∷ xs) ys are more = (are.0, points_append (page_of x + 1) (perm_of x) xs ys are.1 more)

pub last_low : (at first : ℕ) (xs : List Point) → at ≤ first → AllByRecursion (λ q. page_of q < first) xs → last_at at xs ≤ first
last_low at first [] low all = low
last_low at first (x ∷ xs) low all = last_low (page_of x + 1) first xs (let here : page_of x < first = all.0 in omega (arith, here)) all.1

-- where the first point is does not count for those after it
points_from : (at from : ℕ) (p : Perm) (ps : List Point) → ArePointsAfter at p ps → AllByRecursion (λ q. from ≤ page_of q) ps → ArePointsAfter from p ps
points_from at from p [] are all = tt
points_from at from p (q ∷ ps) are all = (record { rising = all.0; changes = are.0.changes; inside = are.0.inside }, are.1)

pub points_earlier : (at from : ℕ) (p : Perm) (ps : List Point) → ArePointsAfter at p ps → from ≤ at → ArePointsAfter from p ps
points_earlier at from p [] are low = tt
points_earlier at from p (q ∷ ps) are low =
    (record { rising = (let here : at ≤ page_of q = are.0.rising in omega (arith, here, low)); changes = are.0.changes; inside = are.0.inside }, are.1)

pub weaker : (P Q : Point → Type 0) → ((q : Point) → P q → Q q) → (ps : List Point) → AllByRecursion P ps → AllByRecursion Q ps
weaker P Q f [] all = tt
weaker P Q f (q ∷ ps) all = (f q all.0, weaker P Q f ps all.1)

-- ---- a turn

turned : (at page : ℕ) (before perm : Perm) (turn : Option Point) (ps : List Point) → at ≤ page → page < 2 ^ 44 → IsTurn before page perm turn
    → ArePointsAfter (page + 1) perm ps
    → ArePointsAfter at before (option_to_list turn ++ ps)
turned at page before perm None ps low small same are =
    let A : Perm → Type 0 = λ p. ArePointsAfter at p ps in
    subst A same (points_earlier (page + 1) at perm ps are (omega (arith, low)))
turned at page before perm (Some q) ps low small turn are =
    let there : page_of q ≡ page = turn.1 in
    let A : ℕ → Type 0 = λ n. ArePointsAfter (n + 1) perm ps in
    let B : Perm → Type 0 = λ p. ArePointsAfter (page_of q + 1) p ps in (
      record { rising = omega (arith, there, low); changes = λ same. turn.0 (sym turn.2 ∙ same); inside = omega (arith, there, small) },
      subst B (sym turn.2) (subst A (sym there) are),
    )

turned_behind : (page at : ℕ) (before perm : Perm) (turn : Option Point) (ps : List Point) → page < at → IsTurn before at perm turn → Behind page ps
    → Behind page (option_to_list turn ++ ps)
turned_behind page at before perm None ps low turn behind = behind
turned_behind page at before perm (Some q) ps low turn behind = ((let there : page_of q ≡ at = turn.1 in omega (arith, there, low)), behind)

turned_view : (page at : ℕ) (before perm : Perm) (turn : Option Point) (ps : List Point) → at ≤ page → IsTurn before at perm turn
    → view_from before (option_to_list turn ++ ps) page ≡ view_from perm ps page
turned_view page at before perm None ps high same = ap (λ p. view_from p ps page) (sym same)
turned_view page at before perm (Some q) ps high turn =
    let there : page_of q ≡ at = turn.1 in
    cond-false (nat_lt page (page_of q)) before (view_from (perm_of q) ps page) (le-ltb _ _ (omega (arith, there, high))) ∙ ap (λ p. view_from p ps page) turn.2

-- ---- a page and points before and after it

stands : (p : Perm) (ps : List Point) (page : ℕ) → Behind page ps → view_from p ps page ≡ p
stands p [] page behind = refl
stands p (q ∷ ps) page behind = cond-true (nat_lt page (page_of q)) p (view_from (perm_of q) ps page) (lt-ltb _ _ behind.0)

view_first : (p : Perm) (xs ys : List Point) (page : ℕ) → Behind page ys → view_from p (xs ++ ys) page ≡ view_from p xs page
view_first p [] ys page behind = stands p ys page behind
view_first p (x ∷ xs) ys page behind = ap (λ q. cond (nat_lt page (page_of x)) p q) (view_first (perm_of x) xs ys page behind)

view_second : (p : Perm) (xs ys : List Point) (page : ℕ) → UpTo page xs → view_from p (xs ++ ys) page ≡ view_from (standing p xs) ys page
view_second p [] ys page low = refl
view_second p (x ∷ xs) ys page low =
    cond-false (nat_lt page (page_of x)) p (view_from (perm_of x) (xs ++ ys) page) (le-ltb _ _ low.0) ∙ view_second (perm_of x) xs ys page low.1

-- ---- a range

abbrev pub replaced : List Point → ℕ → ℕ → Option Point → Option Point → List Point
replaced ps from to start stop = take from ps ++ (option_to_list start ++ (option_to_list stop ++ drop to ps))

whole : (ps : List Point) (i : ℕ) → ArePoints ps → ArePoints (take i ps ++ drop i ps)
whole ps i are = (let A : List Point → Type 0 = ArePoints in subst A (sym (take-append-drop i ps)) are)

tail_are :
    (ps : List Point) (first end from to : ℕ) (perm : Perm) (stop : Option Point) → ArePoints ps → first < end → end ≤ 2 ^ 44 → IsCut ps first end from to
    → IsStop perm end (standing NoAccess (take to ps)) stop → ArePointsAfter (first + 1) perm (option_to_list stop ++ drop to ps)
tail_are ps first end from to perm stop are some small cut is =
    let back : Behind end (drop to ps) = recursion_from_All (λ q. end < page_of q) (drop to ps) cut.behind in
    let rest = points_second 0 NoAccess (take to ps) (drop to ps) (whole ps to are) in
    ⊎_elim
    (λ edge.
    let none : drop to ps ≡ [] = nothing (last_at 0 (take to ps)) (standing NoAccess (take to ps)) (drop to ps) rest back edge.0 in
    rw (edge.1, none) tt)
    (λ turn.
    turned (first + 1) end perm (standing NoAccess (take to ps)) stop (drop to ps) (omega (arith, some)) turn.0 turn.1
    (points_from (last_at 0 (take to ps)) (end + 1) (standing NoAccess (take to ps)) (drop to ps) rest
    (weaker (λ q. end < page_of q) (λ q. end + 1 ≤ page_of q) (λ q h. omega (arith, h)) (drop to ps) back)))
    is
  where
    nothing : (at : ℕ) (p : Perm) (qs : List Point) → ArePointsAfter at p qs → Behind end qs → end ≡ 2 ^ 44 → qs ≡ []
    nothing at p [] are behind edge = refl
    nothing at p (q ∷ qs) are behind edge = absurd (let inside : page_of q < 2 ^ 44 = are.0.inside in let far : end < page_of q = behind.0 in omega
        (arith, inside, far, edge))

pub replaced_are :
    (ps : List Point) (first end from to : ℕ) (perm : Perm) (start stop : Option Point) → ArePoints ps → first < end → end ≤ 2 ^ 44 → IsCut ps first end from to
    → IsTurn (standing NoAccess (take from ps)) first perm start → IsStop perm end (standing NoAccess (take to ps)) stop
    → ArePoints (replaced ps from to start stop)
replaced_are ps first end from to perm start stop are some small cut turn is =
    let front : AllByRecursion (λ q. page_of q < first) (take from ps) = recursion_from_All (λ q. page_of q < first) (take from ps) cut.before in
    points_append 0 NoAccess (take from ps) (option_to_list start ++ (option_to_list stop ++ drop to ps))
    (points_first 0 NoAccess (take from ps) (drop from ps) (whole ps from are))
    (turned (last_at 0 (take from ps)) first (standing NoAccess (take from ps)) perm start (option_to_list stop ++ drop to ps)
    (last_low 0 first (take from ps) (omega arith) front)
    (omega (arith, some, small)) turn (tail_are ps first end from to perm stop are some small cut is))

tail_behind :
    (ps : List Point) (first end from to page : ℕ) (perm : Perm) (stop : Option Point) → page < end → IsCut ps first end from to
    → IsStop perm end (standing NoAccess (take to ps)) stop
    → Behind page (option_to_list stop ++ drop to ps)
tail_behind ps first end from to page perm stop low cut is =
    let back : Behind page (drop to ps) =
    weaker (λ q. end < page_of q) (λ q. page < page_of q) (λ q h. omega (arith, h, low)) (drop to ps)
    (recursion_from_All (λ q. end < page_of q) (drop to ps) cut.behind) in
    ⊎_elim (λ edge. rw edge.1 back) (λ turn. turned_behind page end perm (standing NoAccess (take to ps)) stop (drop to ps) low turn.1 back) is

replaced_view :
    (ps : List Point) (first count from to : ℕ) (perm : Perm) (start stop : Option Point) → 0 < count → first + count ≤ 2 ^ 44
    → IsCut ps first (first + count) from to
    → IsTurn (standing NoAccess (take from ps)) first perm start → IsStop perm (first + count) (standing NoAccess (take to ps)) stop → (page : ℕ)
    → page < 2 ^ 44
    → view_from NoAccess (replaced ps from to start stop) page ≡ overwritten (view_from NoAccess ps) first count perm page
replaced_view ps first count from to perm start stop some small cut turn is page inside =
    let tail = option_to_list stop ++ drop to ps in
    let before = standing NoAccess (take from ps) in
    let front : AllByRecursion (λ q. page_of q < first) (take from ps) = recursion_from_All (λ q. page_of q < first) (take from ps) cut.before in
    ⊎_elim
    (λ less.
    let behind : Behind page (option_to_list start ++ (option_to_list stop ++ drop to ps)) =
    turned_behind page first before perm start tail less turn (tail_behind ps first (first + count) from to page perm stop (omega (arith, less)) cut is) in
    let others : Behind page (drop from ps) =
    weaker (λ q. first ≤ page_of q) (λ q. page < page_of q) (λ q h. omega (arith, h, less)) (drop from ps)
    (recursion_from_All (λ q. first ≤ page_of q) (drop from ps) cut.rest) in
    view_first NoAccess (take from ps) (option_to_list start ++ tail) page behind
    ∙ sym (view_first NoAccess (take from ps) (drop from ps) page others)
    ∙ ap (λ qs. view_from NoAccess qs page) (take-append-drop from ps)
    ∙ sym (changed_below (view_from NoAccess ps) first count perm page less))
    (λ more.
    let low : UpTo page (take from ps) = weaker (λ q. page_of q < first) (λ q. page_of q ≤ page) (λ q h. omega (arith, h, more)) (take from ps) front in
    view_second NoAccess (take from ps) (option_to_list start ++ tail) page low
    ∙ turned_view page first before perm start tail more turn
    ∙ ⊎_elim
    (λ under.
    stands perm tail page (tail_behind ps first (first + count) from to page perm stop under cut is)
    ∙ sym (changed_in (view_from NoAccess ps) first count perm page more under))
    (λ past.
    let below : UpTo page (take to ps) =
    weaker (λ q. page_of q ≤ first + count) (λ q. page_of q ≤ page) (λ q h. omega (arith, h, past)) (take to ps)
    (recursion_from_All (λ q. page_of q ≤ first + count) (take to ps) cut.up_to) in
    ⊎_elim (λ edge. absurd (omega (arith, edge.0, past, inside)))
    (λ end. turned_view page (first + count) perm (standing NoAccess (take to ps)) stop (drop to ps) past end.1) is
    ∙ sym (view_second NoAccess (take to ps) (drop to ps) page below)
    ∙ ap (λ qs. view_from NoAccess qs page) (take-append-drop to ps)
    ∙ sym (changed_past (view_from NoAccess ps) first count perm page past))
    (cases_lt page (first + count)))
    (cases_lt page first)

pub replaced_overwritten :
    (ps : List Point) (first count from to : ℕ) (perm : Perm) (start stop : Option Point) → ArePoints ps → 0 < count → first + count ≤ 2 ^ 44
    → IsCut ps first (first + count) from to
    → IsTurn (standing NoAccess (take from ps)) first perm start → IsStop perm (first + count) (standing NoAccess (take to ps)) stop
    → AreOverwritten (runs_of ps) first count perm (runs_of (replaced ps from to start stop))
replaced_overwritten ps first count from to perm start stop are some small cut turn is =
    let new = replaced ps from to start stop in
    let new_are = replaced_are ps first (first + count) from to perm start stop are (omega (arith, some)) small cut turn is in
    record {
      are_runs = runs_are new new_are;
      view_is =
          λ page inside.
          view_is new page new_are inside
          ∙ replaced_view ps first count from to perm start stop some small cut turn is page inside
          ∙ ap (λ q. cond (in_range first count page) perm q) (sym (view_is ps page are inside));
    }

-- ---- how many runs there are then, and where the cuts are

pub replaced_count :
    (ps : List Point) (from to gone : ℕ) (start stop : Option Point)
    → count_by allows (take from ps) + (gone + count_by allows (drop to ps)) ≡ count_by allows ps
    → length (runs_of (replaced ps from to start stop)) + gone ≡ length (runs_of ps) + count_by allows (option_to_list start) + count_by allows
    (option_to_list stop)
replaced_count ps from to gone start stop parts =
    let a = count_by-append allows (take from ps) (option_to_list start ++ (option_to_list stop ++ drop to ps)) in
    let b = count_by-append allows (option_to_list start) (option_to_list stop ++ drop to ps) in
    let c = count_by-append allows (option_to_list stop) (drop to ps) in
    omega (arith, a, b, c, parts, runs_count ps, runs_count (replaced ps from to start stop))

pub gone_few : (ps : List Point) (from to gone : ℕ) → count_by allows (take from ps) + (gone + count_by allows (drop to ps)) ≡ count_by allows ps
    → gone ≤ length (runs_of ps)
gone_few ps from to gone parts = omega (arith, parts, runs_count ps)

-- where the last of so many comes before the page, so do they all
pub front_to :
    (ps qs more : List Point) (q : Point) (count page : ℕ) → Rise ps → ps ≡ qs ++ q ∷ more → count ≡ length qs + 1 → page_of q < page
    → All (λ p. page_of p < page) (take count ps)
front_to ps qs more q count page are is counted low = λ k d inside.
    let below : k < count = omega (arith, length-take count ps, inside) in
    let at : get_or ps (length qs) d ≡ q = ap (λ l. get_or l (length qs) d) is ∙ get_or-append_seam qs q more d in
    let long : length ps ≡ length qs + suc (length more) = ap length is ∙ length-append qs (q ∷ more) in
    let rise : page_of (get_or ps k d) ≤ page_of (get_or ps (length qs) d) = pages_rise ps are k (length qs) d (omega (arith, below, counted))
    (omega (arith, long)) in
    rw (get_or-take count ps k d below) (omega (arith, rise, ap page_of at, low))

-- where a point is after a page, so are those from it on
pub behind_from : (ps : List Point) (i page : ℕ) (e : Point) → Rise ps → i < length ps → page < page_of (get_or ps i e)
    → All (λ q. page < page_of q) (drop i ps)
behind_from ps i page e are less low = λ k d inside.
    let rise : page_of (get_or ps i d) ≤ page_of (get_or ps (i + k) d) = pages_rise ps are i (i + k) d (omega arith)
    (omega (arith, length-drop i ps, inside)) in
    let same : page_of (get_or ps i e) ≡ page_of (get_or ps i d) = ap page_of (get_or_default ps i e d less) in
    rw (get_or-drop i ps k d) (omega (arith, rise, same, low))

-- ---- a step of a search: the last of the points that it goes past tells whether it does

pub halves : (k : ℕ) → 0 < k → 2 ^ k ≡ 2 ^ (k - 1) + 2 ^ (k - 1)
halves zero some = absurd (omega (arith, some))
halves (suc k) some = grind arith

-- the two cases of a step
abbrev Before : List Point → ℕ → ℕ → ℕ → Type 0
Before ps page count moved = (d : Point) → count ≤ length ps → page_of (get_or ps (count - 1) d) < page → moved ≡ 1

abbrev After : List Point → ℕ → ℕ → ℕ → Type 0
After ps page count moved = (d : Point) → (count ≤ length ps → page ≤ page_of (get_or ps (count - 1) d)) → moved ≡ 0

whole_step : (step moved : ℕ) → moved ≡ 1 → step * moved ≡ step
whole_step step moved is = rw is (omega arith)

no_step : (step moved : ℕ) → moved ≡ 0 → step * moved ≡ 0
no_step step moved is = rw is (omega arith)

pub step_small : (step moved : ℕ) → moved ≤ 1 → step * moved ≤ step
step_small step moved bit =
    ⊎_elim (λ zero. let none : moved ≡ 0 = omega arith in let e = no_step step moved none in omega (arith, e))
    (λ one. let is : moved ≡ 1 = omega arith in let e = whole_step step moved is in omega (arith, e))
    (cases_lt moved 1)

pub stepped_inside :
    (ps : List Point) (page low step moved : ℕ) (d : Point) → low ≤ length ps → Before ps page (low + step) moved → After ps page (low + step) moved
    → low + step * moved ≤ length ps
stepped_inside ps page low step moved d inside before after =
    ⊎_elim (λ beyond. let e = no_step step moved (after d (λ within. absurd (omega (arith, within, beyond)))) in omega (arith, e, inside))
    (λ within.
    ⊎_elim (λ under. let e = whole_step step moved (before d within under) in omega (arith, e, within))
    (λ over. let e = no_step step moved (after d (λ _. over)) in omega (arith, e, inside))
    (cases_lt (page_of (get_or ps (low + step - 1) d)) page))
    (cases_lt (length ps) (low + step))

pub stepped_front :
    (ps : List Point) (page low step moved : ℕ) → Rise ps → 0 < step → Before ps page (low + step) moved → After ps page (low + step) moved
    → ((k : ℕ) (d : Point) → k < low → page_of (get_or ps k d) < page) → (k : ℕ) (d : Point) → k < low + step * moved → page_of (get_or ps k d) < page
stepped_front ps page low step moved are some before after front k d less =
    ⊎_elim (λ beyond. let e = no_step step moved (after d (λ within. absurd (omega (arith, within, beyond)))) in front k d (omega (arith, e, less)))
    (λ within.
    ⊎_elim
    (λ under.
    let e = whole_step step moved (before d within under) in
    let rise : page_of (get_or ps k d) ≤ page_of (get_or ps (low + step - 1) d) =
    pages_rise ps are k (low + step - 1) d (omega (arith, e, less, some)) (omega (arith, within, some)) in
    omega (arith, rise, under))
    (λ over. let e = no_step step moved (after d (λ _. over)) in front k d (omega (arith, e, less)))
    (cases_lt (page_of (get_or ps (low + step - 1) d)) page))
    (cases_lt (length ps) (low + step))

pub stepped_rest :
    (ps : List Point) (page low step moved : ℕ) → Rise ps → 0 < step → Before ps page (low + step) moved → After ps page (low + step) moved
    → ((k : ℕ) (d : Point) → low + (step + step) ≤ k + 1 → k < length ps → page ≤ page_of (get_or ps k d)) → (k : ℕ) (d : Point)
    → low + step * moved + step ≤ k + 1
    → k < length ps → page ≤ page_of (get_or ps k d)
stepped_rest ps page low step moved are some before after rest k d more less =
    ⊎_elim (λ beyond. absurd (omega (arith, more, less, beyond)))
    (λ within.
    ⊎_elim (λ under. let e = whole_step step moved (before d within under) in rest k d (omega (arith, e, more)) less)
    (λ over.
    let rise : page_of (get_or ps (low + step - 1) d) ≤ page_of (get_or ps k d) =
    pages_rise ps are (low + step - 1) k d (omega (arith, more, some)) less in
    omega (arith, rise, over))
    (cases_lt (page_of (get_or ps (low + step - 1) d)) page))
    (cases_lt (length ps) (low + step))

pub stepped_room : (low step moved bound : ℕ) → moved ≤ 1 → low + (step + step) ≤ bound → low + step * moved + step ≤ bound
stepped_room low step moved bound bit room = omega (arith, step_small step moved bit, room)

-- no more points than pages
room_after : (at : ℕ) (ps : List Point) → RiseAfter at ps → at ≤ 2 ^ 44 → at + length ps ≤ 2 ^ 44
room_after at [] rise low = omega (arith, low)
room_after at (q ∷ ps) rise low =
    let begin : at ≤ page_of q = rise.0 in
    let inside : page_of q < 2 ^ 44 = rise.1 in
    let rest : page_of q + 1 + length ps ≤ 2 ^ 44 = room_after (page_of q + 1) ps rise.2 (omega (arith, inside)) in
    omega (arith, begin, rest)

pub as_many_as_pages : (ps : List Point) → Rise ps → length ps ≤ 2 ^ 44
as_many_as_pages ps rise = omega (arith, room_after 0 ps rise (omega arith))

-- ---- as the code says it

-- the cuts, and the points that are put between them
pub record AreCuts (ps : List Point) (first end from to : ℕ) (perm : Perm) (start stop : Option Point) : Type 0 where
  pub cut : IsCut ps first end from to
  pub turn : IsTurn (standing NoAccess (take from ps)) first perm start
  pub ends : IsStop perm end (standing NoAccess (take to ps)) stop

pub cuts_overwritten :
    (ps : List Point) (first count from to : ℕ) (perm : Perm) (start stop : Option Point) → ArePoints ps → 0 < count → first + count ≤ 2 ^ 44
    → AreCuts ps first (first + count) from to perm start stop → AreOverwritten (runs_of ps) first count perm (runs_of (replaced ps from to start stop))
cuts_overwritten ps first count from to perm start stop are some small cuts =
    replaced_overwritten ps first count from to perm start stop are some small cuts.cut cuts.turn cuts.ends
