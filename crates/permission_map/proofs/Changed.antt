-- Points with a range set: at most two in the place of others, or the range over those that stand in it.
use Rattle.std.proofs.Common.{◌≡◌, ℕ, ◌+◌, ◌-◌, ◌*◌, ◌/◌, ◌%◌, ◌^◌, ◌<◌, ◌≤◌, inr, ⊎_elim, List, [], ◌∷◌, ◌++◌, length, take, drop, get_or, set, map, Option}
use Rattle.std.proofs.Common.{None, Some, option_to_list, refl, sym, ap, subst, ◌∙◌, arith, append_assoc, length-append, length-take, length-take-le}
use Rattle.std.specs.List.{AllByRecursion}
use Rattle.std.proofs.lemmas.List.{take-append-drop, drop-drop, drop_more, take_more, get_or-take, get_or-drop, map-append, set_at, get_or_at, length-map}
use Rattle.std.proofs.lemmas.List.{length-drop}
use Rattle.std.proofs.lemmas.List.Elements.{recursion_from_All}
use Rattle.pmp_encoding.specs.declared.perm.Perm.{Perm}
use Rattle.pmp_encoding.specs.declared.perm.Perm.TheVariants.{NoAccess, Read, ReadWrite, Execute, ReadExecute, ReadWriteExecute}
use Rattle.permission_map.specs.declared.points.Point.{Point}
use Rattle.permission_map.specs.Points.{IsChanged, IsCut, IsStop, IsTurn, Rise, RiseAfter, page_of, perm_of, standing, turn_at, turns, turns_after, with_perm}
use Rattle.permission_map.proofs.PointSets.{last_at, last_low, replaced, weaker}
use Rattle.permission_map.proofs.Turns.{same_or_not, set_turn, turn_other, turn_parts_at, turn_same, turns_append, turns_back, turns_few}

-- ---- the pages rise

rise_first : (at : ℕ) (xs ys : List Point) → RiseAfter at (xs ++ ys) → RiseAfter at xs
rise_first at [] ys rise = tt
rise_first at (x ∷ xs) ys rise = (rise.0, rise.1, rise_first (page_of x + 1) xs ys rise.2)

rise_second : (at : ℕ) (xs ys : List Point) → RiseAfter at (xs ++ ys) → RiseAfter (last_at at xs) ys
rise_second at [] ys rise = rise
rise_second at (x ∷ xs) ys rise = rise_second (page_of x + 1) xs ys rise.2

rise_append : (at : ℕ) (xs ys : List Point) → RiseAfter at xs → RiseAfter (last_at at xs) ys → RiseAfter at (xs ++ ys)
rise_append at [] ys rise more = more
rise_append at (x ∷ xs) ys rise more = (rise.0, rise.1, rise_append (page_of x + 1) xs ys rise.2 more)

rise_from : (at from : ℕ) (ps : List Point) → RiseAfter at ps → AllByRecursion (λ q. from ≤ page_of q) ps → RiseAfter from ps
rise_from at from [] rise all = tt
rise_from at from (q ∷ ps) rise all = (all.0, rise.1, rise.2)

pub rise_earlier : (at from : ℕ) (ps : List Point) → RiseAfter at ps → from ≤ at → RiseAfter from ps
rise_earlier at from [] rise low = tt
rise_earlier at from (q ∷ ps) rise low = ((let here : at ≤ page_of q = rise.0 in omega (arith, here, low)), rise.1, rise.2)

rise_turn : (at page : ℕ) (before perm : Perm) (t : Option Point) (ps : List Point) → at ≤ page → page < 2 ^ 44 → IsTurn before page perm t
    → RiseAfter (page + 1) ps → RiseAfter at (option_to_list t ++ ps)
rise_turn at page before perm None ps low small turn rise = rise_earlier (page + 1) at ps rise (omega (arith, low))
rise_turn at page before perm (Some q) ps low small turn rise =
    let there : page_of q ≡ page = turn.1 in
    let A : ℕ → Type 0 = λ n. RiseAfter (n + 1) ps in
    (omega (arith, there, low), omega (arith, there, small), subst A (sym there) rise)

whole : (ps : List Point) (i : ℕ) → Rise ps → Rise (take i ps ++ drop i ps)
whole ps i rise = (let A : List Point → Type 0 = Rise in subst A (sym (take-append-drop i ps)) rise)

-- the points behind a range
rise_behind : (ps : List Point) (first end from to : ℕ) → Rise ps → IsCut ps first end from to → RiseAfter (end + 1) (drop to ps)
rise_behind ps first end from to rise cut =
    rise_from (last_at 0 (take to ps)) (end + 1) (drop to ps) (rise_second 0 (take to ps) (drop to ps) (whole ps to rise))
    (weaker (λ q. end < page_of q) (λ q. end + 1 ≤ page_of q) (λ q h. omega (arith, h)) (drop to ps)
    (recursion_from_All (λ q. end < page_of q) (drop to ps) cut.behind))

none_behind : (ps : List Point) (first from to : ℕ) → Rise ps → IsCut ps first (2 ^ 44) from to → drop to ps ≡ []
none_behind ps first from to rise cut = go (drop to ps) (rise_behind ps first (2 ^ 44) from to rise cut)
  where
    go : (qs : List Point) → RiseAfter (2 ^ 44 + 1) qs → qs ≡ []
    go [] rise = refl
    go (q ∷ qs) rise = absurd (let low : 2 ^ 44 + 1 ≤ page_of q = rise.0 in let high : page_of q < 2 ^ 44 = rise.1 in omega (arith, low, high))

rise_before : (ps : List Point) (first end from to : ℕ) → Rise ps → IsCut ps first end from to → last_at 0 (take from ps) ≤ first
rise_before ps first end from to rise cut =
    last_low 0 first (take from ps) (omega arith) (recursion_from_All (λ q. page_of q < first) (take from ps) cut.before)

-- ---- at most two in the place of others

rise_stop :
    (ps : List Point) (first end from to : ℕ) (perm : Perm) (stop : Option Point) → Rise ps → first < end → IsCut ps first end from to
    → IsStop perm end (standing NoAccess (take to ps)) stop → RiseAfter (first + 1) (option_to_list stop ++ drop to ps)
rise_stop ps first end from to perm stop rise some cut is =
    ⊎_elim
    (λ edge.
    let C : ℕ → Type 0 = λ n. IsCut ps first n from to in
    let none : drop to ps ≡ [] = none_behind ps first from to rise (subst C edge.0 cut) in
    rw (edge.1, none) tt)
    (λ turn. rise_turn (first + 1) end perm (standing NoAccess (take to ps)) stop (drop to ps) (omega (arith, some)) turn.0 turn.1
    (rise_behind ps first end from to rise cut))
    is

pub replaced_rise :
    (ps : List Point) (first end from to : ℕ) (perm : Perm) (start stop : Option Point) → Rise ps → first < end → end ≤ 2 ^ 44 → IsCut ps first end from to
    → IsTurn (standing NoAccess (take from ps)) first perm start → IsStop perm end (standing NoAccess (take to ps)) stop → Rise (replaced ps from to start stop)
replaced_rise ps first end from to perm start stop rise some small cut turn is =
    rise_append 0 (take from ps) (option_to_list start ++ (option_to_list stop ++ drop to ps)) (rise_first 0 (take from ps) (drop from ps) (whole ps from rise))
    (rise_turn (last_at 0 (take from ps)) first (standing NoAccess (take from ps)) perm start (option_to_list stop ++ drop to ps)
    (rise_before ps first end from to rise cut)
    (omega (arith, some, small)) turn (rise_stop ps first end from to perm stop rise some cut is))

stop_turns :
    (ps : List Point) (first end from to : ℕ) (perm : Perm) (stop : Option Point) → Rise ps → IsCut ps first end from to
    → IsStop perm end (standing NoAccess (take to ps)) stop
    → turns_after perm (option_to_list stop ++ drop to ps) ≡ option_to_list stop ++ turns_after (standing NoAccess (take to ps)) (drop to ps)
stop_turns ps first end from to perm stop rise cut is =
    ⊎_elim
    (λ edge.
    let C : ℕ → Type 0 = λ n. IsCut ps first n from to in
    let none : drop to ps ≡ [] = none_behind ps first from to rise (subst C edge.0 cut) in
    rw (edge.1, none) refl)
    (λ turn. set_turn perm end (standing NoAccess (take to ps)) stop (drop to ps) turn.1)
    is

pub replaced_changed :
    (old new : List Point) (first end from to : ℕ) (perm : Perm) (start stop : Option Point) → Rise old → IsCut old first end from to
    → IsTurn (standing NoAccess (take from old)) first perm start → IsStop perm end (standing NoAccess (take to old)) stop
    → new ≡ replaced old from to start stop
    → IsChanged old new from to first end perm
replaced_changed old new first end from to perm start stop rise cut turn is same =
    let s = standing NoAccess (take from old) in
    let tail = option_to_list stop ++ drop to old in
    record {
      start = start;
      stop = stop;
      turn = turn;
      ends = is;
      turns_are =
          ap turns same
          ∙ turns_append NoAccess (take from old) (option_to_list start ++ tail)
          ∙ ap (λ l. turns (take from old) ++ l)
          (set_turn s first perm start tail turn ∙ ap (λ l. option_to_list start ++ l) (stop_turns old first end from to perm stop rise cut is));
    }

-- those that are idle do not become more
pub replaced_idle :
    (old new : List Point) (first end from to : ℕ) (perm : Perm) (start stop : Option Point) → from ≤ to → Rise old → IsCut old first end from to
    → IsTurn (standing NoAccess (take from old)) first perm start → IsStop perm end (standing NoAccess (take to old)) stop
    → new ≡ replaced old from to start stop
    → length old ≤ length (turns old) + 4096 → length new ≤ length (turns new) + 4096
unfolding replaced_changed
replaced_idle old new first end from to perm start stop order rise cut turn is same few =
    let s = standing NoAccess (take from old) in
    let mid = take (to - from) (drop from old) in
    let back = turns_after (standing NoAccess (take to old)) (drop to old) in
    let made = replaced_changed old new first end from to perm start stop rise cut turn is same in
    let a = ap length (turn_parts_at old from) in
    let b = ap length (turns_back old from to order) in
    let c = length-append (turns (take from old)) (turns_after s (drop from old)) in
    let d = length-append (turns_after s mid) back in
    let e = turns_few s mid in
    let f = ap length (take-append-drop from old) in
    let g = ap length (take-append-drop (to - from) (drop from old)) in
    let h = length-append (take from old) (drop from old) in
    let i = length-append mid (drop (to - from) (drop from old)) in
    let j = ap length (drop-drop (to - from) from old) in
    let next : from + (to - from) ≡ to = omega (arith, order) in
    let k = ap (λ n. length (drop n old)) next in
    let l : length (turns new) ≡ length (turns (take from old) ++ (option_to_list start ++
    (option_to_list stop ++ turns_after (standing NoAccess (take to old)) (drop to old)))) = ap length made.turns_are in
    let m = length-append (turns (take from old)) (option_to_list start ++ (option_to_list stop ++ back)) in
    let n = length-append (option_to_list start) (option_to_list stop ++ back) in
    let o = length-append (option_to_list stop) back in
    let p = ap length same in
    let q = length-append (take from old) (option_to_list start ++ (option_to_list stop ++ drop to old)) in
    let r = length-append (option_to_list start) (option_to_list stop ++ drop to old) in
    let t = length-append (option_to_list stop) (drop to old) in
    omega (arith, a, b, c, d, e, f, g, h, i, j, k, l, m, n, o, p, q, r, t, few)

-- ---- over those that stand there

pub page_with : (perm : Perm) (q : Point) → page_of (with_perm perm q) ≡ page_of q
page_with NoAccess q = omega arith
page_with Read q = omega arith
page_with ReadWrite q = omega arith
page_with Execute q = omega arith
page_with ReadExecute q = omega arith
page_with ReadWriteExecute q = omega arith

perm_with : (perm : Perm) (q : Point) → perm_of (with_perm perm q) ≡ perm
perm_with NoAccess q = (let e : (q.number / 8 * 8 + 0) % 8 ≡ 0 = omega arith in rw e refl)
perm_with Read q = (let e : (q.number / 8 * 8 + 1) % 8 ≡ 1 = omega arith in rw e refl)
perm_with ReadWrite q = (let e : (q.number / 8 * 8 + 3) % 8 ≡ 3 = omega arith in rw e refl)
perm_with Execute q = (let e : (q.number / 8 * 8 + 4) % 8 ≡ 4 = omega arith in rw e refl)
perm_with ReadExecute q = (let e : (q.number / 8 * 8 + 5) % 8 ≡ 5 = omega arith in rw e refl)
perm_with ReadWriteExecute q = (let e : (q.number / 8 * 8 + 7) % 8 ≡ 7 = omega arith in rw e refl)

-- points of the permission that stands change nothing
idle_turns : (perm : Perm) (xs ys : List Point) → turns_after perm (map (with_perm perm) xs ++ ys) ≡ turns_after perm ys
idle_turns perm [] ys = refl
idle_turns perm (x ∷ xs) ys =
    ap (λ l. l ++ turns_after (perm_of (with_perm perm x)) (map (with_perm perm) xs ++ ys)) (turn_same perm (with_perm perm x) (sym (perm_with perm x)))
    ∙ ap (λ p. turns_after p (map (with_perm perm) xs ++ ys)) (perm_with perm x)
    ∙ idle_turns perm xs ys

rise_over :
    (at : ℕ) (perm : Perm) (xs : List Point) (last stop : Point) (ys : List Point) → RiseAfter at (xs ++ last ∷ ys) → page_of last ≤ page_of stop
    → page_of stop < 2 ^ 44
    → RiseAfter (page_of stop + 1) ys → RiseAfter at (map (with_perm perm) xs ++ stop ∷ ys)
rise_over at perm [] last stop ys rise low small more = ((let here : at ≤ page_of last = rise.0 in omega (arith, here, low)), small, more)
rise_over at perm (x ∷ xs) last stop ys rise low small more =
    let same = page_with perm x in
    let A : ℕ → Type 0 = λ n. (at ≤ n) × (n < 2 ^ 44) × RiseAfter (n + 1) (map (with_perm perm) xs ++ stop ∷ ys) in
    subst A (sym same) (rise.0, rise.1, rise_over (page_of x + 1) perm xs last stop ys rise.2 low small more)

-- a point as a turn, or none where nothing changes
as_turn : (s : Perm) (q : Point) → (t : Option Point) × (option_to_list t ≡ turn_at s q) × IsTurn s (page_of q) (perm_of q) t
as_turn s q =
    ⊎_elim (λ same. (None, sym (turn_same s q same), sym same)) (λ other. (Some q, sym (turn_other s q other), ((λ e. other (sym e)), refl, refl)))
    (same_or_not s (perm_of q))

abbrev pub over : List Point → ℕ → ℕ → Perm → Point → Point → List Point
over ps from to perm start stop =
    take from ps ++ (start ∷ (map (with_perm perm) (take (to - 1 - (from + 1)) (drop (from + 1) ps)) ++ stop ∷ drop to ps))

pub over_changed :
    (old new : List Point) (first end from to : ℕ) (perm after : Perm) (start stop : Point) → end < 2 ^ 44 → after ≡ standing NoAccess (take to old)
    → page_of start ≡ first → perm_of start ≡ perm
    → page_of stop ≡ end → perm_of stop ≡ after → new ≡ over old from to perm start stop → IsChanged old new from to first end perm
over_changed old new first end from to perm after start stop small stands start_page start_perm stop_page stop_perm same =
    let s = standing NoAccess (take from old) in
    let xs = take (to - 1 - (from + 1)) (drop (from + 1) old) in
    let one = as_turn s start in
    let two = as_turn perm stop in
    let T : ℕ → Type 0 = λ n. IsTurn s n (perm_of start) one.0 in
    let U : Perm → Type 0 = λ p. IsTurn s first p one.0 in
    let V : ℕ → Type 0 = λ n. IsTurn perm n (perm_of stop) two.0 in
    let W : Perm → Type 0 = λ p. IsTurn perm end p two.0 in
    let is : perm_of stop ≡ standing NoAccess (take to old) = stop_perm ∙ stands in
    record {
      start = one.0;
      stop = two.0;
      turn = subst U start_perm (subst T start_page one.2);
      ends = inr (small, subst W is (subst V stop_page two.2));
      turns_are =
          ap turns same
          ∙ turns_append NoAccess (take from old) (start ∷ (map (with_perm perm) xs ++ stop ∷ drop to old))
          ∙ ap (λ p. turns (take from old) ++ (turn_at s start ++ turns_after p (map (with_perm perm) xs ++ stop ∷ drop to old))) start_perm
          ∙ ap (λ l. turns (take from old) ++ (turn_at s start ++ l)) (idle_turns perm xs (stop ∷ drop to old))
          ∙ ap (λ p. turns (take from old) ++ (turn_at s start ++ (turn_at perm stop ++ turns_after p (drop to old)))) is
          ∙ ap (λ l. turns (take from old) ++ (l ++ (turn_at perm stop ++ turns_after (standing NoAccess (take to old)) (drop to old)))) (sym one.1)
          ∙ ap (λ l. turns (take from old) ++ (option_to_list one.0 ++ (l ++ turns_after (standing NoAccess (take to old)) (drop to old)))) (sym two.1);
    }

-- the points after the first of those in a range
inner_parts :
    (ps : List Point) (from to : ℕ) (d : Point) → from + 2 ≤ to → to ≤ length ps
    → drop (from + 1) ps ≡ take (to - 1 - (from + 1)) (drop (from + 1) ps) ++ get_or ps (to - 1) d ∷ drop to ps
inner_parts ps from to d order inside =
    let n = to - 1 - (from + 1) in
    let one : from + 1 + (to - 1 - (from + 1)) ≡ to - 1 = omega (arith, order) in
    let next : to - 1 + 1 ≡ to = omega (arith, order) in
    sym (take-append-drop n (drop (from + 1) ps))
    ∙ ap (λ l. take n (drop (from + 1) ps) ++ l)
    (drop-drop n (from + 1) ps ∙ ap (λ m. drop m ps) one ∙ drop_more ps (to - 1) d (omega (arith, order, inside))
    ∙ ap (λ m. get_or ps (to - 1) d ∷ drop m ps) next)

pub over_rise :
    (ps new : List Point) (first end from to : ℕ) (perm : Perm) (start stop : Point) → Rise ps → first < end → end < 2 ^ 44 → IsCut ps first end from to
    → from + 2 ≤ to → to ≤ length ps
    → page_of start ≡ first → page_of stop ≡ end → new ≡ over ps from to perm start stop → Rise new
over_rise ps new first end from to perm start stop rise some small cut order inside start_page stop_page same =
    let d : Point = record { number = 0 } in
    let xs = take (to - 1 - (from + 1)) (drop (from + 1) ps) in
    let last = get_or ps (to - 1) d in
    let head = get_or ps from d in
    let A : List Point → Type 0 = Rise in
    let B : List Point → Type 0 = λ l. RiseAfter (last_at 0 (take from ps)) l in
    let C : List Point → Type 0 = λ l. RiseAfter (page_of start + 1) l in
    let D : ℕ → Type 0 = λ n. RiseAfter (n + 1) (drop to ps) in
    let rest = subst B (drop_more ps from d (omega (arith, order, inside))) (rise_second 0 (take from ps) (drop from ps) (whole ps from rise)) in
    let here : from + 0 ≡ from = omega arith in
    let E : Point → Type 0 = λ q. first ≤ page_of q in
    let F : Point → Type 0 = λ q. page_of q ≤ end in
    let low : first ≤ page_of (get_or ps from d) =
    subst E (get_or-drop from ps 0 d ∙ ap (λ n. get_or ps n d) here) (cut.rest 0 d (omega (arith, length-drop from ps, order, inside))) in
    let high : page_of (get_or ps (to - 1) d) ≤ end =
    subst F (get_or-take to ps (to - 1) d (omega (arith, order))) (cut.up_to (to - 1) d (omega (arith, length-take to ps, order, inside))) in
    let inner : RiseAfter (page_of start + 1) (take (to - 1 - (from + 1)) (drop (from + 1) ps) ++ get_or ps (to - 1) d ∷ drop to ps) =
    subst C (inner_parts ps from to d order inside)
    (rise_earlier (page_of (get_or ps from d) + 1) (page_of start + 1) (drop (from + 1) ps) rest.2 (omega (arith, low, start_page))) in
    let begin = rise_before ps first end from to rise cut in
    subst A (sym same)
    (rise_append 0 (take from ps) (start ∷ (map (with_perm perm) xs ++ stop ∷ drop to ps)) (rise_first 0 (take from ps) (drop from ps) (whole ps from rise)) (
      omega (arith, begin, start_page),
      omega (arith, some, small, start_page),
      rise_over (page_of start + 1) perm xs last stop (drop to ps) inner (omega (arith, high, stop_page)) (omega (arith, small, stop_page))
          (subst D (sym stop_page) (rise_behind ps first end from to rise cut)),
    ))

-- ---- how they are written

abbrev pub repeated : List Point → ℕ → ℕ → Perm → List Point
repeated ps from at perm = take from ps ++ (map (with_perm perm) (take (at - from) (drop from ps)) ++ drop at ps)

pub repeated_more :
    (ps now : List Point) (from at : ℕ) (perm : Perm) (x z : Point) → from ≤ at → at < length ps → now ≡ repeated ps from at perm → z ≡ get_or now at z
    → x ≡ with_perm perm z
    → set now at x ≡ repeated ps from (at + 1) perm
repeated_more ps now from at perm x z order inside same read made =
    let d = z in
    let done = map (with_perm perm) (take (at - from) (drop from ps)) in
    let y = get_or ps at d in
    let count : length (take from ps ++ map (with_perm perm) (take (at - from) (drop from ps))) ≡ at =
    omega (
      arith,
      length-append (take from ps) (map (with_perm perm) (take (at - from) (drop from ps))),
      length-map (take (at - from) (drop from ps))
          (with_perm perm),
      length-take (at - from) (drop from ps),
      length-take from ps,
      length-drop from ps,
      order,
      inside,
    ) in
    let back : from + (at - from) ≡ at = omega (arith, order) in
    let up : at - from + 1 ≡ at + 1 - from = omega (arith, order) in
    let more : take (at + 1 - from) (drop from ps) ≡ take (at - from) (drop from ps) ++ get_or ps at d ∷ [] =
    ap (λ n. take n (drop from ps)) (sym up)
    ∙ take_more (drop from ps) (at - from) d (omega (arith, length-drop from ps, order, inside))
    ∙ ap (λ z. take (at - from) (drop from ps) ++ z ∷ []) (get_or-drop from ps (at - from) d ∙ ap (λ n. get_or ps n d) back) in
    let shape : now ≡ (take from ps ++ map (with_perm perm) (take (at - from) (drop from ps))) ++ get_or ps at z ∷ drop (at + 1) ps =
    same ∙ ap (λ l. take from ps ++ (done ++ l)) (drop_more ps at d inside) ∙ sym (append_assoc (take from ps) done (y ∷ drop (at + 1) ps)) in
    let is : x ≡ with_perm perm (get_or ps at z) =
    made ∙ ap (with_perm perm) (read ∙ ap (λ l. get_or l at z) shape ∙ get_or_at (take from ps ++ done) y (drop (at + 1) ps) z at count) in
    ap (λ l. set l at x) shape
    ∙ set_at (take from ps ++ done) y (drop (at + 1) ps) x at count
    ∙ append_assoc (take from ps) done (x ∷ drop (at + 1) ps)
    ∙ ap (λ z. take from ps ++ (done ++ z ∷ drop (at + 1) ps)) is
    ∙ ap (λ l. take from ps ++ l) (sym (append_assoc done (with_perm perm y ∷ []) (drop (at + 1) ps)))
    ∙ ap (λ l. take from ps ++ (l ++ drop (at + 1) ps)) (sym (map-append (with_perm perm) (take (at - from) (drop from ps)) (y ∷ []))
    ∙ ap (map (with_perm perm)) (sym more))

pub written :
    (ps now : List Point) (from to : ℕ) (perm : Perm) (start stop : Point) → from + 2 ≤ to → to ≤ length ps → now ≡ repeated ps (from + 1) (to - 1) perm
    → set (set now from start) (to - 1) stop ≡ over ps from to perm start stop
written ps now from to perm start stop order inside same =
    let d : Point = record { number = 0 } in
    let front = take from ps in
    let xs = map (with_perm perm) (take (to - 1 - (from + 1)) (drop (from + 1) ps)) in
    let head = get_or ps from d in
    let last = get_or ps (to - 1) d in
    let next : to - 1 + 1 ≡ to = omega (arith, order) in
    let first : length (take from ps) ≡ from = length-take-le from ps (omega (arith, order, inside)) in
    let count : length (take from ps ++ start ∷ map (with_perm perm) (take (to - 1 - (from + 1)) (drop (from + 1) ps))) ≡ to - 1 =
    omega (
      arith,
      length-append (take from ps) (start ∷ map (with_perm perm) (take (to - 1 - (from + 1)) (drop (from + 1) ps))),
      length-map
          (take (to - 1 - (from + 1)) (drop (from + 1) ps)) (with_perm perm),
      length-take (to - 1 - (from + 1)) (drop (from + 1) ps),
      length-drop
          (from + 1) ps,
      first,
      order,
      inside,
    ) in
    ap (λ l. set (set l from start) (to - 1) stop)
    (same
    ∙ ap (λ l. take (from + 1) ps ++ (xs ++ l)) (drop_more ps (to - 1) d (omega (arith, order, inside)) ∙ ap (λ n. last ∷ drop n ps) next)
    ∙ ap (λ l. l ++ (xs ++ last ∷ drop to ps)) (take_more ps from d (omega (arith, order, inside)))
    ∙ append_assoc front (head ∷ []) (xs ++ last ∷ drop to ps))
    ∙ ap (λ l. set l (to - 1) stop) (set_at front head (xs ++ last ∷ drop to ps) start from first ∙ sym (append_assoc front (start ∷ xs) (last ∷ drop to ps)))
    ∙ set_at (front ++ start ∷ xs) last (drop to ps) stop (to - 1) count
    ∙ append_assoc front (start ∷ xs) (stop ∷ drop to ps)
