-- Points at which the permission changes, among others at which it does not.
use Rattle.std.proofs.Common.{◌≡◌, ◌≢◌, ℕ, ◌+◌, ◌-◌, ◌%◌, ◌^◌, ◌<◌, ◌≤◌, ◌⊎◌, inl, inr, ⊎_elim, List, [], ◌∷◌, ◌++◌, length, take, drop, Bool, true, false, not}
use Rattle.std.proofs.Common.{cond, if◌then◌else◌, count_by, All, Option, None, Some, option_to_list, refl, sym, ap, subst, ◌∙◌, arith, rules, append_assoc}
use Rattle.std.proofs.Common.{length-append}
use Rattle.std.specs.List.{AllByRecursion}
use Rattle.std.proofs.Math.Seq.{take-append_seam, drop-append_seam}
use Rattle.std.proofs.lemmas.Bool.{eqb-true, eq-eqb}
use Rattle.std.proofs.lemmas.List.{take-append-drop, take-take, drop-take}
use Rattle.std.proofs.lemmas.List.Elements.{recursion_from_All, All-from_recursion}
use denote.Enum.Bare.{sameb, same_true, same_false}
use Rattle.pmp_encoding.specs.contracts.perm.Perm.{the_type}
use Rattle.pmp_encoding.specs.declared.perm.Perm.{Perm}
use Rattle.pmp_encoding.specs.declared.perm.Perm.TheVariants.{NoAccess}
use Rattle.pmp_encoding.specs.Perms.{bits_of, perm_eq}
use Rattle.pmp_encoding.proofs.Pairs.{perm_from_same_bits}
use Rattle.permission_map.specs.declared.points.Point.{Point}
use Rattle.permission_map.specs.declared.runs.Run.{Run}
use Rattle.permission_map.specs.Points.{ArePoints, ArePointsAfter, IsChanged, IsCut, IsStop, IsTurn, Rise, RiseAfter, allows, page_of, perm_of, run_to, runs_of}
use Rattle.permission_map.specs.Points.{standing, turn_at, turns, turns_after}
use Rattle.permission_map.proofs.PointLists.{count_by-append, drop_twice}
use Rattle.permission_map.proofs.PointRuns.{allows_none, allows_some}
use Rattle.permission_map.proofs.PointSets.{AreCuts, points_earlier, replaced}

-- ---- one point

pub same_or_not : (p q : Perm) → (p ≡ q) ⊎ (p ≢ q)
same_or_not p q = go (perm_eq p q) refl
  where
    go : (t : Bool) → perm_eq p q ≡ t → (p ≡ q) ⊎ (p ≢ q)
    go true is = inl (perm_from_same_bits p q (eqb-true (bits_of p) (bits_of q) is))
    go false is = inr (λ same. differs (sym is ∙ ap (perm_eq p) (sym same) ∙ eq-eqb (bits_of p) (bits_of p) refl))
      where
        differs : false ≡ true → ⊥
        differs h = cc

pub turn_same : (p : Perm) (q : Point) → p ≡ perm_of q → turn_at p q ≡ []
turn_same p q same =
    let e : perm_eq p (perm_of q) ≡ true = ap (perm_eq p) (sym same) ∙ eq-eqb (bits_of p) (bits_of p) refl in
    ap (λ t. if t then [] else q ∷ []) e

pub turn_other : (p : Perm) (q : Point) → p ≢ perm_of q → turn_at p q ≡ q ∷ []
turn_other p q other = go (perm_eq p (perm_of q)) refl
  where
    go : (t : Bool) → perm_eq p (perm_of q) ≡ t → (if t then [] else q ∷ []) ≡ q ∷ []
    go true is = absurd (other (perm_from_same_bits p (perm_of q) (eqb-true (bits_of p) (bits_of (perm_of q)) is)))
    go false is = refl

turn_few : (p : Perm) (q : Point) → length (turn_at p q) ≤ 1
turn_few p q = go (perm_eq p (perm_of q))
  where
    go : (t : Bool) → length (if t then [] else q ∷ []) ≤ 1
    go true = omega arith
    go false = omega arith

-- ---- their turns

pub turns_append : (p : Perm) (xs ys : List Point) → turns_after p (xs ++ ys) ≡ turns_after p xs ++ turns_after (standing p xs) ys
turns_append p [] ys = refl
turns_append p (x ∷ xs) ys =
    ap (λ l. turn_at p x ++ l) (turns_append (perm_of x) xs ys)
    ∙ sym (append_assoc (turn_at p x) (turns_after (perm_of x) xs) (turns_after (standing (perm_of x) xs) ys))

standing_turns : (p : Perm) (xs : List Point) → standing p (turns_after p xs) ≡ standing p xs
standing_turns p [] = refl
standing_turns p (x ∷ xs) =
    ⊎_elim
    (λ same.
    ap (λ l. standing p (l ++ turns_after (perm_of x) xs)) (turn_same p x same)
    ∙ ap (λ q. standing q (turns_after (perm_of x) xs)) same
    ∙ standing_turns (perm_of x) xs)
    (λ other. ap (λ l. standing p (l ++ turns_after (perm_of x) xs)) (turn_other p x other) ∙ standing_turns (perm_of x) xs)
    (same_or_not p (perm_of x))

all_turns : (P : Point → Type 0) (p : Perm) (xs : List Point) → AllByRecursion P xs → AllByRecursion P (turns_after p xs)
all_turns P p [] all = tt
all_turns P p (x ∷ xs) all =
    let A : List Point → Type 0 = λ l. AllByRecursion P (l ++ turns_after (perm_of x) xs) in
    let rest = all_turns P (perm_of x) xs all.1 in
    ⊎_elim (λ same. subst A (sym (turn_same p x same)) rest) (λ other. subst A (sym (turn_other p x other)) (all.0, rest)) (same_or_not p (perm_of x))

turns_are_after : (at : ℕ) (p : Perm) (xs : List Point) → RiseAfter at xs → ArePointsAfter at p (turns_after p xs)
turns_are_after at p [] rise = tt
turns_are_after at p (x ∷ xs) rise =
    let A : List Point → Type 0 = λ l. ArePointsAfter at p (l ++ turns_after (perm_of x) xs) in
    let B : Perm → Type 0 = λ q. ArePointsAfter (page_of x + 1) q (turns_after (perm_of x) xs) in
    let rest = turns_are_after (page_of x + 1) (perm_of x) xs rise.2 in
    let begin : at ≤ page_of x = rise.0 in
    ⊎_elim
    (λ same.
    subst A (sym (turn_same p x same))
    (points_earlier (page_of x + 1) at p (turns_after (perm_of x) xs) (subst B (sym same) rest) (omega (arith, begin))))
    (λ other.
    subst A (sym (turn_other p x other)) (record { rising = rise.0; changes = λ e. other (sym e); inside = rise.1 }, rest))
    (same_or_not p (perm_of x))

pub turns_are : (xs : List Point) → Rise xs → ArePoints (turns xs)
turns_are xs rise = turns_are_after 0 NoAccess xs rise

pub turns_few : (p : Perm) (xs : List Point) → length (turns_after p xs) ≤ length xs
turns_few p [] = omega arith
turns_few p (x ∷ xs) =
    omega (arith, turns_few (perm_of x) xs, turn_few p x, length-append (turn_at p x) (turns_after (perm_of x) xs))

-- a turn is one where it stands
pub set_turn : (s : Perm) (page : ℕ) (perm : Perm) (t : Option Point) (rest : List Point) → IsTurn s page perm t
    → turns_after s (option_to_list t ++ rest) ≡ option_to_list t ++ turns_after perm rest
set_turn s page perm None rest same = ap (λ q. turns_after q rest) (sym same)
set_turn s page perm (Some q) rest turn =
    ap (λ l. l ++ turns_after (perm_of q) rest) (turn_other s q (λ e. turn.0 (sym turn.2 ∙ sym e)))
    ∙ ap (λ r. q ∷ turns_after r rest) turn.2

-- ---- parts

abbrev pub cut_at : List Point → ℕ → ℕ
cut_at ps i = length (turns (take i ps))

pub turn_parts_at : (ps : List Point) (i : ℕ) → turns ps ≡ turns (take i ps) ++ turns_after (standing NoAccess (take i ps)) (drop i ps)
turn_parts_at ps i = ap turns (sym (take-append-drop i ps)) ∙ turns_append NoAccess (take i ps) (drop i ps)

cut_front : (ps : List Point) (i : ℕ) → take (cut_at ps i) (turns ps) ≡ turns (take i ps)
cut_front ps i =
    ap (take (cut_at ps i)) (turn_parts_at ps i)
    ∙ take-append_seam (turns (take i ps)) (turns_after (standing NoAccess (take i ps)) (drop i ps))

cut_back : (ps : List Point) (i : ℕ) → drop (cut_at ps i) (turns ps) ≡ turns_after (standing NoAccess (take i ps)) (drop i ps)
cut_back ps i =
    ap (drop (cut_at ps i)) (turn_parts_at ps i)
    ∙ drop-append_seam (turns (take i ps)) (turns_after (standing NoAccess (take i ps)) (drop i ps))

abbrev between : List Point → ℕ → ℕ → List Point
between ps from to = take (to - from) (drop from ps)

take_both : (ps : List Point) (from to : ℕ) → from ≤ to → take from ps ++ take (to - from) (drop from ps) ≡ take to ps
take_both ps from to order =
    let e : from + (to - from) ≡ to = omega (arith, order) in
    ap (λ l. take from ps ++ l) (sym (drop-take from (to - from) ps))
    ∙ ap (λ n. take from ps ++ drop from (take n ps)) e
    ∙ ap (λ l. l ++ drop from (take to ps)) (sym (take-take from to ps order))
    ∙ take-append-drop from (take to ps)

standing_append : (p : Perm) (xs ys : List Point) → standing p (xs ++ ys) ≡ standing (standing p xs) ys
standing_append p [] ys = refl
standing_append p (x ∷ xs) ys = standing_append (perm_of x) xs ys

pub turns_back :
    (ps : List Point) (from to : ℕ) → from ≤ to
    → turns_after (standing NoAccess (take from ps)) (drop from ps)
    ≡ turns_after (standing NoAccess (take from ps)) (take (to - from) (drop from ps)) ++ turns_after (standing NoAccess (take to ps)) (drop to ps)
turns_back ps from to order =
    let s = standing NoAccess (take from ps) in
    let mid = take (to - from) (drop from ps) in
    ap (turns_after s) (sym (take-append-drop (to - from) (drop from ps)))
    ∙ turns_append s mid (drop (to - from) (drop from ps))
    ∙ ap (λ l. turns_after s mid ++ turns_after (standing s mid) l) (drop_twice ps from to order)
    ∙ ap (λ q. turns_after s mid ++ turns_after q (drop to ps)) (sym (standing_append NoAccess (take from ps) mid)
    ∙ ap (standing NoAccess) (take_both ps from to order))

-- how many of the turns begin a run, in three parts
pub begun_parts :
    (ps : List Point) (from to : ℕ) → from ≤ to
    → count_by allows (turns (take from ps))
    + (count_by allows (turns_after (standing NoAccess (take from ps)) (take (to - from) (drop from ps)))
    + count_by allows (turns_after (standing NoAccess (take to ps)) (drop to ps)))
    ≡ count_by allows (turns ps)
begun_parts ps from to order =
    let s = standing NoAccess (take from ps) in
    let mid = take (to - from) (drop from ps) in
    let one = count_by-append allows (turns (take from ps)) (turns_after s (drop from ps)) in
    let two = count_by-append allows (turns_after s mid) (turns_after (standing NoAccess (take to ps)) (drop to ps)) in
    let whole = ap (count_by allows) (turn_parts_at ps from) in
    let back = ap (count_by allows) (turns_back ps from to order) in
    omega (arith, one, two, whole, back)

-- ---- the cuts among the turns

turned_all :
    (P : Point → Type 0) (p : Perm) (xs : List Point) → All P xs → All P (turns_after p xs)
turned_all P p xs all = All-from_recursion P (turns_after p xs) (all_turns P p xs (recursion_from_All P xs all))

pub turn_cuts :
    (ps : List Point) (first end from to : ℕ) (perm : Perm) (start stop : Option Point) → IsCut ps first end from to
    → IsTurn (standing NoAccess (take from ps)) first perm start → IsStop perm end (standing NoAccess (take to ps)) stop
    → AreCuts (turns ps) first end (cut_at ps from) (cut_at ps to) perm start stop
turn_cuts ps first end from to perm start stop cut turn ends =
    let A : List Point → Type 0 = λ l. All (λ q. page_of q < first) l in
    let B : List Point → Type 0 = λ l. All (λ q. first ≤ page_of q) l in
    let C : List Point → Type 0 = λ l. All (λ q. page_of q ≤ end) l in
    let D : List Point → Type 0 = λ l. All (λ q. end < page_of q) l in
    let T : Perm → Type 0 = λ p. IsTurn p first perm start in
    let S : Perm → Type 0 = λ p. IsStop perm end p stop in
    record {
      cut =
          record {
            before = subst A (sym (cut_front ps from)) (turned_all (λ q. page_of q < first) NoAccess (take from ps) cut.before);
            rest = subst B (sym (cut_back ps from)) (turned_all (λ q. first ≤ page_of q) (standing NoAccess (take from ps)) (drop from ps) cut.rest);
            up_to = subst C (sym (cut_front ps to)) (turned_all (λ q. page_of q ≤ end) NoAccess (take to ps) cut.up_to);
            behind = subst D (sym (cut_back ps to)) (turned_all (λ q. end < page_of q) (standing NoAccess (take to ps)) (drop to ps) cut.behind);
          };
      turn = subst T (sym (ap (standing NoAccess) (cut_front ps from) ∙ standing_turns NoAccess (take from ps))) turn;
      ends = subst S (sym (ap (standing NoAccess) (cut_front ps to) ∙ standing_turns NoAccess (take to ps))) ends;
    }

pub turn_parts :
    (ps : List Point) (from to gone : ℕ)
    → count_by allows (turns (take from ps)) + (gone + count_by allows (turns_after (standing NoAccess (take to ps)) (drop to ps))) ≡ count_by allows (turns ps)
    → count_by allows (take (cut_at ps from) (turns ps)) + (gone + count_by allows (drop (cut_at ps to) (turns ps))) ≡ count_by allows (turns ps)
turn_parts ps from to gone parts =
    let front = ap (count_by allows) (cut_front ps from) in
    let back = ap (count_by allows) (cut_back ps to) in
    omega (arith, front, back, parts)

pub turns_changed :
    (old new : List Point) (from to first end : ℕ) (perm : Perm) (c : IsChanged old new from to first end perm)
    → turns new ≡ replaced (turns old) (cut_at old from) (cut_at old to) c.start c.stop
turns_changed old new from to first end perm c =
    c.turns_are
    ∙ ap (λ l. l ++ (option_to_list c.start ++ (option_to_list c.stop ++ turns_after (standing NoAccess (take to old)) (drop to old))))
    (sym (cut_front old from))
    ∙ ap (λ l. take (cut_at old from) (turns old) ++ (option_to_list c.start ++ (option_to_list c.stop ++ l))) (sym (cut_back old to))

-- ---- two turns of one permission begin as many runs

allows_alike : (q r : Point) → perm_of q ≡ perm_of r → allows q ≡ allows r
allows_alike q r same = go (allows q) (allows r) refl refl
  where
    go : (a b : Bool) → allows q ≡ a → allows r ≡ b → a ≡ b
    go true true a b = refl
    go false false a b = refl
    go true false a b = absurd (allows_some (q.number % 8) a (same ∙ allows_none (r.number % 8) b))
    go false true a b = absurd (allows_some (r.number % 8) b (sym same ∙ allows_none (q.number % 8) a))

pub turn_alike :
    (s : Perm) (page : ℕ) (perm : Perm) (a b : Option Point) → IsTurn s page perm a → IsTurn s page perm b
    → count_by allows (option_to_list a) ≡ count_by allows (option_to_list b)
turn_alike s page perm None None one two = refl
turn_alike s page perm None (Some r) one two = absurd (two.0 one)
turn_alike s page perm (Some q) None one two = absurd (one.0 two)
turn_alike s page perm (Some q) (Some r) one two = ap (λ t. 0 + cond {A = ℕ} t 1 0) (allows_alike q r (one.2 ∙ sym two.2))

pub stop_alike :
    (s : Perm) (page : ℕ) (perm : Perm) (a b : Option Point) → IsStop s page perm a → IsStop s page perm b
    → count_by allows (option_to_list a) ≡ count_by allows (option_to_list b)
stop_alike s page perm a b one two =
    ⊎_elim
    (λ edge. ⊎_elim (λ other. ap (λ t. count_by allows (option_to_list t)) (edge.1 ∙ sym other.1)) (λ other. absurd (omega (arith, edge.0, other.0))) two)
    (λ turn. ⊎_elim (λ other. absurd (omega (arith, turn.0, other.0))) (λ other. turn_alike s page perm a b turn.1 other.1) two)
    one

-- ---- as the code tells whether two permissions are the same

pub told_same : (p q : Perm) (t : Bool) → t ≡ not (sameb the_type p q) → t ≡ false → p ≡ q
told_same p q t is holds = same_true the_type (search rules) p q (go (sameb the_type p q) (sym is ∙ holds))
  where
    go : (b : Bool) → not b ≡ false → b ≡ true
    go true h = refl
    go false h = cc

pub told_other : (p q : Perm) (t : Bool) → t ≡ not (sameb the_type p q) → t ≡ true → p ≢ q
told_other p q t is holds = same_false the_type p q (go (sameb the_type p q) (sym is ∙ holds))
  where
    go : (b : Bool) → not b ≡ true → b ≡ false
    go true h = cc
    go false h = refl

-- ---- the runs between the turns, point by point

pub rise_next : (at : ℕ) (point : Point) (rest behind : List Point) → rest ≡ point ∷ behind → RiseAfter at rest
    → (page_of point < 2 ^ 44) × RiseAfter (page_of point) behind × RiseAfter at behind
rise_next at point rest behind shape rise =
    let A : List Point → Type 0 = RiseAfter at in
    let own = subst A shape rise in
    let begin : at ≤ page_of point = own.0 in
    (own.1, earlier (page_of point + 1) (page_of point) behind own.2 (omega arith), earlier (page_of point + 1) at behind own.2 (omega (arith, begin)))
  where
    earlier : (at from : ℕ) (ps : List Point) → RiseAfter at ps → from ≤ at → RiseAfter from ps
    earlier at from [] rise low = tt
    earlier at from (q ∷ ps) rise low = ((let here : at ≤ page_of q = rise.0 in omega (arith, here, low)), rise.1, rise.2)

pub next_turn :
    (turn point : Point) (rest behind : List Point) (runs pushed all : List Run) → rest ≡ point ∷ behind → perm_of turn ≢ perm_of point
    → runs ++ runs_of (turn ∷ turns_after (perm_of turn) rest) ≡ all → pushed ≡ runs ++ run_to (page_of point) turn
    → pushed ++ runs_of (point ∷ turns_after (perm_of point) behind) ≡ all
next_turn turn point rest behind runs pushed all shape other done is =
    ap (λ l. l ++ runs_of (point ∷ turns_after (perm_of point) behind)) is
    ∙ append_assoc runs (run_to (page_of point) turn) (runs_of (point ∷ turns_after (perm_of point) behind))
    ∙ sym (ap (λ l. runs ++ runs_of (turn ∷ (l ++ turns_after (perm_of point) behind))) (turn_other (perm_of turn) point other))
    ∙ sym (ap (λ l. runs ++ runs_of (turn ∷ turns_after (perm_of turn) l)) shape)
    ∙ done

pub same_turn :
    (turn point : Point) (rest behind : List Point) (runs all : List Run) → rest ≡ point ∷ behind → perm_of turn ≡ perm_of point
    → runs ++ runs_of (turn ∷ turns_after (perm_of turn) rest) ≡ all → runs ++ runs_of (turn ∷ turns_after (perm_of turn) behind) ≡ all
same_turn turn point rest behind runs all shape same done =
    ap (λ p. runs ++ runs_of (turn ∷ turns_after p behind)) same
    ∙ sym (ap (λ l. runs ++ runs_of (turn ∷ (l ++ turns_after (perm_of point) behind))) (turn_same (perm_of turn) point same))
    ∙ sym (ap (λ l. runs ++ runs_of (turn ∷ turns_after (perm_of turn) l)) shape)
    ∙ done
