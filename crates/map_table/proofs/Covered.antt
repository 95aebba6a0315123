-- What extents say of the bytes from one on, as far as it stays the same.
use Rattle.std.proofs.Common.{◌≡◌, ◌≢◌, ◌∙◌, ℕ, zero, suc, ◌+◌, ◌^◌, ◌<◌, ◌≤◌, List, [], ◌∷◌, All, length, get_or, Bool, true, false, Option, None, Some}
use Rattle.std.proofs.Common.{⊎_elim, nat_le, nat_lt, ◌&&◌, ap, sym, refl, arith, if◌then◌else◌}
use Rattle.std.proofs.lemmas.Bool.{cases_Bool, cases_lt}
use Rattle.std.proofs.lemmas.Bool.Decides.{nat_tests}
use Rattle.std.proofs.lemmas.List.{get_or_past}
use Rattle.std.proofs.lemmas.Option.{same_Some}
use Rattle.pmp_encoding.specs.declared.perm.Perm.{Perm}
use Rattle.pmp_encoding.specs.declared.perm.Perm.TheVariants.{NoAccess}
use Rattle.pmp_encoding.specs.declared.extent.Extent.{Extent}
use Rattle.pmp_match.specs.RegisterBytes.{has_byte, perm_at}
use Rattle.pmp_match.specs.RegisterDecision.{IsWords}
use Rattle.pmp_match.specs.Tor.{nowhere}
use Rattle.map_table.specs.Meetings.{IsCut, IsNextMeeting, MissesAll, meets}
use Rattle.map_table.specs.Stretches.{decider, decider_from}

-- ---- a byte and an extent

between : (first end byte : ℕ) → first ≤ byte → byte < end → (nat_le first byte && nat_lt byte end) ≡ true
between first end byte low high = grind (arith, nat_tests)

behind : (first end byte : ℕ) → end ≤ byte → (nat_le first byte && nat_lt byte end) ≡ false
behind first end byte high = grind (arith, nat_tests)

-- ---- a byte and the first extent of a list

taken : (n : ℕ) (e : Extent) (extents : List Extent) (byte : ℕ) → has_byte e byte ≡ true → decider_from n (e ∷ extents) byte ≡ Some n
taken n e extents byte h = ap (λ t. if t then Some n else decider_from (n + 1) extents byte) h

left : (n : ℕ) (e : Extent) (extents : List Extent) (byte : ℕ) → has_byte e byte ≡ false → decider_from n (e ∷ extents) byte ≡ decider_from (n + 1) extents byte
left n e extents byte h = ap (λ t. if t then Some n else decider_from (n + 1) extents byte) h

given : (e : Extent) (extents : List Extent) (byte : ℕ) → has_byte e byte ≡ true → perm_at (e ∷ extents) byte ≡ e.perm
given e extents byte h = ap (λ t. if t then e.perm else perm_at extents byte) h

passed_on : (e : Extent) (extents : List Extent) (byte : ℕ) → has_byte e byte ≡ false → perm_at (e ∷ extents) byte ≡ perm_at extents byte
passed_on e extents byte h = ap (λ t. if t then e.perm else perm_at extents byte) h

least_step : (n k : ℕ) (t : Bool) (rest : Option ℕ) → (rest ≡ Some k → n + 1 ≤ k) → (if t then Some n else rest) ≡ Some k → n ≤ k
least_step n k true rest h e = omega (arith, same_Some n k e)
least_step n k false rest h e = omega (arith, h e)

-- the number of a deciding extent is not below that of the first of the list
least : (n : ℕ) (extents : List Extent) (byte k : ℕ) → decider_from n extents byte ≡ Some k → n ≤ k
least n [] byte k e = absurd cc
least n (d ∷ extents) byte k e = least_step n k (has_byte d byte) (decider_from (n + 1) extents byte) (λ s. least (n + 1) extents byte k s) e

-- an extent that decides a byte has it
has_decider : (n : ℕ) (extents : List Extent) (k byte : ℕ) → decider_from n extents byte ≡ Some (n + k) → has_byte (get_or extents k nowhere) byte ≡ true
has_decider n [] k byte e = absurd cc
has_decider n (x ∷ extents) zero byte e =
    ⊎_elim
    (λ has. has)
    (λ lacks. absurd (omega (arith, least (n + 1) extents byte (n + 0) (sym (left n x extents byte lacks) ∙ e))))
    (cases_Bool (has_byte x byte))
has_decider n (x ∷ extents) (suc k) byte e =
    ⊎_elim
    (λ has. absurd (omega (arith, same_Some n (n + suc k) (sym (taken n x extents byte has) ∙ e))))
    (λ lacks. has_decider (n + 1) extents k byte (sym (left n x extents byte lacks) ∙ e ∙ ap (λ j. Some j) (omega arith)))
    (cases_Bool (has_byte x byte))

nowhere_lacks : (byte : ℕ) → has_byte nowhere byte ≡ false
nowhere_lacks byte = grind (arith, nat_tests)

-- a byte that an extent has and none before it
decided_by :
    (n : ℕ) (extents : List Extent) (i byte : ℕ) → has_byte (get_or extents i nowhere) byte ≡ true
    → ((k : ℕ) → k < i → has_byte (get_or extents k nowhere) byte ≡ false)
    → (decider_from n extents byte ≡ Some (n + i)) × (perm_at extents byte ≡ (get_or extents i nowhere).perm)
decided_by n [] i byte has before = absurd (let e : true ≡ false = sym has ∙ nowhere_lacks byte in cc)
decided_by n (x ∷ extents) zero byte has before = (taken n x extents byte has ∙ ap (λ j. Some j) (omega arith), given x extents byte has)
decided_by n (x ∷ extents) (suc i) byte has before =
    let first : has_byte x byte ≡ false = before 0 (omega arith) in
    let rest = decided_by (n + 1) extents i byte has (λ k low. before (suc k) (omega (arith, low))) in
    (left n x extents byte first ∙ rest.0 ∙ ap (λ j. Some j) (omega arith), passed_on x extents byte first ∙ rest.1)

-- a byte that no extent has
undecided :
    (n : ℕ) (extents : List Extent) (byte : ℕ) → ((k : ℕ) → k < length extents → has_byte (get_or extents k nowhere) byte ≡ false)
    → (decider_from n extents byte ≡ None) × (perm_at extents byte ≡ NoAccess)
undecided n [] byte lacks = (refl, refl)
undecided n (x ∷ extents) byte lacks =
    let first : has_byte x byte ≡ false = lacks 0 (omega arith) in
    let rest = undecided (n + 1) extents byte (λ k low. lacks (suc k) (omega (arith, low))) in
    (left n x extents byte first ∙ rest.0, passed_on x extents byte first ∙ rest.1)

-- a byte that an extent has: it decides, or one before it
decided_up_to : (n : ℕ) (extents : List Extent) (k byte : ℕ) → has_byte (get_or extents k nowhere) byte ≡ true
    → (j : ℕ) × (j ≤ k) × (decider_from n extents byte ≡ Some (n + j))
decided_up_to n [] k byte has = absurd (let e : true ≡ false = sym has ∙ nowhere_lacks byte in cc)
decided_up_to n (x ∷ extents) zero byte has = (0, omega arith, taken n x extents byte has ∙ ap (λ j. Some j) (omega arith))
decided_up_to n (x ∷ extents) (suc k) byte has =
    ⊎_elim
    (λ first. (0, omega arith, taken n x extents byte first ∙ ap (λ j. Some j) (omega arith)))
    (λ lacks.
    let rest = decided_up_to (n + 1) extents k byte has in
    (suc (rest.0), omega (arith, rest.1), left n x extents byte lacks ∙ rest.2 ∙ ap (λ j. Some j) (omega arith)))
    (cases_Bool (has_byte x byte))

-- ---- an extent and a piece

-- an extent that does not meet the bytes has none of them
none_of : (x : Extent) (at end byte : ℕ) → meets x at end ≡ false → at ≤ byte → byte < end → has_byte x byte ≡ false
none_of x at end byte h low high = grind (arith, nat_tests)

-- one that does not have the byte `at`, and meets the piece from there on, begins later
begins_later : (x : Extent) (at end : ℕ) → meets x at (at + 1) ≡ false → meets x at end ≡ true → at < x.base
begins_later x at end misses met = grind (arith, nat_tests)

begins_before : (x : Extent) (at : ℕ) → meets x at (at + 1) ≡ true → x.base ≤ at
begins_before x at met = grind (arith, nat_tests)

ends_after : (x : Extent) (at end : ℕ) → meets x at end ≡ true → at < x.end
ends_after x at end met = grind (arith, nat_tests)

-- one that ends after some byte has its first
has_first : (x : Extent) (at : ℕ) → IsWords x → at < x.end → has_byte x x.base ≡ true
has_first x at words later =
    ⊎_elim
    (λ some. between x.base x.end x.base (omega arith) some)
    (λ none. absurd (omega (arith, none.1, later)))
    words.some

-- ---- where an extent begins before number `bound`

-- none has a byte before the cut
lacks_before : (extents : List Extent) (bound at end cut k byte : ℕ) → IsCut extents bound at end cut → k < bound → at ≤ byte → byte < cut
    → has_byte (get_or extents k nowhere) byte ≡ false
lacks_before extents bound at end cut k byte is below low high = none_of (get_or extents k nowhere) at cut byte (is.missed k (omega arith) below) low high

-- the cut lies after `at`
cut_later : (extents : List Extent) (bound at end cut : ℕ) → MissesAll extents 0 bound at (at + 1) → at < end → IsCut extents bound at end cut → at < cut
cut_later extents bound at end cut misses some is =
    ⊎_elim
    (λ nearer.
    let begun = is.begun nearer in
    omega (arith, begins_later (get_or extents begun.0 nowhere) at end (misses begun.0 (omega arith) begun.1) begun.2, begun.3))
    (λ there. omega (arith, some, there))
    (cases_lt cut end)

words_at : (extents : List Extent) (k at end : ℕ) → All IsWords extents → meets (get_or extents k nowhere) at end ≡ true → IsWords (get_or extents k nowhere)
words_at extents k at end words met =
    ⊎_elim
    (λ inside. words k nowhere inside)
    (λ outside. absurd (omega (arith, ends_after (get_or extents k nowhere) at end met, ap (λ x. x.end) (get_or_past extents k nowhere outside))))
    (cases_lt k (length extents))

-- the byte at a cut before the end is decided by an extent before number `bound`
cut_turns :
    (extents : List Extent) (bound at end cut : ℕ) → All IsWords extents → IsCut extents bound at end cut → cut < end
    → (j : ℕ) × (j < bound) × (decider extents cut ≡ Some (0 + j))
cut_turns extents bound at end cut words is nearer =
    let begun = is.begun nearer in
    let x : Extent = get_or extents begun.0 nowhere in
    let has : has_byte x cut ≡ true = ap (has_byte x) (sym begun.3) ∙ has_first x at (words_at extents begun.0 at end words begun.2)
    (ends_after x at end begun.2) in
    let first = decided_up_to 0 extents begun.0 cut has in
    (first.0, omega (arith, first.1, begun.1), first.2)

-- ---- what the extents say from `at` to before `to`

pub record Says (extents : List Extent) (at to : ℕ) (entry : Option ℕ) (perm : Perm) : Type 0 where
  pub some : at < to
  pub inside : to ≤ 2 ^ 56
  pub decided : (byte : ℕ) → at ≤ byte → byte < to → decider extents byte ≡ entry
  pub given : (byte : ℕ) → at ≤ byte → byte < to → perm_at extents byte ≡ perm
  pub changes : to < 2 ^ 56 → decider extents to ≢ entry

-- an extent is the first that has the byte `at`
pub says_first :
    (extents : List Extent) (i at cut : ℕ) (x : Extent) → x ≡ get_or extents i nowhere → All IsWords extents
    → IsNextMeeting extents 0 at (at + 1) i → IsCut extents i at x.end cut → Says extents at cut (Some i) x.perm
says_first extents i at cut x is words next cuts =
    let met : meets x at (at + 1) ≡ true = ap (λ y. meets y at (at + 1)) is ∙ next.met in
    let low : x.base ≤ at = begins_before x at met in
    let later : at < x.end = ends_after x at (at + 1) met in
    let some : at < cut = cut_later extents i at x.end cut next.before later cuts in
    let whole : IsWords x = rw is (words i nowhere next.inside) in
    let has : (byte : ℕ) → at ≤ byte → byte < cut → has_byte (get_or extents i nowhere) byte ≡ true =
    λ byte begun ends. ap (λ y. has_byte y byte) (sym is) ∙ between x.base x.end byte (omega (arith, low, begun)) (omega (arith, ends, cuts.most)) in
    let says : (byte : ℕ) → at ≤ byte → byte < cut → (decider extents byte ≡ Some (0 + i)) × (perm_at extents byte ≡ (get_or extents i nowhere).perm) =
    λ byte begun ends. decided_by 0 extents i byte (has byte begun ends) (λ k before. lacks_before extents i at x.end cut k byte cuts before begun ends) in
    record {
      some = some;
      inside = omega (arith, cuts.most, whole.inside);
      decided = λ byte begun ends. (says byte begun ends).0 ∙ ap (λ j. Some j) (omega arith);
      given = λ byte begun ends. (says byte begun ends).1 ∙ ap (λ y. y.perm) (sym is);
      changes =
          λ small same.
          ⊎_elim
          (λ nearer.
          let turns = cut_turns extents i at x.end cut words cuts nearer in
          absurd (omega (arith, turns.1, same_Some (0 + turns.0) i (sym turns.2 ∙ same))))
          (λ there.
          let ends : cut ≡ x.end = omega (arith, there, cuts.most) in
          let decided : has_byte (get_or extents i nowhere) cut ≡ true = has_decider 0 extents i cut (same ∙ ap (λ j. Some j) (omega arith)) in
          let lacks : has_byte x cut ≡ false = behind x.base x.end cut (omega (arith, ends)) in
          absurd (let e : true ≡ false = sym decided ∙ ap (λ y. has_byte y cut) (sym is) ∙ lacks in cc))
          (cases_lt cut x.end);
    }

-- no extent has the byte `at`
pub says_none :
    (extents : List Extent) (at cut : ℕ) → at < 2 ^ 56 → All IsWords extents → MissesAll extents 0 (length extents) at (at + 1)
    → IsCut extents (length extents) at (2 ^ 56) cut
    → Says extents at cut None NoAccess
says_none extents at cut small words misses cuts =
    let says : (byte : ℕ) → at ≤ byte → byte < cut → (decider extents byte ≡ None) × (perm_at extents byte ≡ NoAccess) =
    λ byte begun ends. undecided 0 extents byte (λ k before. lacks_before extents (length extents) at (2 ^ 56) cut k byte cuts before begun ends) in
    record {
      some = cut_later extents (length extents) at (2 ^ 56) cut misses small cuts;
      inside = cuts.most;
      decided = λ byte begun ends. (says byte begun ends).0;
      given = λ byte begun ends. (says byte begun ends).1;
      changes =
          λ nearer same.
          let turns = cut_turns extents (length extents) at (2 ^ 56) cut words cuts nearer in
          absurd (let e = sym turns.2 ∙ same in cc);
    }
