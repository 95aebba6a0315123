-- What the lines whose answers were compared come to.
use Rattle.std.proofs.Common.{◌≡◌, ◌∙◌, ℕ, ◌+◌, ◌-◌, ◌^◌, ◌<◌, ◌≤◌, Bool, true, false, min, if◌then◌else◌, List, [], ◌∷◌, ◌++◌, length, Option, Some, None}
use Rattle.std.proofs.Common.{option_map, append_assoc, length-append, refl, ap, arith, inl, inr}
use Rattle.trace_answers.specs.declared.difference.Difference.{Difference}
use Rattle.text_lines.specs.Lines.{AreLines, IsShortLine, without_return}
use Rattle.text_lines.specs.LineLoop.{Meaning, Does, DoesAll}
use Rattle.text_lines.specs.LineLoop.{none, silent, answer}
use Rattle.text_lines.proofs.Mapped.{Follows, mapped}
use Rattle.trace_answers.specs.declared.comparison.Comparing.{Comparing}
use Rattle.trace_answers.specs.Comments.{answer_agrees}
use Rattle.trace_answers.specs.Comparisons.{agreeing, ComparesAll, first_with, found_in, IsFirstDifference, LineAnswer}

-- the line of the first difference and its answer
abbrev pub first_in : Option Difference → Option LineAnswer
first_in first = option_map found_in first

abbrev pub comparing : {L : Type 0} → Meaning L → Meaning (Comparing L)
comparing does = λ old n line said new.
    does old.lines n line said new.lines × (new.number ≡ min (old.number + 1) (2 ^ 64 - 1))
    × (first_in new.first ≡ first_with (first_in old.first) new.number line said)

-- what some lines came to, by the first difference among them
abbrev pub Found : {S : Type 0} → Meaning S → S → List (List ℕ) → List (List ℕ) → S → Option LineAnswer → Type 0
Found does old lines answers new None = Does (agreeing does) old lines answers new
Found does old lines answers new (Some text) = Does does old lines answers new × IsFirstDifference does old lines text

-- lines that agree were interpreted
forgotten : {S : Type 0} (does : Meaning S) {old new : S} {lines answers : List (List ℕ)} → Does (agreeing does) old lines answers new
    → Does does old lines answers new
forgotten {S} does d = (mapped (λ (s : S). Unit {0}) (λ (s : S). s) (agreeing does) does (λ s n line said t h is. (tt, is.0)) tt d).1

-- the first difference among some lines is that among them and one more
still_first : {S : Type 0} (does : Meaning S) (old : S) (lines more : List (List ℕ)) (text : LineAnswer) → IsFirstDifference does old lines text
    → IsFirstDifference does old (lines ++ more) text
still_first does old lines more text d = record {
  before = d.before;
  line = d.line;
  after = d.after ++ more;
  among = ap (λ xs. xs ++ more) d.among ∙ append_assoc d.before (d.line ∷ d.after) more;
  answers = d.answers;
  now = d.now;
  agreed = d.agreed;
  answer = d.answer;
  next = d.next;
  done = d.done;
  differs = d.differs;
  told = d.told;
}

-- one line more without an answer
more_silent :
    {S : Type 0} (does : Meaning S) (old now new : S) (lines answers : List (List ℕ)) (line : List ℕ) (n : ℕ) (first : Option LineAnswer) → IsShortLine line
    → Found does old lines answers now first → does now (length answers) (without_return line) None new
    → Found does old (lines ++ line ∷ []) answers new (first_with first n (without_return line) None)
more_silent does old now new lines answers line n None short found is = silent found line short new (is, refl)
more_silent does old now new lines answers line n (Some text) short found is =
    (silent found.0 line short new is, still_first does old lines (line ∷ []) text found.1)

-- one line more with an answer, before which none differs
more_agreeing :
    {S : Type 0} (does : Meaning S) (old now new : S) (lines answers : List (List ℕ)) (line said : List ℕ) (n : ℕ) (agrees : Bool) → IsShortLine line
    → answer_agrees (without_return line) said ≡ agrees → n ≡ length lines + 1
    → Does (agreeing does) old lines answers now → does now (length answers) (without_return line) (Some said) new
    → Found does old (lines ++ line ∷ []) (answers ++ said ∷ []) new (if agrees then None else Some (n, said))
more_agreeing does old now new lines answers line said n true short e number found is = answer found line short new said (is, e)
more_agreeing does old now new lines answers line said n false short e number found is = (
  answer (forgotten does found) line short new said is,
  record {
    before = lines;
    line = line;
    after = [];
    among = refl;
    answers = answers;
    now = now;
    agreed = found;
    answer = said;
    next = new;
    done = is;
    differs = e;
    told = ap (λ k. (k, said)) number;
  },
)

-- one line more with an answer
more_answered :
    {S : Type 0} (does : Meaning S) (old now new : S) (lines answers : List (List ℕ)) (line said : List ℕ) (n : ℕ) (first : Option LineAnswer)
    → IsShortLine line
    → n ≡ length lines + 1
    → Found does old lines answers now first → does now (length answers) (without_return line) (Some said) new
    → Found does old (lines ++ line ∷ []) (answers ++ said ∷ []) new (first_with first n (without_return line) (Some said))
more_answered does old now new lines answers line said n None short number found is =
    more_agreeing does old now new lines answers line said n (answer_agrees (without_return line) said) short refl number found is
more_answered does old now new lines answers line said n (Some text) short number found is =
    (answer found.0 line short new said is, still_first does old lines (line ∷ []) text found.1)

fewer : (lines : List (List ℕ)) (line : List ℕ) → length (lines ++ line ∷ []) < 2 ^ 64 → length lines + 1 < 2 ^ 64
fewer lines line few = omega (arith, length-append lines (line ∷ []), few)

one_longer : (lines : List (List ℕ)) (line : List ℕ) (n : ℕ) → n ≡ length lines + 1 → n ≡ length (lines ++ line ∷ [])
one_longer lines line n e = omega (arith, e, length-append lines (line ∷ []))

next_number : (now new len : ℕ) → len + 1 < 2 ^ 64 → now ≡ len → new ≡ min (now + 1) (2 ^ 64 - 1) → new ≡ len + 1
next_number now new len few e is = omega (arith, few, e, is)

less_by_one : (n : ℕ) → n + 1 < 2 ^ 64 → n < 2 ^ 64
less_by_one n few = omega arith

-- lines that were compared: their number and the first difference among them
pub found :
    {L : Type 0} (does : Meaning L) {old new : Comparing L} {lines answers : List (List ℕ)} → Does (comparing does) old lines answers new → old.number ≡ 0
    → first_in old.first ≡ None → length lines < 2 ^ 64
    → (new.number ≡ length lines) × Found does old.lines lines answers new.lines (first_in new.first)
found does {old} none number first few = (number, rw first none)
found does {old} (silent {lines} {answers} {mid} done line short new is) number first few =
    let less = fewer lines line few in
    let m = found does done number first (less_by_one (length lines) less) in
    let n = next_number mid.number new.number (length lines) less m.0 is.1 in (
      one_longer lines line new.number n,
      rw is.2 (more_silent does old.lines mid.lines new.lines lines answers line new.number
          (first_in mid.first) short m.1 is.0),
    )
found does {old} (answer {lines} {answers} {mid} done line short new said is) number first few =
    let less = fewer lines line few in
    let m = found does done number first (less_by_one (length lines) less) in
    let n = next_number mid.number new.number (length lines) less m.0 is.1 in (
      one_longer lines line new.number n,
      rw is.2 (more_answered does old.lines mid.lines new.lines lines answers line said new.number
          (first_in mid.first) short n m.1 is.0),
    )

-- an input has no more lines than bytes
few_lines : (input : List ℕ) (lines : List (List ℕ)) → AreLines input lines → length lines ≤ length input
few_lines input [] h = omega arith
few_lines input (line ∷ lines) h =
    let more : length lines ≤ length h.1 = few_lines h.1 lines h.3 in
    elim h.2 [
      | inl e ↦ (let same = ap length e in let sum = length-append line (10 ∷ h.1) in omega (arith, same, sum, more))
      | inr e ↦ (let same = ap length e.1 in let last = ap length e.2 in omega (arith, same, last, more, e.0))
    ]

few_enough : (n m : ℕ) → n ≤ m → m ≤ 2 ^ 40 → n < 2 ^ 64
few_enough n m h k = omega arith

-- all of an input was compared
pub compared_all :
    {L : Type 0} (does : Meaning L) (old new : Comparing L) (before after held holds : Option (List ℕ)) → old.number ≡ 0 → first_in old.first ≡ None
    → DoesAll (comparing does) old new before after held holds
    → ComparesAll does old.lines new.lines before after held holds (first_in new.first)
compared_all {L} does old new before after held holds number first d =
    let all = found does d.done number first (few_enough _ _ (few_lines d.input d.lines d.are_lines) d.few) in
    packed (first_in new.first) all.1
  where
    packed : (found : Option LineAnswer) → Found does old.lines d.lines d.answers new.lines found
        → ComparesAll does old.lines new.lines before after held holds found
    packed None is = record {
      input = d.input;
      lines = d.lines;
      answers = d.answers;
      consumed = d.consumed;
      at_end = d.at_end;
      few = d.few;
      are_lines = d.are_lines;
      done = is;
      written = d.written;
    }
    packed (Some text) is = (
      record {
        input = d.input;
        lines = d.lines;
        answers = d.answers;
        consumed = d.consumed;
        at_end = d.at_end;
        few = d.few;
        are_lines = d.are_lines;
        done = is.0;
        written = d.written;
      },
      is.1,
    )

-- what is compared is interpreted
pub follows : {L : Type 0} (does : Meaning L) → Follows (λ (c : Comparing L). Unit {0}) (λ (c : Comparing L). c.lines) (comparing does) does
follows does = λ s n line said t h is. (tt, is.0)

-- the first difference in one state is that in another that it is mapped to
mapped_first :
    {S T : Type 0} (holds : S → Type 0) (f : S → T) (does : Meaning S) (other : Meaning T) → Follows holds f does other
    → (old : S) (lines : List (List ℕ)) (text : LineAnswer) → holds old
    → IsFirstDifference does old lines text → IsFirstDifference other (f old) lines text
mapped_first holds f does other follows old lines text h d =
    let m = mapped holds f (agreeing does) (agreeing other) (λ s n line said t h is. let u = follows s n line said t h is.0 in (u.0, (u.1, is.1))) h d.agreed in
    let u = follows _ _ _ _ _ m.0 d.done in
    record {
      before = d.before;
      line = d.line;
      after = d.after;
      among = d.among;
      answers = d.answers;
      now = f d.now;
      agreed = m.1;
      answer = d.answer;
      next = f d.next;
      done = u.1;
      differs = d.differs;
      told = d.told;
    }

-- what was compared in one state was in another that it is mapped to
pub mapped_compared :
    {S T : Type 0} (holds : S → Type 0) (f : S → T) (does : Meaning S) (other : Meaning T) → Follows holds f does other
    → (old new : S) (before after held holds_now : Option (List ℕ)) (first : Option LineAnswer) → holds old
    → ComparesAll does old new before after held holds_now first → ComparesAll other (f old) (f new) before after held holds_now first
mapped_compared holds f does other follows old new before after held holds_now None h all = record {
  input = all.input;
  lines = all.lines;
  answers = all.answers;
  consumed = all.consumed;
  at_end = all.at_end;
  few = all.few;
  are_lines = all.are_lines;
  done = (mapped holds f (agreeing does) (agreeing other) (λ s n line said t h is. let u = follows s n line said t h is.0 in (u.0, (u.1, is.1))) h
      all.done).1;
  written = all.written;
}
mapped_compared holds f does other follows old new before after held holds_now (Some text) h d =
    let all = d.0 in (
      record {
        input = all.input;
        lines = all.lines;
        answers = all.answers;
        consumed = all.consumed;
        at_end = all.at_end;
        few = all.few;
        are_lines = all.are_lines;
        done = (mapped holds f does other follows h all.done).1;
        written = all.written;
      },
      mapped_first holds f does other follows old all.lines text h d.1,
    )
