-- How far the lines of an input have been interpreted.
use Rattle.std.proofs.Common.{◌≡◌, inl, inr, ℕ, ◌+◌, ◌<◌, ◌≤◌, ◌^◌, ◌⊎◌, ◌∙◌, true, false, List, [], ◌∷◌, ◌++◌, length, Option, None, Some}
use Rattle.std.proofs.Common.{Ok, refl, ap, sym, arith, length-append, append_assoc, append-nil}
use Rattle.std.specs.List.{concat}
use Rattle.std.specs.Io.KnownBytes.{Appends, Consumes, IsAtEnd, Keeps}
use Rattle.std.proofs.KnownBytes.{Appends-nil, Appends-trans, Consumes-nil, Consumes-trans}
use Rattle.std.proofs.lemmas.List.Folds.{concat-append}
use Rattle.text_lines.specs.declared.lines.LineReader.{LineReader}
use Rattle.text_lines.specs.Lines.{has_no_end, AreLines, IsShortLine, without_return}
use Rattle.text_lines.specs.LineReaders.{line_of, pending_of, number_of, came_of, most_of, ended_of, NextLine}
use Rattle.text_lines.specs.LineLoop.{Meaning, Does, counted, answer_bytes, ended, DoesAll}
use Rattle.text_lines.specs.LineLoop.{none, silent, answer}

-- the lines that were handed out are interpreted, and what came after them is held
pub record Progress {size : ℕ} {S : Type 0} (does : Meaning S) (old now : S) (reader : LineReader size) (count : ℕ)
    (before after held holds : Option (List ℕ)) : Type 0 where
  pub lines : List (List ℕ)
  pub answers : List (List ℕ)
  pub done : Does does old lines answers now
  pub count_is : count ≡ length answers
  pub number : number_of reader ≡ length lines
  pub consumed : Consumes before after (ended lines ++ pending_of reader)
  pub came : came_of reader ≡ length (ended lines ++ pending_of reader)
  pub written : Appends held holds (concat answers)

-- what stays of what was written
stays : (held holds keeps : Option (List ℕ)) (text : List ℕ) → Appends held holds text → Keeps holds keeps → Appends held keeps text
stays None holds keeps text w k = tt
stays (Some xs) None keeps text w k = absurd w
stays (Some xs) (Some ys) None text w k = absurd k
stays (Some xs) (Some ys) (Some zs) text w k = k ∙ w

-- the same where the sink handed on what it held
pub still : {size : ℕ} {S : Type 0} (does : Meaning S) (old now : S) (reader : LineReader size) (count : ℕ) (before after held holds keeps : Option (List ℕ))
    → Progress does old now reader count before after held holds → Keeps holds keeps → Progress does old now reader count before after held keeps
still does old now reader count before after held holds keeps p k =
    record {
      lines = p.lines;
      answers = p.answers;
      done = p.done;
      count_is = p.count_is;
      number = p.number;
      consumed = p.consumed;
      came = p.came;
      written =
          stays held holds keeps _ p.written k;
    }

-- no line has an LF in it
abbrev NoEnds : List (List ℕ) → Type 0
NoEnds [] = Unit {0}
NoEnds (line ∷ lines) = (has_no_end line ≡ true) × NoEnds lines

no_ends-snoc : (lines : List (List ℕ)) (line : List ℕ) → NoEnds lines → has_no_end line ≡ true → NoEnds (lines ++ line ∷ [])
no_ends-snoc [] line h e = (e, tt)
no_ends-snoc (first ∷ lines) line h e = (h.0, no_ends-snoc lines line h.1 e)

done_no_ends : {S : Type 0} {does : Meaning S} {old new : S} {lines answers : List (List ℕ)} → Does does old lines answers new → NoEnds lines
done_no_ends none = tt
done_no_ends (silent done line short new is) = no_ends-snoc _ line (done_no_ends done) short.0
done_no_ends (answer done line short new text is) = no_ends-snoc _ line (done_no_ends done) short.0

ended-snoc : (lines : List (List ℕ)) (line : List ℕ) → ended (lines ++ line ∷ []) ≡ ended lines ++ (line ++ 10 ∷ [])
ended-snoc [] line = refl
ended-snoc (first ∷ lines) line = ap (λ xs. first ++ 10 ∷ xs) (ended-snoc lines line) ∙ sym (append_assoc first (10 ∷ ended lines) (line ++ 10 ∷ []))

-- one line more, and what stands after its LF
ended-rest : (lines : List (List ℕ)) (line rest : List ℕ) → ended lines ++ (line ++ 10 ∷ rest) ≡ ended (lines ++ line ∷ []) ++ rest
ended-rest lines line rest =
    sym (ap (λ xs. xs ++ rest) (ended-snoc lines line) ∙ append_assoc (ended lines) (line ++ 10 ∷ []) rest
    ∙ ap (λ xs. ended lines ++ xs) (append_assoc line (10 ∷ []) rest))

-- lines with their LFs, and the lines of what stands after them
are_lines : (lines : List (List ℕ)) (rest : List ℕ) (tail : List (List ℕ)) → NoEnds lines → AreLines rest tail → AreLines (ended lines ++ rest) (lines ++ tail)
are_lines [] rest tail h a = a
are_lines (line ∷ lines) rest tail h a = (h.0, ended lines ++ rest, inl (append_assoc line (10 ∷ ended lines) rest), are_lines lines rest tail h.1 a)

-- the answers, and one more
concat-snoc : (answers : List (List ℕ)) (text : List ℕ) → concat (answers ++ text ∷ []) ≡ concat answers ++ text
concat-snoc answers text = concat-append answers (text ∷ []) ∙ ap (λ xs. concat answers ++ xs) (append-nil text)

pub gathered : (before now middle after : Option (List ℕ)) (e p bytes beyond : List ℕ) → Consumes before now (e ++ p) → Consumes now middle bytes
    → Consumes middle after beyond → Consumes before after ((e ++ (p ++ bytes)) ++ beyond)
gathered before now middle after e p bytes beyond a b c =
    let ab : Consumes before middle (e ++ (p ++ bytes)) = rw (← append_assoc e p bytes) (Consumes-trans before now middle (e ++ p) bytes a b) in
    Consumes-trans before middle after (e ++ (p ++ bytes)) beyond ab c

-- the same where no byte came beyond the limit
pub gathered_all : (before now middle after : Option (List ℕ)) (e p bytes beyond : List ℕ) → Consumes before now (e ++ p) → Consumes now middle bytes
    → Consumes middle after beyond → beyond ≡ [] → Consumes before after (e ++ (p ++ bytes))
gathered_all before now middle after e p bytes beyond a b c nothing_more =
    let all : Consumes before after ((e ++ (p ++ bytes)) ++ []) = rw (← nothing_more) (gathered before now middle after e p bytes beyond a b c) in
    rw (← append-nil (e ++ (p ++ bytes))) all

pub came_all : (n m : ℕ) (e p bytes : List ℕ) → n ≡ length (e ++ p) → m ≡ n + length bytes → m ≡ length (e ++ (p ++ bytes))
came_all n m e p bytes h k = omega (arith, h, k, length-append (e ++ p) bytes, length-append e p, length-append e (p ++ bytes), length-append p bytes)

pub consumed_as : (before after : Option (List ℕ)) (xs ys : List ℕ) → xs ≡ ys → Consumes before after xs → Consumes before after ys
consumed_as before after xs ys e c = rw (← e) c

appended_as : (held holds : Option (List ℕ)) (xs ys : List ℕ) → xs ≡ ys → Appends held holds xs → Appends held holds ys
appended_as held holds xs ys e c = rw (← e) c

pub few_as : (n : ℕ) (xs : List ℕ) → n ≡ length xs → n ≤ 2 ^ 40 → length xs ≤ 2 ^ 40
few_as n xs e h = omega (arith, e, h)

-- no more came than may
pub few_by : {size : ℕ} (reader next : LineReader size) → came_of next ≤ most_of next → most_of next ≡ most_of reader → most_of reader ≡ 2 ^ 40
    → came_of next ≤ 2 ^ 40
few_by reader next few same limit = omega (arith, few, same, limit)

-- a line was handed out after those that are interpreted
pub record Handed {size : ℕ} {S : Type 0} (does : Meaning S) (old now : S) (reader : LineReader size) (count : ℕ)
    (before after held holds : Option (List ℕ)) : Type 0 where
  pub lines : List (List ℕ)
  pub answers : List (List ℕ)
  pub done : Does does old lines answers now
  pub count_is : count ≡ length answers
  pub written : Appends held holds (concat answers)
  pub line : List ℕ
  pub short : IsShortLine line
  pub is_text : line_of reader ≡ without_return line
  pub number : number_of reader ≡ length lines + 1
  pub bytes : List ℕ
  pub consumed : Consumes before after (ended lines ++ bytes)
  pub came : came_of reader ≡ length (ended lines ++ bytes)
  pub few : came_of reader ≤ 2 ^ 40
  pub ends : ((bytes ≡ line ++ 10 ∷ pending_of reader) × (ended_of reader ≡ false))
      ⊎ ((0 < length line) × (bytes ≡ line) × (pending_of reader ≡ []) × IsAtEnd after × (ended_of reader ≡ true))

pub hands : {size : ℕ} {S : Type 0} (does : Meaning S) (old now : S) (reader next : LineReader size) (count : ℕ)
    (before middle after held holds : Option (List ℕ)) → Progress does old now reader count before middle held holds
    → NextLine (Ok true) reader next middle after → came_of next ≤ 2 ^ 40 → Handed does old now next count before after held holds
hands does old now reader next count before middle after held holds p n few = record {
  lines = p.lines;
  answers = p.answers;
  done = p.done;
  count_is = p.count_is;
  written = p.written;
  line = n.6.0;
  short = n.6.1.short;
  is_text = n.6.1.text;
  number = n.6.1.number ∙ ap (λ k. k + 1) p.number;
  bytes = pending_of reader ++ n.0;
  consumed = gathered_all before middle n.2 after (ended p.lines) (pending_of reader) n.0 n.1 p.consumed n.3.consumed n.4 n.5;
  came = came_all _ _ (ended p.lines) (pending_of reader) n.0 p.came n.3.counted;
  few = few;
  ends = n.6.1.ends;
}

-- one line more is interpreted
pub record Grown {S : Type 0} (does : Meaning S) (old new : S) (lines answers : List (List ℕ)) (line : List ℕ) (said : Option (List ℕ)) : Type 0 where
  pub all : List (List ℕ)
  pub done : Does does old (lines ++ line ∷ []) all new
  pub count : length all ≡ counted (length answers) said
  pub text : concat all ≡ concat answers ++ answer_bytes said

grown : {S : Type 0} (does : Meaning S) (old now new : S) (lines answers : List (List ℕ)) (line : List ℕ) (said : Option (List ℕ))
    → Does does old lines answers now → IsShortLine line → does now (length answers) (without_return line) said new → Grown does old new lines answers line said
grown does old now new lines answers line None done short is = record {
  all = answers;
  done = silent done line short new is;
  count = refl;
  text = sym
      (append-nil (concat answers));
}
grown does old now new lines answers line (Some text) done short is = record
    { all = answers ++ text ∷ []; done = answer done line short new text is; count = length-append answers (text ∷ []); text = concat-snoc answers text }

-- the line that was handed out, interpreted
handed_grown : {size : ℕ} {S : Type 0} (does : Meaning S) (old now new : S) (reader : LineReader size) (count : ℕ) (before after held holds : Option (List ℕ))
    (h : Handed does old now reader count before after held holds) (said : Option (List ℕ)) → does now count (line_of reader) said new
    → Grown does old new h.lines h.answers h.line said
handed_grown does old now new reader count before after held holds h said is = grown does old now new h.lines h.answers h.line said h.done h.short
    (rw (h.count_is, h.is_text) at is)

-- what came, with the LF of the line that was handed out
parted : {size : ℕ} {S : Type 0} (does : Meaning S) (old now : S) (reader : LineReader size) (count : ℕ) (before after held holds : Option (List ℕ))
    (h : Handed does old now reader count before after held holds) → h.bytes ≡ h.line ++ 10 ∷ pending_of reader
    → ended h.lines ++ h.bytes ≡ ended (h.lines ++ h.line ∷ []) ++ pending_of reader
parted does old now reader count before after held holds h e = ap (λ xs. ended h.lines ++ xs) e ∙ ended-rest h.lines h.line (pending_of reader)

-- a line that its LF ended is interpreted and answered, and the next may come
pub goes_on : {size : ℕ} {S : Type 0} (does : Meaning S) (old now new : S) (reader : LineReader size) (count : ℕ)
    (before after held middle holds : Option (List ℕ)) (h : Handed does old now reader count before after held middle) (said : Option (List ℕ))
    → does now count (line_of reader) said new → Appends middle holds (answer_bytes said) → ended_of reader ≡ false
    → Progress does old new reader (counted count said) before after held holds
goes_on does old now new reader count before after held middle holds h said is w unclosed =
    let g = handed_grown does old now new reader count before after held middle h said is in
    elim h.ends [
      | inl p ↦ record {
        lines = h.lines ++ h.line ∷ [];
        answers = g.all;
        done = g.done;
        count_is = ap (λ k. counted k said) h.count_is ∙ sym g.count;
        number = h.number ∙ sym (length-append h.lines (h.line ∷ []));
        consumed = consumed_as before after _ _ (parted does old now reader count before after held middle h p.0) h.consumed;
        came = h.came ∙ ap length (parted does old now reader count before after held middle h p.0);
        written = appended_as held holds _ _ (sym g.text) (Appends-trans held middle holds (concat h.answers) (answer_bytes said) h.written w);
      }
      | inr p ↦ let f : true ≡ false = sym p.4 ∙ unclosed in cc
    ]

-- the last line is interpreted and answered
pub ends : {size : ℕ} {S : Type 0} (does : Meaning S) (old now new : S) (reader : LineReader size) (count : ℕ)
    (before after held middle holds : Option (List ℕ)) (h : Handed does old now reader count before after held middle) (said : Option (List ℕ))
    → does now count (line_of reader) said new → Appends middle holds (answer_bytes said) → ended_of reader ≡ true
    → DoesAll does old new before after held holds
ends does old now new reader count before after held middle holds h said is w closed =
    let g = handed_grown does old now new reader count before after held middle h said is in
    elim h.ends [
      | inl p ↦ let f : true ≡ false = sym closed ∙ p.1 in cc
      | inr p ↦ record {
        input = ended h.lines ++ h.line;
        lines = h.lines ++ h.line ∷ [];
        answers = g.all;
        consumed = consumed_as before after _ _ (ap (λ xs. ended h.lines ++ xs) p.1) h.consumed;
        at_end = p.3;
        few = few_as _ _ (h.came ∙ ap (λ xs. length (ended h.lines ++ xs)) p.1) h.few;
        are_lines = are_lines h.lines h.line (h.line ∷ []) (done_no_ends h.done) (h.short.0, [], inr (p.0, refl, refl), refl);
        done = g.done;
        written = appended_as held holds _ _ (sym g.text) (Appends-trans held middle holds (concat h.answers) (answer_bytes said) h.written w);
      }
    ]

-- no line is left
pub finishes : {size : ℕ} {S : Type 0} (does : Meaning S) (old now : S) (reader next : LineReader size) (count : ℕ)
    (before middle after held holds : Option (List ℕ)) → Progress does old now reader count before middle held holds
    → NextLine (Ok false) reader next middle after → came_of next ≤ 2 ^ 40 → DoesAll does old now before after held holds
finishes does old now reader next count before middle after held holds p n few =
    let all = gathered_all before middle n.2 after (ended p.lines) (pending_of reader) n.0 n.1 p.consumed n.3.consumed n.4 n.5 in
    let same = ap (λ xs. ended p.lines ++ xs) n.6.0 in
    record {
      input = ended p.lines ++ [];
      lines = p.lines;
      answers = p.answers;
      consumed = consumed_as before after _ _ same all;
      at_end = n.6.1;
      few = few_as _ _ (came_all _ _ (ended p.lines) (pending_of reader) n.0 p.came n.3.counted ∙ ap length same) few;
      are_lines = rw (append-nil p.lines) at (are_lines p.lines [] [] (done_no_ends p.done) refl);
      done = p.done;
      written = p.written;
    }

-- nothing has come and nothing was written
pub begins : {size : ℕ} {S : Type 0} (does : Meaning S) (old : S) (reader : LineReader size) (before held : Option (List ℕ)) → pending_of reader ≡ []
    → number_of reader ≡ 0 → came_of reader ≡ 0 → Progress does old old reader 0 before before held held
begins does old reader before held pending number came = record {
  lines = [];
  answers = [];
  done = none;
  count_is = refl;
  number = number;
  consumed = rw pending (Consumes-nil before);
  came = came ∙ sym (ap length pending);
  written = Appends-nil held;
}

-- there are no more answers than lines
pub few_more : (n count number next : ℕ) (said : Option (List ℕ)) → n ≡ counted count said → count ≤ number → next ≡ number + 1 → n ≤ next
few_more n count number next None is few e = omega arith
few_more n count number next (Some text) is few e = omega arith
