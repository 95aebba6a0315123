-- The interpretation of an input line by line.
use Rattle.std.specs.Prelude.{◌≡◌, ◌⊎◌, ℕ, ◌+◌, ◌^◌, ◌<◌, ◌≤◌, Bool, if◌then◌else◌, List, [], ◌∷◌}
use Rattle.std.specs.Prelude.{◌++◌, length, take, Option, Some, None, Result, Ok, Err, true, false}
use Rattle.std.specs.Prelude.{decimal}
use Rattle.std.specs.List.{concat}
use Rattle.std.specs.Io.KnownBytes.{Appends, Consumes, IsAtEnd}
use Rattle.text_lines.specs.Streams.{GrowsByOne, WriteFails}
use Rattle.text_lines.specs.declared.fault.ReadFault.{ReadFault}
use Rattle.text_lines.specs.declared.fault.RunFault.{RunFault}
use Rattle.text_lines.specs.declared.fault.RunFault.TheVariants as faults
use Rattle.text_lines.specs.declared.line_loop.LineRefusal.{LineRefusal}
use Rattle.text_lines.specs.declared.line_loop.LineRefusal.TheVariants as refusals
use Rattle.text_lines.specs.Lines.{AreLines, BeginsLongLine, IsShortLine, without_return}

-- the effect of a line after a number of answers: from one state to the next, with the text of its
-- answer if it has one
abbrev pub Meaning : Type 0 → Type 1
Meaning S = S → ℕ → List ℕ → Option (List ℕ) → S → Type 0

-- lines interpreted in turn, from one state to another, and the answers of those that have one
pub data Does {S : Type 0} (does : Meaning S) (old : S) : List (List ℕ) → List (List ℕ) → S
    → Type 0 where
  none : Does does old [] [] old
  silent : {lines answers : List (List ℕ)} {mid : S} → Does does old lines answers mid
      → (line : List ℕ) → IsShortLine line → (new : S)
      → does mid (length answers) (without_return line) None new
      → Does does old (lines ++ line ∷ []) answers new
  answer : {lines answers : List (List ℕ)} {mid : S} → Does does old lines answers mid
      → (line : List ℕ) → IsShortLine line → (new : S) → (text : List ℕ)
      → does mid (length answers) (without_return line) (Some text) new
      → Does does old (lines ++ line ∷ []) (answers ++ text ∷ []) new

-- the text of the answer after n others, if there is one: its number, and the part after it
abbrev pub text_of : Bool → ℕ → List ℕ → Option (List ℕ)
text_of answered n behind = if answered then Some (decimal (n + 1) ++ behind) else None

-- the result of a line: its answer, given by the part after its number, or the reason why it has
-- none
abbrev pub IsLineResult : {S : Type 0} → Meaning S → (S → List ℕ → Type 0)
    → (S → List ℕ → S → Type 0) → S → ℕ → List ℕ → Result Bool LineRefusal → List ℕ → S → Type 0
IsLineResult does refuses starves old n line (Ok answered) behind new =
    does old n line (text_of answered n behind) new
IsLineResult does refuses starves old n line (Err refusals.NotUnderstood) behind new =
    refuses old line × (new ≡ old)
IsLineResult does refuses starves old n line (Err refusals.Memory) behind new = starves old line new

-- the outcome of reading the line
abbrev pub was_line : Result (Option (Result Bool LineRefusal)) ReadFault → Result Bool ReadFault
was_line (Ok None) = Ok false
was_line (Ok (Some said)) = Ok true
was_line (Err fault) = Err fault

-- no line was interpreted
abbrev pub IsNoLine : Result (Option (Result Bool LineRefusal)) ReadFault → Type 0
IsNoLine (Ok (Some said)) = ⊥
IsNoLine _ = Unit {0}

-- the number of answers, including this one
abbrev pub counted : ℕ → Option (List ℕ) → ℕ
counted n None = n
counted n (Some text) = n + 1

-- the bytes written for this answer
abbrev pub answer_bytes : Option (List ℕ) → List ℕ
answer_bytes None = []
answer_bytes (Some text) = text

-- lines, each followed by its LF
abbrev pub ended : List (List ℕ) → List ℕ
ended [] = []
ended (line ∷ lines) = line ++ 10 ∷ ended lines

-- the line is at the front of the bytes read: before an LF, or at the end of the input
abbrev pub IsFront : List ℕ → Option (List ℕ) → List ℕ → Type 0
IsFront bytes after line = ((rest : List ℕ) × (bytes ≡ line ++ 10 ∷ rest))
    ⊎ ((0 < length line) × (bytes ≡ line) × IsAtEnd after)

-- the whole input was read, and each of its lines interpreted and answered
pub record DoesAll {S : Type 0} (does : Meaning S) (old new : S)
    (before after held holds : Option (List ℕ)) : Type 0 where
  pub input : List ℕ
  pub lines : List (List ℕ)
  pub answers : List (List ℕ)
  pub consumed : Consumes before after input
  pub at_end : IsAtEnd after
  pub few : length input ≤ 2 ^ 40
  pub are_lines : AreLines input lines
  pub done : Does does old lines answers new
  pub written : Appends held holds (concat answers)

-- lines that end with an LF were interpreted and answered, and `bytes` follow them
pub record DoesLines {S : Type 0} (does : Meaning S) (old new : S)
    (before after held holds : Option (List ℕ)) (lines : List (List ℕ)) (bytes : List ℕ) :
    Type 0 where
  pub answers : List (List ℕ)
  pub done : Does does old lines answers new
  pub consumed : Consumes before after (ended lines ++ bytes)
  pub written : Appends held holds (concat answers)

-- the lines before line n were interpreted, and line n is too long or is refused
pub record StopsAt {S : Type 0} (n : ℕ) (does : Meaning S) (refuses : S → List ℕ
    → Type 0) (old new : S) (before after held holds : Option (List ℕ)) : Type 0 where
  pub lines : List (List ℕ)
  pub bytes : List ℕ
  pub before_it : DoesLines does old new before after held holds lines bytes
  pub few : length (ended lines ++ bytes) ≤ 2 ^ 40
  pub number : length lines + 1 ≡ n
  pub refused : BeginsLongLine bytes
      ⊎ ((line : List ℕ) × IsShortLine line × IsFront bytes after line
      × refuses new (without_return line))

-- there was a byte after the first 2^40, and the lines among these that end with an LF were
-- interpreted
pub record StopsTooLong {S : Type 0} (does : Meaning S) (old new : S)
    (before after held holds : Option (List ℕ)) : Type 0 where
  pub lines : List (List ℕ)
  pub bytes : List ℕ
  pub beyond : List ℕ
  pub before_it : DoesLines does old new before after held holds lines (bytes ++ beyond)
  pub unended : IsShortLine bytes
  pub limit : length (ended lines ++ bytes) ≡ 2 ^ 40
  pub more : length beyond ≡ 1

-- only the lines that end with an LF were interpreted
pub record StopsReading {S : Type 0} (does : Meaning S) (old new : S)
    (before after held holds : Option (List ℕ)) : Type 0 where
  pub lines : List (List ℕ)
  pub bytes : List ℕ
  pub before_it : DoesLines does old new before after held holds lines bytes
  pub few : length (ended lines ++ bytes) ≤ 2 ^ 40
  pub unended : IsShortLine bytes

-- a line was read after lines that were interpreted and have these answers
pub record ComesTo {S : Type 0} (does : Meaning S) (old now : S) (before after : Option (List ℕ))
    (answers : List (List ℕ)) (line : List ℕ) : Type 0 where
  pub lines : List (List ℕ)
  pub bytes : List ℕ
  pub done : Does does old lines answers now
  pub consumed : Consumes before after (ended lines ++ bytes)
  pub few : length (ended lines ++ bytes) ≤ 2 ^ 40
  pub short : IsShortLine line
  pub stands : IsFront bytes after line

-- a line was interpreted, and a proper prefix of its answer was written
pub record StopsWriting {S : Type 0} (does : Meaning S) (old new : S)
    (before after held holds : Option (List ℕ)) : Type 0 where
  pub now : S
  pub answers : List (List ℕ)
  pub line : List ℕ
  pub comes : ComesTo does old now before after answers line
  pub text : List ℕ
  pub done : does now (length answers) (without_return line) (Some text) new
  pub part : ℕ
  pub less : part < length text
  pub written : Appends held holds (concat answers ++ take part text)

-- a line was interpreted for which an allocation failed, and it has no answer
pub record StopsForMemory {S : Type 0} (does : Meaning S) (starves : S → List ℕ → S
    → Type 0) (old new : S) (before after held holds : Option (List ℕ)) : Type 0 where
  pub now : S
  pub answers : List (List ℕ)
  pub line : List ℕ
  pub comes : ComesTo does old now before after answers line
  pub starved : starves now (without_return line) new
  pub written : Appends held holds (concat answers)

-- one read failed if the run ended for that reason, and none otherwise
abbrev pub CountsReads : Result (Unit {0}) RunFault → ℕ → ℕ → Type 0
CountsReads (Err faults.Read) before after = GrowsByOne before after
CountsReads _ before after = after ≡ before

-- one write failed or was stalled if the run ended for that reason, and none otherwise
abbrev pub CountsWrites : Result (Unit {0}) RunFault → ℕ → ℕ → ℕ → ℕ → Type 0
CountsWrites (Err faults.Write) failures failed stalls stalled =
    WriteFails failures failed stalls stalled
CountsWrites _ failures failed stalls stalled = (failed ≡ failures) × (stalled ≡ stalls)
