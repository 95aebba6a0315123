-- The lines of an input.
use Rattle.std.specs.Prelude.{◌≡◌, ◌⊎◌, ℕ, ◌-◌, ◌<◌, ◌≤◌, ◌==◌, Bool, true, not, List, [], ◌∷◌}
use Rattle.std.specs.Prelude.{◌++◌, length, take, slice_index, if◌then◌else◌, Option, Result, Ok}
use Rattle.std.specs.Prelude.{Err}
use Rattle.std.specs.List.{before_first, list_all}
use Rattle.std.specs.Io.KnownBytes.{Consumes, IsAtEnd}
use Rattle.text_lines.specs.Streams.{GrowsByOne}
use Rattle.text_lines.specs.declared.fault.ReadFault.{ReadFault}
use Rattle.text_lines.specs.declared.fault.ReadFault.TheVariants.{LongLine, TooManyBytes, Device}

-- the bytes contain no LF
abbrev pub has_no_end : List ℕ → Bool
has_no_end bytes = list_all (λ b. not (b == 10)) bytes

-- a line that may precede an LF; its CR counts
abbrev pub IsShortLine : List ℕ → Type 0
IsShortLine line = (has_no_end line ≡ true) × (length line ≤ 1023)

-- a line with more bytes than that before any LF
abbrev pub BeginsLongLine : List ℕ → Type 0
BeginsLongLine bytes = (1024 ≤ length bytes) × (has_no_end (take 1024 bytes) ≡ true)

-- one CR at the end is dropped
abbrev pub without_return : List ℕ → List ℕ
without_return line = if slice_index line (length line - 1) == 13 then take (length line - 1) line
    else line

-- the bytes begin with a line of `len` bytes, the last of which is not a CR, and its LF
pub record BeginsLine (len : ℕ) (bytes : List ℕ) : Type 0 where
  pub short : IsShortLine (take len bytes)
  pub whole : without_return (take len bytes) ≡ take len bytes
  pub rest : List ℕ
  pub parts : bytes ≡ take len bytes ++ 10 ∷ rest

-- the line is followed by an LF and the rest, or it is the last, lacks its LF and is not empty
abbrev pub EndsLine : List ℕ → List ℕ → List ℕ → Type 0
EndsLine input line rest = (input ≡ line ++ 10 ∷ rest)
    ⊎ ((0 < length line) × (input ≡ line) × (rest ≡ []))

-- the lines of an input, one by one
abbrev pub AreLines : List ℕ → List (List ℕ) → Type 0
AreLines input [] = input ≡ []
AreLines input (line ∷ lines) = (has_no_end line ≡ true) × (rest : List ℕ)
    × EndsLine input line rest × AreLines rest lines

-- a byte is a line feed
abbrev pub is_lf : ℕ → Bool
is_lf b = b == 10

-- a byte before some lines becomes the first of their first line
abbrev pub begun : ℕ → List (List ℕ) → List (List ℕ)
begun b [] = (b ∷ []) ∷ []
begun b (line ∷ lines) = (b ∷ line) ∷ lines

-- the lines of an input, computed: the pieces that end with an LF, and a non-empty rest
abbrev pub raw_lines : List ℕ → List (List ℕ)
raw_lines [] = []
raw_lines (b ∷ bytes) = if is_lf b then [] ∷ raw_lines bytes else begun b (raw_lines bytes)

-- the computed lines are the lines of each input
abbrev pub AreItsLines : Type 0
AreItsLines = (input : List ℕ) → AreLines input (raw_lines input)

-- each input has only one list of lines
abbrev pub OneListOfLines : Type 0
OneListOfLines = (input : List ℕ) (lines others : List (List ℕ)) → AreLines input lines
    → AreLines input others → lines ≡ others

-- the result of one read where the source should be at its end: it is, it is not, or it failed
abbrev pub EndsInput : Result (Unit {0}) ReadFault → Option (List ℕ) → Option (List ℕ) → ℕ → ℕ
    → Type 0
EndsInput (Ok done) before after failures failed = Consumes before after [] × IsAtEnd after
    × (failed ≡ failures)
EndsInput (Err TooManyBytes) before after failures failed =
    ((beyond : List ℕ) × (length beyond ≡ 1) × Consumes before after beyond) × (failed ≡ failures)
EndsInput (Err Device) before after failures failed = Consumes before after []
    × GrowsByOne failures failed
EndsInput (Err (LongLine n)) before after failures failed = ⊥

-- a line without its LF: the bytes before the first LF
abbrev pub unended : List ℕ → List ℕ
unended line = before_first (λ b. b == 10) line
