-- The state of a line reader, and its results.
use Rattle.std.specs.Prelude.{◌≡◌, ◌⊎◌, ℕ, ◌+◌, ◌<◌, Bool, true, false, List, [], ◌∷◌, ◌++◌, length}
use Rattle.std.specs.Prelude.{take, drop, nat_lt, Option, Result, Ok, Err}
use Rattle.std.specs.Io.KnownBytes.{Consumes, IsAtEnd}
use Rattle.text_lines.specs.Streams.{GrowsByOne}
use Rattle.text_lines.specs.declared.fault.ReadFault.{ReadFault}
use Rattle.text_lines.specs.declared.fault.ReadFault.TheVariants.{LongLine, TooManyBytes, Device}
use Rattle.text_lines.specs.declared.lines.LineReader.{LineReader}
use Rattle.text_lines.specs.Lines.{has_no_end, IsShortLine, BeginsLongLine, without_return}

-- the last line read, without its end
abbrev pub line_of : {size : ℕ} → LineReader size → List ℕ
line_of reader = take reader.text_len reader.buffer

-- the bytes read after that line
abbrev pub pending_of : {size : ℕ} → LineReader size → List ℕ
pending_of reader = drop reader.taken reader.buffer

-- the number of lines read
abbrev pub number_of : {size : ℕ} → LineReader size → ℕ
number_of reader = reader.number

-- the number of bytes that a reader has read
abbrev pub came_of : {size : ℕ} → LineReader size → ℕ
came_of reader = reader.came

-- the maximal number of bytes that a reader reads
abbrev pub most_of : {size : ℕ} → LineReader size → ℕ
most_of reader = reader.limit

-- that line was the last and lacks its LF
abbrev pub ended_of : {size : ℕ} → LineReader size → Bool
ended_of reader = reader.ended

-- these bytes were read from the source and counted; none were if a whole line was in the buffer
pub record Came {size : ℕ} (old new : LineReader size) (before after : Option (List ℕ))
    (bytes : List ℕ) : Type 0 where
  pub consumed : Consumes before after bytes
  pub counted : came_of new ≡ came_of old + length bytes
  pub needed : (bytes ≡ []) ⊎ (has_no_end (pending_of old) ≡ true)

-- a line was returned from the front of the available bytes
pub record Hands {size : ℕ} (old new : LineReader size) (bytes : List ℕ) (after : Option (List ℕ))
    (line : List ℕ) : Type 0 where
  pub short : IsShortLine line
  pub text : line_of new ≡ without_return line
  pub number : number_of new ≡ number_of old + 1
  pub ends : ((bytes ≡ line ++ 10 ∷ pending_of new) × (ended_of new ≡ false))
      ⊎ ((0 < length line) × (bytes ≡ line) × (pending_of new ≡ []) × IsAtEnd after
      × (ended_of new ≡ true))

-- the bytes stay in the buffer, and no line was returned
pub record Holds {size : ℕ} (old new : LineReader size) (bytes : List ℕ) : Type 0 where
  pub pending : pending_of new ≡ bytes
  pub number : number_of new ≡ number_of old

-- the result of a reader, by the bytes finally available
abbrev pub Answers : {size : ℕ} → Result Bool ReadFault → LineReader size → LineReader size → List ℕ
    → Option (List ℕ) → Type 0
Answers (Ok true) old new bytes after = (line : List ℕ) × Hands old new bytes after line
Answers (Ok false) old new bytes after = (bytes ≡ []) × IsAtEnd after × Holds old new bytes
Answers (Err (LongLine n)) old new bytes after = (n ≡ number_of old + 1) × BeginsLongLine bytes
    × Holds old new bytes
Answers (Err TooManyBytes) old new bytes after = (came_of new ≡ most_of old) × IsShortLine bytes
    × Holds old new bytes
Answers (Err Device) old new bytes after = IsShortLine bytes × Holds old new bytes

-- one byte past the limit was read too if that is the result
abbrev pub BeyondLimit : Result Bool ReadFault → List ℕ → Type 0
BeyondLimit (Err TooManyBytes) beyond = length beyond ≡ 1
BeyondLimit _ beyond = beyond ≡ []

-- one read of the source failed in this call if that is the result, and none otherwise
abbrev pub FailsOnRead : Result Bool ReadFault → ℕ → ℕ → Type 0
FailsOnRead (Err Device) before after = GrowsByOne before after
FailsOnRead _ before after = after ≡ before

-- the effect of a call
abbrev pub NextLine : {size : ℕ} → Result Bool ReadFault → LineReader size → LineReader size
    → Option (List ℕ) → Option (List ℕ) → Type 0
NextLine result old new before after = (bytes beyond : List ℕ) × (middle : Option (List ℕ))
    × Came old new before middle bytes × Consumes middle after beyond × BeyondLimit result beyond
    × Answers result old new (pending_of old ++ bytes) after

-- the effect of one read: new bytes follow the others, and there are none only at the end
abbrev pub ReadsMore : {size : ℕ} → Result Bool ReadFault → LineReader size → LineReader size
    → Option (List ℕ) → Option (List ℕ) → List ℕ → Type 0
ReadsMore (Ok more) old new before after bytes = Consumes before after bytes
    × (new.buffer ≡ old.buffer ++ bytes) × (new.came ≡ old.came + length bytes)
    × (more ≡ nat_lt 0 (length bytes)) × (more ≡ false → IsAtEnd after)
ReadsMore (Err TooManyBytes) old new before after bytes = Consumes before after bytes
    × (length bytes ≡ 1) × (new.buffer ≡ old.buffer) × (old.came ≡ old.limit)
    × (new.came ≡ old.came)
ReadsMore (Err Device) old new before after bytes = Consumes before after bytes × (bytes ≡ [])
    × (new.buffer ≡ old.buffer) × (new.came ≡ old.came)
ReadsMore (Err (LongLine n)) old new before after bytes = ⊥
