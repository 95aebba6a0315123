-- The effect and the output of a run over a trace.
use Rattle.std.specs.Prelude.{◌≡◌, ◌≢◌, ◌⊎◌, ℕ, ◌+◌, ◌^◌, ◌<◌, List, [], ◌∷◌, ◌++◌, length, Option}
use Rattle.std.specs.Prelude.{Some, None, Result, Ok, Err}
use Rattle.std.specs.List.{concat}
use Rattle.std.specs.Io.KnownBytes.{Consumes}
use Rattle.pmp_encoding.specs.declared.bank.Bank.{Bank}
use Rattle.platforms.specs.Platform.{PlatformLayout}
use Rattle.hart_trace.specs.declared.event.Event.{Event}
use Rattle.hart_trace.specs.Events.{meaning_of}
use Rattle.text_lines.specs.declared.fault.RunFault.{RunFault}
use Rattle.text_lines.specs.declared.fault.RunFault.TheVariants as faults
use Rattle.text_lines.specs.Lines.{AreLines, IsShortLine, without_return}
use Rattle.text_lines.specs.LineLoop.{Does, ended}
use Rattle.hart_sim.specs.declared.machine.Machine.{Machine}
use Rattle.hart_trace.specs.declared.reply.Reply.{Reply}
use Rattle.hart_trace.specs.declared.reply.Reply.TheVariants.{NoMemory}
use Rattle.hart_sim.specs.Machines.{state_of, bank_on}
use Rattle.hart_sim.specs.After.{After, AreElsewhere, Happens}
use Rattle.hart_sim.specs.Banks.{LoadsFewest}
use Rattle.hart_sim.specs.Steps.{Run}
use Rattle.hart_trace.specs.Texts.{reply_text, report_text}
use Rattle.enclave_table.specs.Views.{current_view}

-- the effect of a line, given the number of earlier replies: a line without words has none;
-- otherwise its event happens, on any hart of the platform, and the reply is written
abbrev pub DoesLine : Machine → ℕ → List ℕ → Option (List ℕ) → Machine → Type 0
DoesLine old count line None new = (meaning_of (state_of old).table.layout.harts line ≡ Some None)
    × (new ≡ old)
DoesLine old count line (Some text) new =
    (hart : ℕ) × (event : Event) × (reply : Reply)
    × (meaning_of (state_of old).table.layout.harts line ≡ Some (Some (hart, event)))
    × Happens old hart event reply new × (reply ≢ NoMemory) × (text ≡ reply_text (count + 1) reply)

-- a line that is not understood
abbrev pub RefusesLine : Machine → List ℕ → Type 0
RefusesLine machine line = meaning_of (state_of machine).table.layout.harts line ≡ None

-- a line whose event happens and for which an allocation fails
abbrev pub StarvesLine : Machine → List ℕ → Machine → Type 0
StarvesLine old line new = (hart : ℕ) × (event : Event)
    × (meaning_of (state_of old).table.layout.harts line ≡ Some (Some (hart, event)))
    × Happens old hart event NoMemory new

-- lines that contain events or no words, and their events with their harts, in order
pub data Spells (harts : ℕ) : List (List ℕ) → List (ℕ × Event) → Type 0 where
  none : Spells harts [] []
  blank : {lines : List (List ℕ)} {events : List (ℕ × Event)} → Spells harts lines events
      → (line : List ℕ) → IsShortLine line → meaning_of harts (without_return line) ≡ Some None
      → Spells harts (lines ++ line ∷ []) events
  one : {lines : List (List ℕ)} {events : List (ℕ × Event)} → Spells harts lines events
      → (line : List ℕ) → IsShortLine line → (hart : ℕ) (event : Event)
      → meaning_of harts (without_return line) ≡ Some (Some (hart, event))
      → Spells harts (lines ++ line ∷ []) (events ++ (hart, event) ∷ [])

-- no reply is out of memory
abbrev pub AreAnswered : List Reply → Type 0
AreAnswered [] = Unit {0}
AreAnswered (reply ∷ replies) = (reply ≢ NoMemory) × AreAnswered replies

-- a run is split at a hart's own last event. Right after it the bank of that hart meant the view of
-- its world by the fewest entries. None of the later events was on this hart, so the bank is still
-- the same, whether or not the hart was marked since
pub record LastOwn (old : Machine) (hart : ℕ) (events : List (ℕ × Event)) (replies : List Reply)
    (new : Machine) : Type 0 where
  pub before : List (ℕ × Event)
  pub event : Event
  pub after : List (ℕ × Event)
  pub answered : List Reply
  pub reply : Reply
  pub rest : List Reply
  pub mid : Machine
  pub events_part : events ≡ before ++ (hart, event) ∷ after
  pub replies_part : replies ≡ answered ++ reply ∷ rest
  pub until : Run (state_of old) (before ++ (hart, event) ∷ []) (answered ++ reply
      ∷ []) (state_of mid)
  pub since : Run (state_of mid) after rest (state_of new)
  pub elsewhere : AreElsewhere hart after
  pub meant : (bank : Bank) → bank_on mid hart ≡ Some bank
      → LoadsFewest bank (current_view (state_of mid).table ((state_of mid).worlds hart))
  pub stays : bank_on new hart ≡ bank_on mid hart

-- the events of the lines are a run from one state to the other, and the text contains the replies,
-- none of which is out of memory. A hart without an event has the same bank as before, and every
-- other hart the one that its own last event left. If the machine was one after boot and some
-- events, it is now one after these and the new events
pub record Report (old : Machine) (lines : List (List ℕ)) (text : List ℕ) (new : Machine) :
    Type 0 where
  pub events : List (ℕ × Event)
  pub replies : List Reply
  pub spelled : Spells (state_of old).table.layout.harts lines events
  pub run : Run (state_of old) events replies (state_of new)
  pub told : text ≡ report_text replies
  pub each : AreAnswered replies
  pub idle : (hart : ℕ) → AreElsewhere hart events → bank_on new hart ≡ bank_on old hart
  pub last : (hart : ℕ) → AreElsewhere hart events ⊎ LastOwn old hart events replies new
  pub after : (platform : PlatformLayout) (before : List (ℕ × Event)) (answered : List Reply)
      → After platform before answered old
      → After platform (before ++ events) (answered ++ replies) new

-- this is true whenever lines are interpreted in turn
abbrev pub IsReported : Type 0
IsReported = (old new : Machine) (lines answers : List (List ℕ))
    → Does DoesLine old lines answers new → Report old lines (concat answers) new

-- the bytes begin with these lines, each followed by LF, or consist of them
abbrev pub BeginsWith : List ℕ → List (List ℕ) → Type 0
BeginsWith bytes lines = ((rest : List ℕ) × (bytes ≡ ended lines ++ rest)) ⊎ AreLines bytes lines

-- the lines that were interpreted. A run without an error interprets all; if line n is not
-- understood, those before it; if the reader failed or the input was too long, each line of the
-- first 2^40 bytes that ended in LF; otherwise at least one, the last of which ended the run
abbrev pub AreDone : Result (Unit {0}) RunFault → List ℕ → List (List ℕ) → Type 0
AreDone (Ok done) bytes lines = AreLines bytes lines
AreDone (Err (faults.Line n)) bytes lines = (length lines + 1 ≡ n)
    × ((rest : List ℕ) × (bytes ≡ ended lines ++ rest))
AreDone (Err faults.Read) bytes lines = (rest : List ℕ) × (bytes ≡ ended lines ++ rest)
    × IsShortLine rest
AreDone (Err faults.TooLong) bytes lines = (rest beyond : List ℕ)
    × (bytes ≡ ended lines ++ (rest ++ beyond)) × IsShortLine rest
    × (length (ended lines ++ rest) ≡ 2 ^ 40)
AreDone (Err faults.Write) bytes lines = (0 < length lines) × BeginsWith bytes lines
AreDone (Err faults.Memory) bytes lines = (0 < length lines) × BeginsWith bytes lines

-- the interpreted lines contain events, and the machine is the one after the earlier events and
-- these
pub record GoesOn (platform : PlatformLayout) (events : List (ℕ × Event)) (replies : List Reply)
    (result : Result (Unit {0}) RunFault) (old new : Machine) (before after : Option (List ℕ)) :
    Type 0 where
  pub bytes : List ℕ
  pub consumed : Consumes before after bytes
  pub lines : List (List ℕ)
  pub done : AreDone result bytes lines
  pub more : List (ℕ × Event)
  pub spelled : Spells (state_of old).table.layout.harts lines more
  pub answered : List Reply
  pub went : After platform (events ++ more) (replies ++ answered) new
