-- The faults of invalid trace lines, with their positions: the first unexpected word.
use Rattle.std.specs.Prelude.{ℕ, ◌==◌, Bool, true, false, List, [], ◌∷◌, drop}
use Rattle.std.specs.Prelude.{Option, Some, None, if◌then◌else◌, is_some, replicate}
use Rattle.std.specs.List.{list_all, prefix_len}
use Rattle.pmp_match.specs.declared.access.Access.{Access}
use Rattle.pmp_match.specs.declared.access.Kind.{Kind}
use Rattle.pmp_match.specs.declared.access.Kind.TheVariants as accesses
use Rattle.pmp_match.specs.Kinds.{has_size}
use Rattle.text_lines.specs.Bytes.{has_mark}
use Rattle.text_lines.specs.Columns.{PlacedWord, end_of, placed_words}
use Rattle.text_lines.specs.Numbers.{number_of}
use Rattle.text_lines.specs.Words.{content_of, is_allowed}
use Rattle.hart_trace.specs.declared.event.Event.{Event}
use Rattle.hart_trace.specs.declared.event.Event.TheVariants as events
use Rattle.hart_trace.specs.declared.fault.EventKind.{EventKind}
use Rattle.hart_trace.specs.declared.fault.EventKind.TheVariants as kinds
use Rattle.hart_trace.specs.declared.fault.LineFault.{LineFault}
use Rattle.hart_trace.specs.declared.fault.Slot.{Slot}
use Rattle.hart_trace.specs.declared.fault.Slot.TheVariants.{Mode, Size, Address, Value, Register}
use Rattle.hart_trace.specs.declared.fault.Slot.TheVariants.{Argument}
use Rattle.hart_trace.specs.declared.fault.Reason.{Reason}
use Rattle.hart_trace.specs.declared.fault.Reason.TheVariants.{ByteOrderMark, NoText}
use Rattle.hart_trace.specs.declared.fault.Reason.TheVariants.{NoHart, NoEvent, UnknownEvent}
use Rattle.hart_trace.specs.declared.fault.Reason.TheVariants.{Misfit, Missing, Extra, HartOfRun}
use Rattle.hart_trace.specs.declared.fault.Reason.TheVariants.{EventOfRun}
use Rattle.hart_trace.specs.Events.{Word, ◌>>=◌, hart_of, kind_of, meaning_of, mode_of, register_of}

-- a fault: the number of bytes of the line before the word at fault, the word, and the reason
abbrev pub Fault : Type 0
Fault = ℕ × Word × Reason

-- the fault in a value of the program
abbrev pub told : LineFault → Fault
told fault = (fault.before, fault.word.now, fault.reason)

-- the slots of the words after the keyword of an event
abbrev pub slots_of : EventKind → List Slot
slots_of kinds.Fetch = Mode ∷ Size accesses.Fetch ∷ Address ∷ []
slots_of kinds.Load = Mode ∷ Size accesses.Load ∷ Address ∷ []
slots_of kinds.Store = Mode ∷ Size accesses.Store ∷ Address ∷ Value ∷ []
slots_of kinds.Reg = Register ∷ Value ∷ []
slots_of kinds.Ecall = replicate 8 Argument
slots_of kinds.Irq = []

-- the event may have fewer words: only a call
abbrev pub may_end : EventKind → Bool
may_end kinds.Ecall = true
may_end _ = false

-- the size in a word, if accesses of this kind have it
abbrev pub size_of : Kind → Word → Option ℕ
size_of kind word = number_of word >>= (λ size. if has_size kind size then Some size else None)

-- the word fits the slot
abbrev pub fits : Slot → Word → Bool
fits Mode word = is_some (mode_of word)
fits (Size kind) word = is_some (size_of kind word)
fits Address word = is_some (number_of word)
fits Value word = is_some (number_of word)
fits Register word = is_some (register_of word)
fits Argument word = is_some (number_of word)

-- the fault of the words of an event with these slots, after a word that ends at `end`: the first
-- word that does not fit, is missing, or is too many
abbrev pub slots_fault : EventKind → List Slot → List PlacedWord → ℕ → Option Fault
slots_fault kind [] [] end = None
slots_fault kind [] (placed ∷ words) end = Some (placed.0, placed.1, Extra kind)
slots_fault kind (slot ∷ slots) [] end =
    if may_end kind then None else Some (end, [], Missing kind slot)
slots_fault kind (slot ∷ slots) (placed ∷ words) end =
    if fits slot placed.1 then slots_fault kind slots words (end_of placed)
    else Some (placed.0, placed.1, Misfit slot)

-- the fault of an event with this keyword, if any
abbrev pub kind_fault : Option EventKind → PlacedWord → List PlacedWord → Option Fault
kind_fault None keyword words = Some (keyword.0, keyword.1, UnknownEvent)
kind_fault (Some kind) keyword words = slots_fault kind (slots_of kind) words (end_of keyword)

-- the fault of the words of an event
abbrev pub event_fault : PlacedWord → List PlacedWord → Option Fault
event_fault keyword words = kind_fault (kind_of keyword.1) keyword words

-- the fault of the words after a hart's name that ends at `end`: at least one word must follow
abbrev pub named_fault : ℕ → List PlacedWord → Option Fault
named_fault end [] = Some (end, [], NoEvent)
named_fault end (keyword ∷ words) = event_fault keyword words

-- a word begins with `@`
abbrev pub begins_with_at : Word → Bool
begins_with_at [] = false
begins_with_at (first ∷ rest) = first == 64

-- the fault of the words of a line
abbrev pub words_fault : ℕ → List PlacedWord → Option Fault
words_fault harts [] = None
words_fault harts (first ∷ words) =
    if is_some (hart_of harts first.1) then named_fault (end_of first) words
    else if begins_with_at first.1 then Some (first.0, first.1, NoHart)
    else event_fault first words

-- the fault of a line that has a byte outside its comment that is not allowed
abbrev pub bytes_fault : List ℕ → Fault
bytes_fault line = if has_mark line then (0, [], ByteOrderMark)
    else (prefix_len is_allowed line, drop (prefix_len is_allowed line) line, NoText)

-- the fault of a line without its LF and CR
abbrev pub line_fault : ℕ → List ℕ → Option Fault
line_fault harts line =
    if list_all is_allowed (content_of line) then words_fault harts (placed_words (content_of line))
    else Some (bytes_fault line)

-- the access of an event
abbrev pub access_of_event : Event → Option Access
access_of_event (events.Access access value) = Some access
access_of_event _ = None

-- the access that `judge` accepts, given the named hart, if any, and the event
abbrev pub judged : Option ℕ → Event → Option Access
judged (Some hart) event = None
judged None event = access_of_event event

-- the reason why `judge` rejects an event that is not an access
abbrev pub no_access_fault : Option Access → PlacedWord → Option Fault
no_access_fault (Some access) first = None
no_access_fault None first = Some (first.0, first.1, EventOfRun)

-- the reason why `judge` rejects a line that `run` accepts: its first word names a hart, or its
-- event is not an access
abbrev pub run_fault : Option ℕ → PlacedWord → Event → Option Fault
run_fault (Some hart) first event = Some (first.0, first.1, HartOfRun)
run_fault None first event = no_access_fault (access_of_event event) first

-- the same for the words of any line
abbrev pub only_for_run : List PlacedWord → Option (ℕ × Event) → Option Fault
only_for_run (first ∷ words) (Some said) = run_fault (hart_of 4 first.1) first said.1
only_for_run _ _ = None

-- the fault of a line for `judge`, given its meaning with four harts: it is invalid, or only for
-- `run`
abbrev pub access_fault_by : Option (Option (ℕ × Event)) → List ℕ → Option Fault
access_fault_by None line = line_fault 4 line
access_fault_by (Some said) line = only_for_run (placed_words (content_of line)) said

-- the fault of a line that should be an access
abbrev pub access_fault : List ℕ → Option Fault
access_fault line = access_fault_by (meaning_of 4 line) line
