-- The words of an event, parsed in order from a position of a line's text on.
use Rattle.std.specs.Prelude.{◌≡◌, ◌⊎◌, ◌≤◌, ℕ, List, [], ◌∷◌, length, Option, Some, None}
use Rattle.pmp_match.specs.declared.access.Access.{Access}
use Rattle.pmp_match.specs.declared.access.Kind.{Kind}
use Rattle.text_lines.specs.Columns.{PlacedWord, end_of, placed_at, words_in}
use Rattle.hart_trace.specs.declared.event.Event.{Event}
use Rattle.hart_trace.specs.declared.fault.EventKind.{EventKind}
use Rattle.hart_trace.specs.declared.fault.Slot.{Slot}
use Rattle.hart_trace.specs.declared.trace.Said.{Said}
use Rattle.hart_trace.specs.declared.fault.Slot.TheVariants.{Mode, Size, Address}
use Rattle.hart_trace.specs.declared.fault.Reason.TheVariants.{Extra, Misfit, Missing}
use Rattle.hart_trace.specs.Events.{Word, access_of, hart_of}
use Rattle.hart_trace.specs.Faults.{Fault, slots_fault, slots_of}

-- the next word means x, and ends at this position
abbrev pub Reads : {X : Type 0} → (Word → Option X) → List ℕ → ℕ → X → ℕ → Type 0
Reads f text at x end = (word : PlacedWord) × (placed_at text at ≡ word ∷ placed_at text end)
    × (f word.1 ≡ Some x) × (end ≡ end_of word) × (end ≤ length text)

-- the next word is missing
abbrev pub IsWanting : EventKind → Slot → List ℕ → ℕ → Fault → Type 0
IsWanting event slot text at fault = (placed_at text at ≡ [])
    × (fault ≡ (at, [], Missing event slot))

-- the next word does not fit its slot
abbrev pub IsMisfit : {X : Type 0} → Slot → (Word → Option X) → List ℕ → ℕ → Fault → Type 0
IsMisfit slot f text at fault =
    (word : PlacedWord) × (rest : List PlacedWord) × (placed_at text at ≡ word ∷ rest)
    × (f word.1 ≡ None) × (fault ≡ (word.0, word.1, Misfit slot))

-- the next word does not fit its slot, or is missing
abbrev pub Lacks : {X : Type 0} → EventKind → Slot → (Word → Option X) → List ℕ → ℕ → Fault → Type 0
Lacks event slot f text at fault = IsWanting event slot text at fault
    ⊎ IsMisfit slot f text at fault

-- there is a word too many
abbrev pub Exceeds : EventKind → List ℕ → ℕ → Fault → Type 0
Exceeds event text at fault = (word : PlacedWord) × (rest : List PlacedWord)
    × (placed_at text at ≡ word ∷ rest) × (fault ≡ (word.0, word.1, Extra event))

-- the next three words are a valid access, and end at this position
pub record ReadsAccess (event : EventKind) (kind : Kind) (text : List ℕ) (at : ℕ) (access : Access)
    (end : ℕ) : Type 0 where
  pub says : access_of kind (words_in (placed_at text at))
      ≡ Some (access, words_in (placed_at text end))
  pub right : (slots : List Slot)
      → slots_fault event (Mode ∷ Size kind ∷ Address ∷ slots) (placed_at text at) at
      ≡ slots_fault event slots (placed_at text end) end
  pub within : end ≤ length text

-- the next three words are not a valid access, and have this fault
pub record LacksAccess (event : EventKind) (kind : Kind) (text : List ℕ) (at : ℕ)
    (fault : Fault) : Type 0 where
  pub says : access_of kind (words_in (placed_at text at)) ≡ None
  pub wrong : (slots : List Slot)
      → slots_fault event (Mode ∷ Size kind ∷ Address ∷ slots) (placed_at text at) at ≡ Some fault

-- the words from a position on, which should be an event of this kind, have this fault
abbrev pub AtFault : EventKind → List ℕ → ℕ → Fault → Type 0
AtFault kind text at fault = slots_fault kind (slots_of kind) (placed_at text at) at ≡ Some fault

-- the named hart, or the first
abbrev pub named_or_first : Option ℕ → ℕ
named_or_first None = 0
named_or_first (Some hart) = hart

-- the hart and the event of a line
abbrev pub event_said : Said → ℕ × Event
event_said said = (named_or_first said.hart, said.event)

-- the words of a line begin with this one, which names this hart or none
abbrev pub BeginsWith : ℕ → List PlacedWord → Said → Type 0
BeginsWith harts words said = (rest : List PlacedWord)
    × (words ≡ (said.first.before, said.first.word.now) ∷ rest)
    × (hart_of harts said.first.word.now ≡ said.hart)
