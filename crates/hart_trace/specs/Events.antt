-- The lines of a trace and their events.
use Rattle.std.specs.Prelude.{◌≡◌, ℕ, ◌-◌, Bool, true, false, not, refl, ◌&&◌, ◌==◌, nat_lt, nat_le}
use Rattle.std.specs.Prelude.{if◌then◌else◌, List, [], ◌∷◌, length, Option, Some, None, option_map}
use Rattle.std.specs.Prelude.{codes, bytes_eq}
use Rattle.pmp_match.specs.declared.access.Mode.{Mode}
use Rattle.pmp_match.specs.declared.access.Mode.TheVariants.{Supervisor, User}
use Rattle.pmp_match.specs.declared.access.Kind.{Kind}
use Rattle.pmp_match.specs.declared.access.Kind.TheVariants.{Fetch, Load, Store}
use Rattle.pmp_match.specs.declared.access.Access.{Access}
use Rattle.pmp_match.specs.Kinds.{has_size}
use Rattle.hart_trace.specs.declared.event.Event.{Event}
use Rattle.hart_trace.specs.declared.event.Event.TheVariants as events
use Rattle.hart_trace.specs.declared.fault.EventKind.{EventKind}
use Rattle.hart_trace.specs.declared.fault.EventKind.TheVariants as kinds
use Rattle.text_lines.specs.Words.{words_of}
use Rattle.text_lines.specs.Numbers.{numeral_of, number_of}

-- a word of a line
abbrev pub Word : Type 0
Word = List ℕ

-- the result of a function of an optional value, if there is one
infixl 10 ◌>>=◌
abbrev pub ◌>>=◌ : {A B : Type 0} → Option A → (A → Option B) → Option B
None >>= f = None
(Some x) >>= f = f x

-- the mode that a word names
abbrev pub mode_of : Word → Option Mode
mode_of word = if bytes_eq word (codes "s") then Some Supervisor else if bytes_eq word (codes "u")
    then Some User else None

-- an access, if its kind has this size
abbrev pub sized : Mode → (kind : Kind) → (size address : ℕ) → (b : Bool) → has_size kind size ≡ b
    → Option Access
sized mode kind size address true fits =
    Some (record { mode = mode; kind = kind; size = size; address = address; sized = fits })
sized mode kind size address false fits = None

-- an access from the words M, SIZE and ADDR, and the words after them
abbrev pub access_of : Kind → List Word → Option (Access × List Word)
access_of kind (m ∷ s ∷ a ∷ rest) = do
  mode ← mode_of m
  size ← number_of s
  address ← number_of a
  access ← sized mode kind size address (has_size kind size) refl
  Some (access, rest)
access_of kind _ = None

-- a fetch or a load, with no word after the address
abbrev pub with_no_value : Access × List Word → Option Event
with_no_value (access, []) = Some (events.Access access 0)
with_no_value (access, word ∷ words) = None

-- a store, with the word VALUE after the address
abbrev pub with_value : Access × List Word → Option Event
with_value (access, word ∷ []) = option_map (events.Access access) (number_of word)
with_value (access, _) = None

-- the digits begin with a superfluous zero
abbrev pub has_leading_zero : List ℕ → Bool
has_leading_zero (first ∷ second ∷ digits) = first == 48
has_leading_zero _ = false

-- the register `xN`, with N from 0 to 31
abbrev pub register_of : Word → Option ℕ
register_of [] = None
register_of (x ∷ digits) = do
  n ← numeral_of 10 digits
  if x == 120 && not (has_leading_zero digits) && nat_lt n 32 then Some n else None

-- the register setting in these words
abbrev pub setting_of : List Word → Option Event
setting_of (register ∷ word ∷ []) = do
  n ← register_of register
  value ← number_of word
  Some (events.Reg n value)
setting_of _ = None

-- the numbers in these words
abbrev pub numbers_of : List Word → Option (List ℕ)
numbers_of [] = Some []
numbers_of (word ∷ words) = do
  n ← number_of word
  ns ← numbers_of words
  Some (n ∷ ns)

-- a call with at most 8 words
abbrev pub call_in : List Word → Option Event
call_in words = if nat_le (length words) 8
    then option_map (λ ns. events.Ecall (record { items = ns })) (numbers_of words) else None

-- the interrupt, if no words follow its keyword
abbrev pub interrupt_of : List Word → Option Event
interrupt_of [] = Some events.Irq
interrupt_of (word ∷ words) = None

-- the kind of event that a keyword begins
abbrev pub kind_of : Word → Option EventKind
kind_of word =
    if bytes_eq word (codes "fetch") then Some kinds.Fetch
    else if bytes_eq word (codes "load") then Some kinds.Load
    else if bytes_eq word (codes "store") then Some kinds.Store
    else if bytes_eq word (codes "reg") then Some kinds.Reg
    else if bytes_eq word (codes "ecall") then Some kinds.Ecall
    else if bytes_eq word (codes "irq") then Some kinds.Irq
    else None

-- the event of this kind in the words after its keyword
abbrev pub event_by : EventKind → List Word → Option Event
event_by kinds.Fetch words = access_of Fetch words >>= with_no_value
event_by kinds.Load words = access_of Load words >>= with_no_value
event_by kinds.Store words = access_of Store words >>= with_value
event_by kinds.Reg words = setting_of words
event_by kinds.Ecall words = call_in words
event_by kinds.Irq words = interrupt_of words

-- the event of a line's words, without the hart
abbrev pub event_of : List Word → Option Event
event_of [] = None
event_of (keyword ∷ words) = kind_of keyword >>= (λ kind. event_by kind words)

-- the hart `@H`, with H one digit below the number of harts
abbrev pub hart_of : ℕ → Word → Option ℕ
hart_of harts (at ∷ digit ∷ []) = if at == 64 && nat_le 48 digit && nat_le digit 57
    && nat_lt (digit - 48) harts then Some (digit - 48) else None
hart_of harts _ = None

-- the hart that the first word names, or hart 0, and the event there
abbrev pub on_hart : Option ℕ → Word → List Word → Option (ℕ × Event)
on_hart None word words = option_map (λ event. (0, event)) (event_of (word ∷ words))
on_hart (Some hart) word words = option_map (λ event. (hart, event)) (event_of words)

-- the meaning of words: nothing, or one event
abbrev pub said_by : ℕ → List Word → Option (Option (ℕ × Event))
said_by harts [] = Some None
said_by harts (word ∷ words) = option_map Some (on_hart (hart_of harts word) word words)

-- the meaning of a line, if it is understood
abbrev pub meaning_of : ℕ → List ℕ → Option (Option (ℕ × Event))
meaning_of harts line = words_of line >>= said_by harts
