-- The words of an event, read one after another.
use Rattle.std.proofs.Common.{◌≡◌, ◌∙◌, ℕ, List, [], ◌∷◌, ap, refl, sym, Bool, true, false, Option, Some, None, is_some, option_map, inl, inr, ◌+◌, ◌-◌, ◌<◌, length, replicate}
use Rattle.pmp_match.specs.declared.access.Access.{Access}
use Rattle.pmp_match.specs.declared.access.Mode.{Mode}
use Rattle.pmp_match.specs.declared.access.Kind.{Kind}
use Rattle.pmp_match.specs.Kinds.{has_size}
use Rattle.text_lines.specs.Columns.{PlacedWord, end_of, placed_at, words_in}
use Rattle.text_lines.specs.Numbers.{number_of}
use Rattle.hart_trace.specs.declared.fault.EventKind.{EventKind}
use Rattle.hart_trace.specs.declared.fault.Slot.{Slot}
use Rattle.hart_trace.specs.declared.fault.Slot.TheVariants as slots
use Rattle.std.specs.Prelude.{if◌then◌else◌}
use Rattle.std.proofs.lemmas.Option.{same_Some}
use Rattle.hart_trace.specs.declared.event.Event.TheVariants as events
use Rattle.hart_trace.specs.declared.fault.EventKind.TheVariants as kinds
use Rattle.hart_trace.specs.Events.{Word, ◌>>=◌, access_of, mode_of, register_of, setting_of, sized, with_no_value, with_value}
use Rattle.hart_trace.specs.declared.fault.Reason.TheVariants.{Misfit}
use Rattle.hart_trace.proofs.Calls.{one_argument}
use Rattle.hart_trace.proofs.PlainLines.{access_said}
use Rattle.hart_trace.specs.Faults.{Fault, fits, may_end, size_of, slots_fault}
use Rattle.hart_trace.specs.EventWords.{AtFault, Exceeds, Lacks, LacksAccess, Reads, ReadsAccess}

-- a word says what a slot asks exactly where it says some x
abbrev pub FitsBy : {X : Type 0} → Slot → (Word → Option X) → Type 0
FitsBy slot f = (word : Word) → fits slot word ≡ is_some (f word)

-- after a word that is right, what is wrong is wrong with the words after it
pub right : {X : Type 0} (event : EventKind) (slot : Slot) (f : Word → Option X) (text : List ℕ) (at end : ℕ) (x : X) (more : List Slot) → FitsBy slot f
    → Reads f text at x end → slots_fault event (slot ∷ more) (placed_at text at) at ≡ slots_fault event more (placed_at text end) end
right event slot f text at end x more by read = rw (read.1, by (read.0).1, read.2, ← read.3) refl

-- a word that is wrong
pub wrong : {X : Type 0} (event : EventKind) (slot : Slot) (f : Word → Option X) (text : List ℕ) (at : ℕ) (fault : Fault) (more : List Slot) → FitsBy slot f
    → may_end event ≡ false → Lacks event slot f text at fault → slots_fault event (slot ∷ more) (placed_at text at) at ≡ Some fault
wrong event slot f text at fault more by needed (inl lack) = rw (lack.0, needed, lack.1) refl
wrong event slot f text at fault more by needed (inr lack) = rw (lack.2, by (lack.0).1, lack.3, lack.4) refl

fits_mode : FitsBy slots.Mode mode_of
fits_mode word = refl

fits_size : (kind : Kind) → FitsBy (slots.Size kind) (size_of kind)
fits_size kind word = refl

fits_address : FitsBy slots.Address number_of
fits_address word = refl

pub fits_value : FitsBy slots.Value number_of
fits_value word = refl

pub fits_register : FitsBy slots.Register register_of
fits_register word = refl

-- a size that accesses of a kind have
size_said : (kind : Kind) (word : Word) (size : ℕ) (number : Option ℕ) → number ≡ number_of word → size_of kind word ≡ Some size
    → (number_of word ≡ Some size) × (has_size kind size ≡ true)
size_said kind word size None is e = let e = rw (← is) at e in cc
size_said kind word size (Some n) is e = by_test (has_size kind n) refl (rw (← is) at e)
  where
    by_test : (t : Bool) → has_size kind n ≡ t → (if t then Some n else None) ≡ Some size → (number_of word ≡ Some size) × (has_size kind size ≡ true)
    by_test true fits e =
        let same : n ≡ size = same_Some _ _ e in (
          sym is ∙ e,
          rw (← same) fits,
        )
    by_test false fits e = cc

-- three words that say an access
pub access_read :
    (event : EventKind) (kind : Kind) (text : List ℕ) (at mode_end size_end end : ℕ) (mode : Mode) (size address : ℕ) (access : Access)
    → Reads mode_of text at mode mode_end → Reads (size_of kind) text mode_end size size_end → Reads number_of text size_end address end
    → Some access ≡ sized mode kind size address (has_size kind size) refl → ReadsAccess event kind text at access end
access_read event kind text at mode_end size_end end mode size address access m s a is =
    let number = (size_said kind (s.0).1 size (number_of (s.0).1) refl s.2).0 in
    record {
      says = rw (m.1, s.1, a.1) (access_said kind (m.0).1 (s.0).1 (a.0).1 (words_in (placed_at text end)) mode size address access m.2 number a.2 is);
      right = λ more.
          right event slots.Mode mode_of text at mode_end mode (slots.Size kind ∷ slots.Address ∷ more) fits_mode m
          ∙ right event (slots.Size kind) (size_of kind) text mode_end size_end size (slots.Address ∷ more) (fits_size kind) s
          ∙ right event slots.Address number_of text size_end end address more fits_address a;
      within = a.4;
    }

-- words whose first is no mode
bad_mode : (kind : Kind) (m : Word) (words : List Word) → mode_of m ≡ None → access_of kind (m ∷ words) ≡ None
bad_mode kind m [] e = refl
bad_mode kind m (s ∷ []) e = refl
bad_mode kind m (s ∷ a ∷ words) e = rw e refl

-- what follows from a mode and a size
abbrev behind_size : Kind → Mode → List Word → ℕ → Option ℕ → Option (Access × List Word)
behind_size kind mode words size address = do
  a ← address
  access ← sized mode kind size a (has_size kind size) refl
  Some (access, words)

not_sized :
    (kind : Kind) (mode : Mode) (words : List Word) (size a : ℕ) (t : Bool) (h : has_size kind size ≡ t) → (if t then Some size else None) ≡ None
    → ◌>>=◌ {B = Access × List Word} (sized mode kind size a t h) (λ access. Some (access, words)) ≡ None
not_sized kind mode words size a true h none = cc
not_sized kind mode words size a false h none = refl

none_behind : (kind : Kind) (mode : Mode) (words : List Word) (size : ℕ) (address : Option ℕ) → (if has_size kind size then Some size else None) ≡ None
    → behind_size kind mode words size address ≡ None
none_behind kind mode words size None none = refl
none_behind kind mode words size (Some a) none = not_sized kind mode words size a (has_size kind size) refl none

size_behind : (kind : Kind) (mode : Mode) (words : List Word) (number address : Option ℕ)
    → (number >>= (λ size. if has_size kind size then Some size else None)) ≡ None
    → ◌>>=◌ {B = Access × List Word} number (λ size. behind_size kind mode words size address) ≡ None
size_behind kind mode words None address none = refl
size_behind kind mode words (Some size) address none = none_behind kind mode words size address none

-- words whose second is no size
bad_size : (kind : Kind) (m s : Word) (mode : Mode) (words : List Word) → mode_of m ≡ Some mode → size_of kind s ≡ None → access_of kind (m ∷ s ∷ words) ≡ None
bad_size kind m s mode [] em es = refl
bad_size kind m s mode (a ∷ words) em es = rw em (size_behind kind mode words (number_of s) (number_of a) es)

-- words whose third is no number
bad_address : (kind : Kind) (m s a : Word) (mode : Mode) (size : ℕ) (words : List Word) → mode_of m ≡ Some mode → number_of s ≡ Some size → number_of a ≡ None
    → access_of kind (m ∷ s ∷ a ∷ words) ≡ None
bad_address kind m s a mode size words em es ea = rw (em, es, ea) refl

-- no mode comes first
pub mode_lacks :
    (event : EventKind) (kind : Kind) (text : List ℕ) (at : ℕ) (fault : Fault) → may_end event ≡ false → Lacks event slots.Mode mode_of text at fault
    → LacksAccess event kind text at fault
mode_lacks event kind text at fault needed lack = record {
  says = by_lack lack;
  wrong = λ more. wrong event slots.Mode mode_of text at fault (slots.Size kind ∷ slots.Address ∷ more) fits_mode needed lack;
}
  where
    by_lack : Lacks event slots.Mode mode_of text at fault → access_of kind (words_in (placed_at text at)) ≡ None
    by_lack (inl none) = rw none.0 refl
    by_lack (inr bad) = rw bad.2 (bad_mode kind (bad.0).1 (words_in bad.1) bad.3)

-- no size comes second
pub size_lacks :
    (event : EventKind) (kind : Kind) (text : List ℕ) (at mode_end : ℕ) (mode : Mode) (fault : Fault) → may_end event ≡ false
    → Reads mode_of text at mode mode_end → Lacks event (slots.Size kind) (size_of kind) text mode_end fault → LacksAccess event kind text at fault
size_lacks event kind text at mode_end mode fault needed m lack = record {
  says = by_lack lack;
  wrong = λ more.
      right event slots.Mode mode_of text at mode_end mode (slots.Size kind ∷ slots.Address ∷ more) fits_mode m
      ∙ wrong event (slots.Size kind) (size_of kind) text mode_end fault (slots.Address ∷ more) (fits_size kind) needed lack;
}
  where
    by_lack : Lacks event (slots.Size kind) (size_of kind) text mode_end fault → access_of kind (words_in (placed_at text at)) ≡ None
    by_lack (inl none) = rw (m.1, none.0) refl
    by_lack (inr bad) = rw (m.1, bad.2) (bad_size kind (m.0).1 (bad.0).1 mode (words_in bad.1) m.2 bad.3)

-- no number comes third
pub address_lacks :
    (event : EventKind) (kind : Kind) (text : List ℕ) (at mode_end size_end : ℕ) (mode : Mode) (size : ℕ) (fault : Fault) → may_end event ≡ false
    → Reads mode_of text at mode mode_end → Reads (size_of kind) text mode_end size size_end
    → Lacks event slots.Address number_of text size_end fault → LacksAccess event kind text at fault
address_lacks event kind text at mode_end size_end mode size fault needed m s lack = record {
  says = by_lack lack;
  wrong = λ more.
      right event slots.Mode mode_of text at mode_end mode (slots.Size kind ∷ slots.Address ∷ more) fits_mode m
      ∙ right event (slots.Size kind) (size_of kind) text mode_end size_end size (slots.Address ∷ more) (fits_size kind) s
      ∙ wrong event slots.Address number_of text size_end fault more fits_address needed lack;
}
  where
    by_lack : Lacks event slots.Address number_of text size_end fault → access_of kind (words_in (placed_at text at)) ≡ None
    by_lack (inl none) = rw (m.1, s.1, none.0) refl
    by_lack (inr bad) = rw (m.1, s.1, bad.2) (bad_address kind (m.0).1 (s.0).1 (bad.0).1 mode size (words_in bad.1) m.2 (size_said kind (s.0).1 size (number_of
        (s.0).1) refl s.2).0 bad.3)

-- a word too many
pub exceeds : (event : EventKind) (text : List ℕ) (at : ℕ) (fault : Fault) → Exceeds event text at fault
    → slots_fault event [] (placed_at text at) at ≡ Some fault
exceeds event text at fault more = rw (more.2, more.3) refl

-- a fetch or a load
pub look_read : (kind : Kind) (words rest : List Word) (access : Access) → access_of kind words ≡ Some (access, rest) → rest ≡ []
    → (access_of kind words >>= with_no_value) ≡ Some (events.Access access 0)
look_read kind words rest access says none = ap (λ found. found >>= with_no_value) says ∙ ap (λ ws. with_no_value (access, ws)) none

pub look_more : (kind : Kind) (words rest : List Word) (access : Access) (word : Word) (more : List Word) → access_of kind words ≡ Some (access, rest)
    → rest ≡ word ∷ more → (access_of kind words >>= with_no_value) ≡ None
look_more kind words rest access word more says e = ap (λ found. found >>= with_no_value) says ∙ ap (λ ws. with_no_value (access, ws)) e

pub no_look : (kind : Kind) (words : List Word) → access_of kind words ≡ None → (access_of kind words >>= with_no_value) ≡ None
no_look kind words says = ap (λ found. found >>= with_no_value) says

-- a store
pub store_read :
    (words rest : List Word) (access : Access) (word : Word) (value : ℕ) → access_of Kind.Store words ≡ Some (access, rest) → rest ≡ word ∷ []
    → number_of word ≡ Some value → (access_of Kind.Store words >>= with_value) ≡ Some (events.Access access value)
store_read words rest access word value says e v =
    ap (λ found. found >>= with_value) says ∙ ap (λ ws. with_value (access, ws)) e ∙ ap (option_map (events.Access access)) v

pub no_store : (words : List Word) → access_of Kind.Store words ≡ None → (access_of Kind.Store words >>= with_value) ≡ None
no_store words says = ap (λ found. found >>= with_value) says

value_none : (access : Access) (word : Word) (more : List Word) → number_of word ≡ None → with_value (access, word ∷ more) ≡ None
value_none access word [] v = rw v refl
value_none access word (next ∷ more) v = refl

pub store_lacks :
    (text : List ℕ) (at end : ℕ) (access : Access) (fault : Fault) → ReadsAccess kinds.Store Kind.Store text at access end
    → Lacks kinds.Store slots.Value number_of text end fault
    → ((access_of Kind.Store (words_in (placed_at text at)) >>= with_value) ≡ None) × AtFault kinds.Store text at fault
store_lacks text at end access fault read lack = (
  ap (λ found. found >>= with_value) read.says ∙ by_lack lack,
  read.right (slots.Value ∷ []) ∙ wrong kinds.Store slots.Value number_of text end fault [] fits_value refl lack,
)
  where
    by_lack : Lacks kinds.Store slots.Value number_of text end fault → with_value (access, words_in (placed_at text end)) ≡ None
    by_lack (inl none) = rw none.0 refl
    by_lack (inr bad) = rw bad.2 (value_none access (bad.0).1 (words_in bad.1) bad.3)

pub store_exceeds :
    (text : List ℕ) (at access_end end : ℕ) (access : Access) (value : ℕ) (fault : Fault) → ReadsAccess kinds.Store Kind.Store text at access access_end
    → Reads number_of text access_end value end → Exceeds kinds.Store text end fault
    → ((access_of Kind.Store (words_in (placed_at text at)) >>= with_value) ≡ None) × AtFault kinds.Store text at fault
store_exceeds text at access_end end access value fault read v more = (
  ap (λ found. found >>= with_value) read.says ∙ rw (v.1, more.2) refl,
  read.right (slots.Value ∷ [])
      ∙ (right kinds.Store slots.Value number_of text access_end end value [] fits_value v ∙ exceeds kinds.Store text end fault more),
)

-- the setting of a register
pub setting_read :
    (text : List ℕ) (at register_end end n value : ℕ) → Reads register_of text at n register_end → Reads number_of text register_end value end
    → placed_at text end ≡ [] → setting_of (words_in (placed_at text at)) ≡ Some (events.Reg n value)
setting_read text at register_end end n value r v none = rw (r.1, v.1, none) (rw (r.2, v.2) refl)

no_register : (word : Word) (more : List Word) → register_of word ≡ None → setting_of (word ∷ more) ≡ None
no_register word [] r = refl
no_register word (value ∷ []) r = rw r refl
no_register word (value ∷ next ∷ more) r = refl

no_setting : (word value : Word) (n : ℕ) (more : List Word) → register_of word ≡ Some n → number_of value ≡ None → setting_of (word ∷ value ∷ more) ≡ None
no_setting word value n [] r v = rw (r, v) refl
no_setting word value n (next ∷ more) r v = refl

pub register_lacks :
    (text : List ℕ) (at : ℕ) (fault : Fault) → Lacks kinds.Reg slots.Register register_of text at fault
    → (setting_of (words_in (placed_at text at)) ≡ None) × AtFault kinds.Reg text at fault
register_lacks text at fault lack = (by_lack lack, wrong kinds.Reg slots.Register register_of text at fault (slots.Value ∷ []) fits_register refl lack)
  where
    by_lack : Lacks kinds.Reg slots.Register register_of text at fault → setting_of (words_in (placed_at text at)) ≡ None
    by_lack (inl none) = rw none.0 refl
    by_lack (inr bad) = rw bad.2 (no_register (bad.0).1 (words_in bad.1) bad.3)

pub value_lacks :
    (text : List ℕ) (at end n : ℕ) (fault : Fault) → Reads register_of text at n end → Lacks kinds.Reg slots.Value number_of text end fault
    → (setting_of (words_in (placed_at text at)) ≡ None) × AtFault kinds.Reg text at fault
value_lacks text at end n fault r lack = (
  by_lack lack,
  right kinds.Reg slots.Register register_of text at end n (slots.Value ∷ []) fits_register r
      ∙ wrong kinds.Reg slots.Value number_of text end fault [] fits_value refl lack,
)
  where
    by_lack : Lacks kinds.Reg slots.Value number_of text end fault → setting_of (words_in (placed_at text at)) ≡ None
    by_lack (inl none) = rw (r.1, none.0) refl
    by_lack (inr bad) = rw (r.1, bad.2) (no_setting (r.0).1 (bad.0).1 n (words_in bad.1) r.2 bad.3)

pub setting_exceeds :
    (text : List ℕ) (at register_end end n value : ℕ) (fault : Fault) → Reads register_of text at n register_end
    → Reads number_of text register_end value end → Exceeds kinds.Reg text end fault
    → (setting_of (words_in (placed_at text at)) ≡ None) × AtFault kinds.Reg text at fault
setting_exceeds text at register_end end n value fault r v more = (
  rw (r.1, v.1, more.2) refl,
  right kinds.Reg slots.Register register_of text at register_end n (slots.Value ∷ []) fits_register r
      ∙ (right kinds.Reg slots.Value number_of text register_end end value [] fits_value v ∙ exceeds kinds.Reg text end fault more),
)

-- a word of a call that is no number
pub argument_lacks :
    (numbers : List ℕ) (text : List ℕ) (at : ℕ) (word : PlacedWord) (rest : List PlacedWord) → length numbers < 8 → placed_at text at ≡ word ∷ rest
    → number_of word.1 ≡ None
    → slots_fault kinds.Ecall (replicate (8 - length numbers) slots.Argument) (placed_at text at) at ≡ Some (word.0, word.1, Misfit slots.Argument)
argument_lacks numbers text at word rest less e none = rw (one_argument (length numbers) less, e, none) refl

-- a word of a call more
pub argument_read :
    (numbers more : List ℕ) (text : List ℕ) (at end n : ℕ) (word : PlacedWord) → length numbers < 8 → length more ≡ length numbers + 1
    → placed_at text at ≡ word ∷ placed_at text end
    → number_of word.1 ≡ Some n → end ≡ end_of word
    → slots_fault kinds.Ecall (replicate (8 - length more) slots.Argument) (placed_at text end) end ≡ slots_fault kinds.Ecall
    (replicate (8 - length numbers) slots.Argument)
    (placed_at text at) at
argument_read numbers more text at end n word less count e v ends =
    let whole : slots_fault kinds.Ecall (slots.Argument ∷ replicate (8 - (length numbers + 1)) slots.Argument) (word ∷ placed_at text end) at
    ≡ slots_fault kinds.Ecall (replicate (8 - (length numbers + 1)) slots.Argument) (placed_at text end) (end_of word) = rw v refl in
    rw (count, one_argument (length numbers) less, e) (ap
    (slots_fault kinds.Ecall (replicate (8 - (length numbers + 1)) slots.Argument) (placed_at text end)) ends
    ∙ sym whole)
