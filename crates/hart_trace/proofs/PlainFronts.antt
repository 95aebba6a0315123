-- Plain lines at the front of a text.
use Rattle.std.proofs.Common.{◌≡◌, ◌⊎◌, ◌∙◌, ℕ, ◌+◌, ◌-◌, ◌≤◌, true, false, not, List, [], ◌∷◌, ◌++◌, length, take, slice_index, Some, zero, suc, refl, ap, sym}
use Rattle.std.proofs.Common.{arith, append-nil, append_assoc, length-append, take_at}
use Rattle.std.specs.Prelude.{◌==◌}
use Rattle.std.specs.List.{list_all}
use Rattle.std.proofs.lemmas.Bool.{and_parts, and_from}
use Rattle.std.proofs.lemmas.Bool.Decides.{nat_tests}
use Rattle.std.proofs.lemmas.Grind.{common_steps}
use Rattle.pmp_match.specs.declared.access.Mode.{Mode}
use Rattle.pmp_match.specs.declared.access.Kind.{Kind}
use Rattle.pmp_match.specs.declared.access.Access.{Access}
use Rattle.pmp_match.specs.Kinds.{has_size}
use Rattle.text_lines.specs.Lines.{has_no_end, without_return, BeginsLine}
use Rattle.text_lines.specs.Words.{is_plain}
use Rattle.text_lines.specs.Numbers.{BeginsNumeral, number_of}
use Rattle.hart_trace.specs.declared.event.Event.{Event}
use Rattle.hart_trace.specs.declared.event.Event.TheVariants as events
use Rattle.hart_trace.specs.Events.{hart_of, meaning_of, sized}
use Rattle.hart_trace.specs.Plain.{BeginsAccess, BeginsEvent, Named, Starts, keyword}
use Rattle.hart_trace.proofs.PlainLines.{cut, hart_letters, hart_says, letters_plain, look_plain, look_says, look_words, mark_number, store_plain, store_says}
use Rattle.hart_trace.proofs.PlainLines.{store_words}

-- a start whose number ends before the end of a text
starts_front : (text all digits behind : List ℕ) (mode : Mode) (size : ℕ) → Starts text mode size all → all ≡ digits ++ behind
    → (spelled : List ℕ) × (text ≡ spelled ++ behind) × Starts spelled mode size digits
starts_front text all digits behind mode size st parts = (
  st.0 ∷ 32 ∷ st.1 ∷ 32 ∷ 48 ∷ st.2 ∷ digits,
  st.3 ∙ ap (λ xs. st.0 ∷ 32 ∷ st.1 ∷ 32 ∷ 48 ∷ st.2 ∷ xs) parts,
  (st.0, st.1, st.2, refl, st.4, st.5, st.6, st.7, st.8),
)

-- a fetch or a load
pub look_front : (kind : Kind) (text digits behind : List ℕ) (mode : Mode) (size address : ℕ) (access : Access) → Starts text mode size digits
    → BeginsNumeral 16 digits address behind → Some access ≡ sized mode kind size address (has_size kind size) refl → BeginsAccess kind text access [] behind
look_front kind text digits behind mode size address access st h is =
    let front = starts_front text digits h.digits behind mode size st h.parts in
    record {
      spelled = front.0;
      parts = front.1;
      plain = look_plain front.0 h.digits mode size address front.2 (sym h.value_is);
      said = look_words kind front.0 h.digits mode size address access front.2 (sym h.value_is) is;
    }

-- a store, its address before the blank
pub store_front : (text digits between after behind : List ℕ) (mode : Mode) (size at value : ℕ) (access : Access) → Starts text mode size digits
    → BeginsNumeral 16 digits at between → between ≡ 32 ∷ 48 ∷ 120 ∷ after → BeginsNumeral 16 after value behind
    → Some access ≡ sized mode Kind.Store size at (has_size Kind.Store size) refl
    → (word : List ℕ) × BeginsAccess Kind.Store text access (word ∷ []) behind × (number_of word ≡ Some value)
store_front text digits between after behind mode size at value access st h blank k is =
    let whole : h.digits ++ 32 ∷ 48 ∷ 120 ∷ after ≡ (h.digits ++ 32 ∷ 48 ∷ 120 ∷ k.digits) ++ behind = ap (λ xs. h.digits ++ 32 ∷ 48 ∷ 120 ∷ xs) k.parts
    ∙ sym (append_assoc h.digits (32 ∷ 48 ∷ 120 ∷ k.digits) behind) in
    let front = starts_front text (h.digits ++ 32 ∷ 48 ∷ 120 ∷ after) (h.digits ++ 32 ∷ 48 ∷ 120 ∷ k.digits) behind mode size
    (cut text digits between after mode size at st h blank) whole in (
      48 ∷ 120 ∷ k.digits,
      record {
        spelled = front.0;
        parts = front.1;
        plain = store_plain front.0 h.digits k.digits mode size at value front.2 (sym h.value_is) (sym k.value_is);
        said = store_words front.0 h.digits k.digits mode size at value access front.2 (sym h.value_is) (sym k.value_is) is;
      },
      mark_number 120 k.digits value refl (sym k.value_is),
    )

-- a keyword is plain
keyword_plain : (kind : Kind) (rest : List ℕ) → list_all is_plain rest ≡ true → list_all is_plain (keyword kind ++ 32 ∷ rest) ≡ true
keyword_plain Kind.Fetch rest h = letters_plain (keyword Kind.Fetch) (32 ∷ rest) refl h
keyword_plain Kind.Load rest h = letters_plain (keyword Kind.Load) (32 ∷ rest) refl h
keyword_plain Kind.Store rest h = letters_plain (keyword Kind.Store) (32 ∷ rest) refl h

-- the keyword before it
behind_it : (kind : Kind) (text rest spelled behind : List ℕ) → text ≡ keyword kind ++ 32 ∷ rest → rest ≡ spelled ++ behind
    → text ≡ (keyword kind ++ 32 ∷ spelled) ++ behind
behind_it kind text rest spelled behind is parts = is ∙ ap (λ xs. keyword kind ++ 32 ∷ xs) parts ∙ sym (append_assoc (keyword kind) (32 ∷ spelled) behind)

pub look_event : (kind : Kind) (text rest behind : List ℕ) (access : Access) → (kind ≡ Kind.Fetch) ⊎ (kind ≡ Kind.Load) → text ≡ keyword kind ++ 32 ∷ rest
    → BeginsAccess kind rest access [] behind → BeginsEvent text (events.Access access 0) behind
look_event kind text rest behind access other is a = record {
  line = keyword kind ++ 32 ∷ a.spelled;
  parts = behind_it kind text rest a.spelled behind is a.parts;
  plain = keyword_plain kind a.spelled a.plain;
  said = λ harts. look_says kind a.spelled access harts other a.plain a.said;
}

pub store_event : (text rest behind word : List ℕ) (access : Access) (value : ℕ) → text ≡ keyword Kind.Store ++ 32 ∷ rest
    → BeginsAccess Kind.Store rest access (word ∷ []) behind → number_of word ≡ Some value → BeginsEvent text (events.Access access value) behind
store_event text rest behind word access value is a number = record {
  line = keyword Kind.Store ++ 32 ∷ a.spelled;
  parts = behind_it Kind.Store text rest a.spelled behind is a.parts;
  plain = keyword_plain Kind.Store a.spelled a.plain;
  said = λ harts. store_says a.spelled access word value harts a.plain a.said number;
}

empty : (bytes : List ℕ) → length bytes ≡ 0 → bytes ≡ []
empty [] h = refl
empty (b ∷ bytes) h = absurd (omega (arith, h))

-- nothing stands after it
pub whole_event : (text behind : List ℕ) (event : Event) → BeginsEvent text event behind → length behind ≡ 0 → (harts : ℕ)
    → meaning_of harts text ≡ Some (Some (0, event))
whole_event text behind event e none harts = ap (meaning_of harts) (e.parts ∙ ap (λ xs. e.line ++ xs) (empty behind none) ∙ append-nil e.line) ∙ e.said harts

-- a hart is named
pub is_named : (harts digit hart : ℕ) (text rest : List ℕ) → text ≡ 64 ∷ digit ∷ 32 ∷ rest → hart_of harts (64 ∷ digit ∷ []) ≡ Some hart
    → Named harts text hart rest
is_named harts digit hart text rest is named = record {
  name = 64 ∷ digit ∷ 32 ∷ [];
  parts = is;
  plain = letters_plain (64 ∷ digit ∷ []) (32 ∷ []) (hart_letters harts digit hart named) refl;
  said = λ line event first all. hart_says harts digit hart line event named first;
}

-- none is
pub is_unnamed : (harts : ℕ) (text : List ℕ) → Named harts text 0 text
is_unnamed harts text = record { name = []; parts = refl; plain = refl; said = λ line event first all. all }

-- a plain line has no LF and no CR
plain_no_end : (line : List ℕ) → list_all is_plain line ≡ true → has_no_end line ≡ true
plain_no_end [] h = refl
plain_no_end (b ∷ line) h =
    let both = and_parts (is_plain b) (list_all is_plain line) h in
    and_from _ _ (no_end b both.0) (plain_no_end line both.1)
  where
    no_end : (b : ℕ) → is_plain b ≡ true → not (b == 10) ≡ true
    no_end b h = grind (arith, nat_tests, common_steps, h)

no_return : (line : List ℕ) (i : ℕ) → list_all is_plain line ≡ true → (slice_index line i == 13) ≡ false
no_return [] i h = refl
no_return (b ∷ line) zero h = other b (and_parts (is_plain b) (list_all is_plain line) h).0
  where
    other : (b : ℕ) → is_plain b ≡ true → (b == 13) ≡ false
    other b h = grind (arith, nat_tests, common_steps, h)
no_return (b ∷ line) (suc i) h = no_return line i (and_parts (is_plain b) (list_all is_plain line) h).1

plain_whole : (line : List ℕ) → list_all is_plain line ≡ true → without_return line ≡ line
plain_whole line h = rw (no_return line (length line - 1) h) refl

-- a plain line at the front of bytes, before its LF
record Ahead (bytes line : List ℕ) (len : ℕ) : Type 0 where
  begins : BeginsLine len bytes
  text : take len bytes ≡ line

ahead : (bytes line behind rest : List ℕ) (len : ℕ) → bytes ≡ line ++ behind → list_all is_plain line ≡ true → behind ≡ 10 ∷ rest
    → len ≡ length bytes - length behind → length bytes ≤ 1024 → Ahead bytes line len
ahead bytes line behind rest len parts plain end is few =
    let sizes : length bytes ≡ length line + length behind = ap length parts ∙ length-append line behind in
    let one = ap length end in
    let size : length line ≡ len = omega (arith, is, sizes) in
    let front : take len bytes ≡ line = ap (take len) parts ∙ take_at line behind len size in
    record {
      begins = record {
        short = (ap has_no_end front ∙ plain_no_end line plain, omega (arith, ap length front, sizes, one, few));
        whole = ap without_return front ∙ plain_whole line plain ∙ sym front;
        rest = rest;
        parts = parts ∙ ap (λ xs. line ++ xs) end ∙ ap (λ xs. xs ++ 10 ∷ rest) (sym front);
      };
      text = front;
    }

-- the hart's name before the line
named_front : (harts hart : ℕ) (text rest behind : List ℕ) (event : Event) (n : Named harts text hart rest) (e : BeginsEvent rest event behind)
    → (text ≡ (n.name ++ e.line) ++ behind) × (list_all is_plain (n.name ++ e.line) ≡ true) × (meaning_of harts (n.name ++ e.line) ≡ Some (Some (hart, event)))
named_front harts hart text rest behind event n e = (
  n.parts ∙ ap (λ xs. n.name ++ xs) e.parts ∙ sym (append_assoc n.name e.line behind),
  both_plain n.name e.line n.plain e.plain,
  n.said e.line event (e.said 0) (e.said harts),
)
  where
    both_plain : (name line : List ℕ) → list_all is_plain name ≡ true → list_all is_plain line ≡ true → list_all is_plain (name ++ line) ≡ true
    both_plain [] line h k = k
    both_plain (b ∷ name) line h k =
        let both = and_parts (is_plain b) (list_all is_plain name) h in
        and_from _ _ both.0 (both_plain name line both.1 k)

-- both, before a LF
pub record SaidAhead (harts : ℕ) (bytes : List ℕ) (hart len : ℕ) (event : Event) : Type 0 where
  pub begins : BeginsLine len bytes
  pub says : meaning_of harts (take len bytes) ≡ Some (Some (hart, event))

pub said_ahead : (harts hart len : ℕ) (bytes text behind rest : List ℕ) (event : Event) → Named harts bytes hart text → BeginsEvent text event behind
    → len ≡ length bytes - length behind → behind ≡ 10 ∷ rest → length bytes ≤ 1024 → SaidAhead harts bytes hart len event
said_ahead harts hart len bytes text behind rest event n e is end few =
    let front = named_front harts hart bytes text behind event n e in
    let there = ahead bytes (n.name ++ e.line) behind rest len front.0 front.1 end is few in
    record { begins = there.begins; says = ap (meaning_of harts) there.text ∙ front.2 }
