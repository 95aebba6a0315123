-- Plain lines say what the grammar of traces says.
use Rattle.std.proofs.Common.{◌≡◌, ◌⊎◌, inl, inr, ◌∙◌, ℕ, ◌+◌, Bool, true, false, not, ◌&&◌, List, [], ◌∷◌, ◌++◌, Option, Some, None, option_map, cond, suc}
use Rattle.std.proofs.Common.{refl, ap, sym, arith, append-nil}
use Rattle.std.specs.Prelude.{◌==◌}
use Rattle.std.specs.List.{list_all, position_or_len}
use Rattle.std.proofs.lemmas.Bool.{and_parts, and_from, cond-true}
use Rattle.std.proofs.lemmas.Option.{same_Some}
use Rattle.std.proofs.lemmas.Bool.Decides.{nat_tests}
use Rattle.std.proofs.lemmas.Grind.{common_steps}
use Rattle.pmp_match.specs.declared.access.Mode.{Mode}
use Rattle.pmp_match.specs.declared.access.Kind.{Kind}
use Rattle.pmp_match.specs.declared.access.Access.{Access}
use Rattle.pmp_match.specs.Kinds.{has_size}
use Rattle.text_lines.specs.Words.{is_allowed, is_blank, is_plain, content_of, split_words, words_of}
use Rattle.text_lines.specs.Numbers.{BeginsNumeral, numeral_of, number_of}
use Rattle.text_lines.proofs.PlainText.{plain_allowed, plain_content}
pub use Rattle.text_lines.proofs.Letters.{numeral_digits, numeral_letters, letters_word, letters_plain, letters_split, letters_last}
use Rattle.hart_trace.specs.declared.event.Event.{Event}
use Rattle.hart_trace.specs.declared.event.Event.TheVariants as events
use Rattle.hart_trace.specs.Events.{◌>>=◌, access_of, event_of, hart_of, meaning_of, mode_of, said_by, sized}
use Rattle.hart_trace.specs.Plain.{Starts, is_letter, is_mark, keyword}

-- the letter of a hexadecimal number
mark_letter : (x : ℕ) → is_mark x ≡ true → is_letter x ≡ true
mark_letter x h = grind (arith, nat_tests, common_steps, h)

pub mark_number : (x : ℕ) (digits : List ℕ) (value : ℕ) → is_mark x ≡ true → Some value ≡ numeral_of 16 digits → number_of (48 ∷ x ∷ digits) ≡ Some value
mark_number x digits value h e = cond-true (is_mark x) (numeral_of 16 digits) (numeral_of 10 (48 ∷ x ∷ digits)) h ∙ sym e

-- an address that may have words after it
pub address_word : (x : ℕ) (digits : List ℕ) → is_letter x ≡ true → list_all is_letter digits ≡ true → list_all is_letter (48 ∷ x ∷ digits) ≡ true
address_word x digits hx h = and_from _ _ hx h

-- the words of an access, from its mode on
start_words : (m s x : ℕ) (behind : List ℕ) → is_letter m ≡ true → is_letter s ≡ true
    → split_words (m ∷ 32 ∷ s ∷ 32 ∷ 48 ∷ x ∷ behind) ≡ (m ∷ []) ∷ (s ∷ []) ∷ split_words (48 ∷ x ∷ behind)
start_words m s x behind hm hs = letters_split m [] (s ∷ 32 ∷ 48 ∷ x ∷ behind) (and_from _ _ hm refl)
    ∙ ap (λ ws. (m ∷ []) ∷ ws) (letters_split s [] (48 ∷ x ∷ behind) (and_from _ _ hs refl))

-- the access that these words say
pub access_said : (kind : Kind) (m s a : List ℕ) (words : List (List ℕ)) (mode : Mode) (size address : ℕ) (access : Access) → mode_of m ≡ Some mode
    → number_of s ≡ Some size → number_of a ≡ Some address → Some access ≡ sized mode kind size address (has_size kind size) refl
    → access_of kind (m ∷ s ∷ a ∷ words) ≡ Some (access, words)
access_said kind m s a words mode size address access em es ea is = rw (em, es, ea, ← is) refl

start_plain : (m s x : ℕ) (behind : List ℕ) → is_letter m ≡ true → is_letter s ≡ true → is_letter x ≡ true → list_all is_plain behind ≡ true
    → list_all is_plain (m ∷ 32 ∷ s ∷ 32 ∷ 48 ∷ x ∷ behind) ≡ true
start_plain m s x behind hm hs hx h =
    let mode = (and_parts (is_plain m) (not (is_blank m)) hm).0 in
    let size = (and_parts (is_plain s) (not (is_blank s)) hs).0 in
    let mark = (and_parts (is_plain x) (not (is_blank x)) hx).0 in
    and_from _ _ mode (and_from _ _ size (and_from _ _ mark h))

-- a fetch or a load
pub look_words : (kind : Kind) (text behind : List ℕ) (mode : Mode) (size address : ℕ) (access : Access) → Starts text mode size behind
    → Some address ≡ numeral_of 16 behind → Some access ≡ sized mode kind size address (has_size kind size) refl
    → access_of kind (split_words text) ≡ Some (access, [])
look_words kind text behind mode size address access st ea is =
    let letters = numeral_letters 16 behind address (omega arith) (sym ea) in
    let word = address_word st.2 behind (mark_letter st.2 st.8) letters in
    ap (access_of kind) (ap split_words st.3 ∙ start_words st.0 st.1 st.2 behind st.6 st.7
    ∙ ap (λ ws. (st.0 ∷ []) ∷ (st.1 ∷ []) ∷ ws) (letters_last 48 (st.2 ∷ behind) word))
    ∙ access_said kind (st.0 ∷ []) (st.1 ∷ []) (48 ∷ st.2 ∷ behind) [] mode size address access st.4 st.5 (mark_number st.2 behind address st.8 ea) is

pub look_plain : (text behind : List ℕ) (mode : Mode) (size address : ℕ) → Starts text mode size behind → Some address ≡ numeral_of 16 behind
    → list_all is_plain text ≡ true
look_plain text behind mode size address st ea =
    let letters = numeral_letters 16 behind address (omega arith) (sym ea) in
    ap (list_all is_plain) st.3 ∙ start_plain st.0 st.1 st.2 behind st.6 st.7 (mark_letter st.2 st.8)
    (ap (list_all is_plain) (sym (append-nil behind)) ∙ letters_plain behind [] letters refl)

-- a store, its address before the blank
pub store_words : (text address digits : List ℕ) (mode : Mode) (size at : ℕ) (value : ℕ) (access : Access)
    → Starts text mode size (address ++ 32 ∷ 48 ∷ 120 ∷ digits) → Some at ≡ numeral_of 16 address → Some value ≡ numeral_of 16 digits
    → Some access ≡ sized mode Kind.Store size at (has_size Kind.Store size) refl
    → access_of Kind.Store (split_words text) ≡ Some (access, (48 ∷ 120 ∷ digits) ∷ [])
store_words text address digits mode size at value access st ea ev is =
    let letters = numeral_letters 16 address at (omega arith) (sym ea) in
    let also = numeral_letters 16 digits value (omega arith) (sym ev) in
    let words : split_words (48 ∷ st.2 ∷ (address ++ 32 ∷ 48 ∷ 120 ∷ digits)) ≡ (48 ∷ st.2 ∷ address) ∷ (48 ∷ 120 ∷ digits) ∷ [] =
    letters_split 48 (st.2 ∷ address) (48 ∷ 120 ∷ digits) (address_word st.2 address (mark_letter st.2 st.8) letters)
    ∙ ap (λ ws. (48 ∷ st.2 ∷ address) ∷ ws) (letters_last 48 (120 ∷ digits) (address_word 120 digits refl also)) in
    ap (access_of Kind.Store) (ap split_words st.3 ∙ start_words st.0 st.1 st.2 (address ++ 32 ∷ 48 ∷ 120 ∷ digits) st.6 st.7
    ∙ ap (λ ws. (st.0 ∷ []) ∷ (st.1 ∷ []) ∷ ws) words)
    ∙ access_said Kind.Store (st.0 ∷ []) (st.1 ∷ []) (48 ∷ st.2 ∷ address) ((48 ∷ 120 ∷ digits) ∷ []) mode size at access st.4 st.5
    (mark_number st.2 address at st.8 ea) is

pub store_plain : (text address digits : List ℕ) (mode : Mode) (size at : ℕ) (value : ℕ) → Starts text mode size (address ++ 32 ∷ 48 ∷ 120 ∷ digits)
    → Some at ≡ numeral_of 16 address → Some value ≡ numeral_of 16 digits → list_all is_plain text ≡ true
store_plain text address digits mode size at value st ea ev =
    let letters = numeral_letters 16 address at (omega arith) (sym ea) in
    let also = numeral_letters 16 digits value (omega arith) (sym ev) in
    let last : list_all is_plain digits ≡ true = ap (list_all is_plain) (sym (append-nil digits)) ∙ letters_plain digits [] also refl in
    ap (list_all is_plain) st.3 ∙ start_plain st.0 st.1 st.2 (address ++ 32 ∷ 48 ∷ 120 ∷ digits) st.6 st.7 (mark_letter st.2 st.8)
    (letters_plain address (32 ∷ 48 ∷ 120 ∷ digits) letters last)

one_more : (n : ℕ) → 1 + n ≡ suc n
one_more n = omega arith

-- a plain line that begins with a word of letters that names no hart
pub line_says : (b : ℕ) (word rest : List ℕ) (event : Event) (harts : ℕ) → list_all is_letter (b ∷ word) ≡ true → list_all is_plain rest ≡ true
    → hart_of harts (b ∷ word) ≡ None → event_of ((b ∷ word) ∷ split_words rest) ≡ Some event
    → meaning_of harts ((b ∷ word) ++ 32 ∷ rest) ≡ Some (Some (0, event))
line_says b word rest event harts letters plain none is =
    let line = (b ∷ word) ++ 32 ∷ rest in
    let all : list_all is_plain line ≡ true = letters_plain (b ∷ word) (32 ∷ rest) letters plain in
    let content : content_of line ≡ line = plain_content line all in
    let words : words_of line ≡ Some ((b ∷ word) ∷ split_words rest) = rw (content, plain_allowed line all)
    (ap (λ ws. Some ws) (letters_split b word rest letters)) in
    rw (words, none, is) refl

-- a plain line is that access
pub look_says : (kind : Kind) (rest : List ℕ) (access : Access) (harts : ℕ) → (kind ≡ Kind.Fetch) ⊎ (kind ≡ Kind.Load) → list_all is_plain rest ≡ true
    → access_of kind (split_words rest) ≡ Some (access, []) → meaning_of harts (keyword kind ++ 32 ∷ rest) ≡ Some (Some (0, events.Access access 0))
look_says Kind.Load rest access harts other plain e = line_says 108 (111 ∷ 97 ∷ 100 ∷ []) rest (events.Access access 0) harts refl plain refl (rw e refl)
look_says Kind.Fetch rest access harts other plain e = line_says 102 (101 ∷ 116 ∷ 99 ∷ 104 ∷ []) rest (events.Access access 0) harts refl plain refl (rw e refl)
look_says Kind.Store rest access harts (inl f) plain e = cc
look_says Kind.Store rest access harts (inr f) plain e = cc

pub store_says : (rest : List ℕ) (access : Access) (word : List ℕ) (value : ℕ) (harts : ℕ) → list_all is_plain rest ≡ true
    → access_of Kind.Store (split_words rest) ≡ Some (access, word ∷ []) → number_of word ≡ Some value
    → meaning_of harts (keyword Kind.Store ++ 32 ∷ rest) ≡ Some (Some (0, events.Access access value))
store_says rest access word value harts plain e f = line_says 115 (116 ∷ 111 ∷ 114 ∷ 101 ∷ []) rest (events.Access access value) harts refl plain refl
    (rw (e, f) refl)

-- the address of a store stands before a blank
pub cut : (text behind rest digits : List ℕ) (mode : Mode) (size address : ℕ) → Starts text mode size behind → (h : BeginsNumeral 16 behind address rest)
    → rest ≡ 32 ∷ 48 ∷ 120 ∷ digits → Starts text mode size (h.digits ++ 32 ∷ 48 ∷ 120 ∷ digits)
cut text behind rest digits mode size address st h e =
    let whole : behind ≡ h.digits ++ 32 ∷ 48 ∷ 120 ∷ digits = h.parts ∙ ap (λ xs. h.digits ++ xs) e in
    (st.0, st.1, st.2, st.3 ∙ ap (λ xs. st.0 ∷ 32 ∷ st.1 ∷ 32 ∷ 48 ∷ st.2 ∷ xs) whole, st.4, st.5, st.6, st.7, st.8)

-- no word names a hart where there is none
pub no_hart : (word : List ℕ) → hart_of 0 word ≡ None
no_hart [] = refl
no_hart (at ∷ []) = refl
no_hart (at ∷ digit ∷ []) = grind (arith, nat_tests, common_steps)
no_hart (at ∷ digit ∷ b ∷ word) = refl

only_event : (event : Event) (found : Option Event) → option_map {U = Option (ℕ × Event)} Some (option_map {U = ℕ × Event} (λ e. (0, e)) found) ≡ Some
    (Some (0, event)) → found ≡ Some event
only_event event None h = cc
only_event event (Some e) h = ap (λ (p : ℕ × Event). Some p.1) (same_Some _ _ (same_Some _ _ h))

said_event : (event : Event) (words : List (List ℕ)) → said_by 0 words ≡ Some (Some (0, event)) → event_of words ≡ Some event
said_event event [] h = cc
said_event event (word ∷ words) h = only_event event (event_of (word ∷ words)) (rw (no_hart word) at h)

pub hart_letters : (harts digit hart : ℕ) → hart_of harts (64 ∷ digit ∷ []) ≡ Some hart → list_all is_letter (64 ∷ digit ∷ []) ≡ true
hart_letters harts digit hart h = grind (arith, nat_tests, common_steps, h)

one_plain : (b : ℕ) (line : List ℕ) → is_plain b ≡ true → content_of (b ∷ line) ≡ b ∷ content_of line
one_plain b line h =
    let no : (b == 35) ≡ false = grind (arith, nat_tests, common_steps, (and_parts (is_allowed b) (not (b == 35)) h).1) in
    rw (no, one_more (position_or_len (λ c. c == 35) line)) refl

-- the words after a hart's name
words_behind : (digit : ℕ) (rest : List ℕ) (words : List (List ℕ)) → list_all is_letter (64 ∷ digit ∷ []) ≡ true → words_of rest ≡ Some words
    → words_of (64 ∷ digit ∷ 32 ∷ rest) ≡ Some ((64 ∷ digit ∷ []) ∷ words)
words_behind digit rest words letters e =
    let name = (and_parts (is_letter digit) true (and_parts (is_letter 64) (is_letter digit && true) letters).1).0 in
    let plain = (and_parts (is_plain digit) (not (is_blank digit)) name).0 in
    let content : content_of (64 ∷ digit ∷ 32 ∷ rest) ≡ 64 ∷ digit ∷ 32 ∷ content_of rest =
    one_plain 64 (digit ∷ 32 ∷ rest) refl ∙ ap (λ xs. 64 ∷ xs) (one_plain digit (32 ∷ rest) plain ∙ ap (λ xs. digit ∷ xs) (one_plain 32 rest refl)) in
    rw content (by_test (list_all is_allowed (content_of rest)) refl e)
  where
    by_test : (t : Bool) → list_all is_allowed (content_of rest) ≡ t → cond t (Some (split_words (content_of rest))) None ≡ Some words
        → cond (list_all is_allowed (64 ∷ digit ∷ 32 ∷ content_of rest)) (Some (split_words (64 ∷ digit ∷ 32 ∷ content_of rest))) None ≡ Some
        ((64 ∷ digit ∷ []) ∷ words)
    by_test true all h =
        let same : split_words (content_of rest) ≡ words = cc in
        let name = (and_parts (is_letter digit) true (and_parts (is_letter 64) (is_letter digit && true) letters).1).0 in
        let allowed = (and_parts (is_allowed digit) (not (digit == 35)) (and_parts (is_plain digit) (not (is_blank digit)) name).0).0 in
        let fits : list_all is_allowed (64 ∷ digit ∷ 32 ∷ content_of rest) ≡ true = and_from _ _ allowed all in
        rw fits (ap Some (letters_split 64 (digit ∷ []) (content_of rest) letters ∙ ap (λ ws. (64 ∷ digit ∷ []) ∷ ws) same))
    by_test false all h = cc

-- what a plain line says happens on the hart that stands before it
pub hart_says : (harts digit hart : ℕ) (rest : List ℕ) (event : Event) → hart_of harts (64 ∷ digit ∷ []) ≡ Some hart
    → meaning_of 0 rest ≡ Some (Some (0, event)) → meaning_of harts (64 ∷ digit ∷ 32 ∷ rest) ≡ Some (Some (hart, event))
hart_says harts digit hart rest event named says = by_words (words_of rest) refl says
  where
    by_words : (found : Option (List (List ℕ))) → words_of rest ≡ found → found >>= said_by 0 ≡ Some (Some (0, event))
        → meaning_of harts (64 ∷ digit ∷ 32 ∷ rest) ≡ Some (Some (hart, event))
    by_words None e h = cc
    by_words (Some words) e h =
        let is : event_of words ≡ Some event = said_event event words h in
        let split = words_behind digit rest words (hart_letters harts digit hart named) e in
        rw (split, named, is) refl
