-- Plain lines of settings and calls say what the grammar of traces says.
use Rattle.std.proofs.Common.{◌≡◌, ◌∙◌, ℕ, ◌<◌, ◌≤◌, true, false, ◌&&◌, ◌||◌, ◌+◌, List, [], ◌∷◌, ◌++◌, length, Option, None, Some, option_map, refl, ap, sym}
use Rattle.std.proofs.Common.{arith, append-nil, append_assoc}
use Rattle.std.specs.Prelude.{◌==◌, nat_lt}
use Rattle.std.specs.List.{list_all}
use Rattle.std.proofs.lemmas.Bool.{and_parts, and_from, and_right, cond-false, lt-ltb}
use Rattle.std.proofs.lemmas.Bool.Decides.{nat_tests}
use Rattle.std.proofs.lemmas.Grind.{common_steps}
use Rattle.arrayvec.specs.declared.array_vec.ArrayVec.{ArrayVec}
use Rattle.text_lines.specs.Words.{is_plain, split_words}
use Rattle.text_lines.specs.Numbers.{BeginsNumeral, digit_of, numeral_of, number_of}
use Rattle.hart_trace.specs.declared.event.Event.TheVariants as events
use Rattle.hart_trace.specs.declared.event.Event.{Event}
use Rattle.hart_trace.specs.Events.{call_in, has_leading_zero, meaning_of, numbers_of, register_of, setting_of}
use Rattle.hart_trace.specs.Plain.{BeginsCall, BeginsEvent, BeginsNumber, is_letter, is_mark}
use Rattle.hart_trace.proofs.Calls.{all_read, one_read}
use Rattle.hart_trace.proofs.PlainLines.{address_word, letters_last, letters_plain, letters_split, line_says, mark_number, numeral_digits, numeral_letters}

no_mark : (b : ℕ) → nat_lt (digit_of b) 10 ≡ true → is_mark b ≡ false
no_mark b h = grind (arith, nat_tests, common_steps, h)

-- decimal digits are a number as they stand
ten_number : (digits : List ℕ) (value : ℕ) → numeral_of 10 digits ≡ Some value → number_of digits ≡ Some value
ten_number [] value h = cc
ten_number (a ∷ []) value h = h
ten_number (a ∷ b ∷ digits) value h =
    let all = numeral_digits 10 (a ∷ b ∷ digits) value h in
    let behind = (and_parts (nat_lt (digit_of a) 10) (list_all (λ x. nat_lt (digit_of x) 10) (b ∷ digits)) all).1 in
    let second = (and_parts (nat_lt (digit_of b) 10) (list_all (λ x. nat_lt (digit_of x) 10) digits) behind).0 in
    cond-false (a == 48 && (b == 120 || b == 88)) (numeral_of 16 digits) (numeral_of 10 (a ∷ b ∷ digits)) (and_right (a == 48) (is_mark b) (no_mark b second))
    ∙ h

no_digits : (value : ℕ) → numeral_of 10 [] ≡ Some value → ⊥
no_digits value h = cc

-- the number that a text begins with
pub spelled_hexadecimal : (text digits rest : List ℕ) (value : ℕ) → text ≡ 48 ∷ 120 ∷ digits → BeginsNumeral 16 digits value rest → BeginsNumber text value rest
spelled_hexadecimal text digits rest value is h = (
  48,
  120 ∷ h.digits,
  is ∙ ap (λ xs. 48 ∷ 120 ∷ xs) h.parts,
  address_word 120 h.digits refl (numeral_letters 16 h.digits value (omega arith) h.value_is),
  mark_number 120 h.digits value refl (sym h.value_is),
)

pub spelled_decimal : (text rest : List ℕ) (value : ℕ) → BeginsNumeral 10 text value rest → BeginsNumber text value rest
spelled_decimal text rest value h = by_digits h.digits h.parts h.value_is
  where
    by_digits : (digits : List ℕ) → text ≡ digits ++ rest → numeral_of 10 digits ≡ Some value → BeginsNumber text value rest
    by_digits [] parts is = absurd (no_digits value is)
    by_digits (b ∷ word) parts is = (b, word, parts, numeral_letters 10 (b ∷ word) value (omega arith) is, ten_number (b ∷ word) value is)

-- digits before others begin with no zero where all of them do not
no_zero : (digits rest : List ℕ) → has_leading_zero (digits ++ rest) ≡ false → has_leading_zero digits ≡ false
no_zero [] rest h = refl
no_zero (a ∷ []) rest h = refl
no_zero (a ∷ b ∷ digits) rest h = h

-- the register that a text names before a space
pub register_begins : (text all behind rest : List ℕ) (n : ℕ) → text ≡ 120 ∷ all → BeginsNumeral 10 all n behind → behind ≡ 32 ∷ rest
    → has_leading_zero all ≡ false → n < 32
    → (digits : List ℕ) × (text ≡ (120 ∷ digits) ++ 32 ∷ rest) × (list_all is_letter digits ≡ true) × (register_of (120 ∷ digits) ≡ Some n)
register_begins text all behind rest n is h space first few =
    let zero : has_leading_zero h.digits ≡ false = no_zero h.digits behind (ap has_leading_zero (sym h.parts) ∙ first) in
    let small : nat_lt n 32 ≡ true = lt-ltb n 32 few in (
      h.digits,
      is ∙ ap (λ xs. 120 ∷ xs) (h.parts ∙ ap (λ xs. h.digits ++ xs) space),
      numeral_letters 10 h.digits n (omega arith) h.value_is,
      rw (h.value_is, zero, small) refl,
    )

-- the word of a number that ends a text
last_word : (b : ℕ) (word text end : List ℕ) → text ≡ (b ∷ word) ++ end → length end ≡ 0 → text ≡ b ∷ word
last_word b word text [] is none = is ∙ append-nil (b ∷ word)
last_word b word text (x ∷ end) is none = absurd (omega (arith, none))

-- the last number of a text
number_ends : (text end : List ℕ) (value : ℕ) (h : BeginsNumber text value end) → length end ≡ 0
    → (split_words text ≡ (h.0 ∷ h.1) ∷ []) × (list_all is_plain text ≡ true)
number_ends text end value h none =
    let is = last_word h.0 h.1 text end h.2 none in (
      ap split_words is ∙ letters_last h.0 h.1 h.3,
      ap (list_all is_plain) (is ∙ sym (append-nil (h.0 ∷ h.1))) ∙ letters_plain (h.0 ∷ h.1) [] h.3 refl,
    )

-- a register and its value
setting_said : (text rest end digits : List ℕ) (n value : ℕ) → text ≡ (120 ∷ digits) ++ 32 ∷ rest → list_all is_letter digits ≡ true
    → register_of (120 ∷ digits) ≡ Some n → BeginsNumber rest value end → length end ≡ 0
    → (setting_of (split_words text) ≡ Some (events.Reg n value)) × (list_all is_plain text ≡ true)
setting_said text rest end digits n value is letters named h none =
    let ends = number_ends rest end value h none in
    let name : list_all is_letter (120 ∷ digits) ≡ true = and_from _ _ refl letters in
    let words : split_words text ≡ (120 ∷ digits) ∷ (h.0 ∷ h.1) ∷ [] = ap split_words is ∙ letters_split 120 digits rest name
    ∙ ap (λ ws. (120 ∷ digits) ∷ ws) ends.0 in (
      rw (words, named, h.4) refl,
      ap (list_all is_plain) is ∙ letters_plain (120 ∷ digits) (32 ∷ rest) name ends.1,
    )

-- the line of a setting, and that of a call
setting_says : (rest : List ℕ) (event : Event) (harts : ℕ) → list_all is_plain rest ≡ true → setting_of (split_words rest) ≡ Some event
    → meaning_of harts (114 ∷ 101 ∷ 103 ∷ 32 ∷ rest) ≡ Some (Some (0, event))
setting_says rest event harts plain is = line_says 114 (101 ∷ 103 ∷ []) rest event harts refl plain refl is

call_says : (rest : List ℕ) (event : Event) (harts : ℕ) → list_all is_plain rest ≡ true → call_in (split_words rest) ≡ Some event
    → meaning_of harts (101 ∷ 99 ∷ 97 ∷ 108 ∷ 108 ∷ 32 ∷ rest) ≡ Some (Some (0, event))
call_says rest event harts plain is = line_says 101 (99 ∷ 97 ∷ 108 ∷ 108 ∷ []) rest event harts refl plain refl is

-- a register and its value before the end of a line
pub setting_event : (text rest behind end digits : List ℕ) (n value : ℕ) → text ≡ 114 ∷ 101 ∷ 103 ∷ 32 ∷ rest → rest ≡ (120 ∷ digits) ++ 32 ∷ behind
    → list_all is_letter digits ≡ true → register_of (120 ∷ digits) ≡ Some n → BeginsNumber behind value end → BeginsEvent text (events.Reg n value) end
setting_event text rest behind end digits n value starts is letters named h =
    let word = h.0 ∷ h.1 in
    let spelled = (120 ∷ digits) ++ 32 ∷ word in
    let said = setting_said spelled word [] digits n value refl letters named (h.0, h.1, sym (append-nil word), h.3, h.4) refl in
    let parts : rest ≡ spelled ++ end = is ∙ ap (λ xs. (120 ∷ digits) ++ 32 ∷ xs) h.2 ∙ sym (append_assoc (120 ∷ digits) (32 ∷ word) end) in
    record {
      line = 114 ∷ 101 ∷ 103 ∷ 32 ∷ spelled;
      parts = starts ∙ ap (λ xs. 114 ∷ 101 ∷ 103 ∷ 32 ∷ xs) parts;
      plain = letters_plain (114 ∷ 101 ∷ 103 ∷ []) (32 ∷ spelled) refl said.1;
      said = λ harts. setting_says spelled (events.Reg n value) harts said.1 said.0;
    }

pub call_event : (text rest behind : List ℕ) (event : Event) → text ≡ 101 ∷ 99 ∷ 97 ∷ 108 ∷ 108 ∷ 32 ∷ rest → BeginsCall rest event behind
    → BeginsEvent text event behind
call_event text rest behind event starts call = record {
  line = 101 ∷ 99 ∷ 97 ∷ 108 ∷ 108 ∷ 32 ∷ call.spelled;
  parts = starts ∙ ap (λ xs. 101 ∷ 99 ∷ 97 ∷ 108 ∷ 108 ∷ 32 ∷ xs) call.parts;
  plain = letters_plain (101 ∷ 99 ∷ 97 ∷ 108 ∷ 108 ∷ []) (32 ∷ call.spelled) refl call.plain;
  said = λ harts. call_says call.spelled event harts call.plain call.said;
}

pub irq_event : (text behind : List ℕ) → text ≡ 105 ∷ 114 ∷ 113 ∷ behind → BeginsEvent text events.Irq behind
irq_event text behind is = record { line = 105 ∷ 114 ∷ 113 ∷ []; parts = is; plain = refl; said = λ harts. refl }

-- the words of a call that were read, before those that are left
pub record Read (text left front : List ℕ) (numbers : List ℕ) : Type 0 where
  pub parts : text ≡ front ++ left
  pub told : (t : List ℕ) → option_map (λ ns. numbers ++ ns) (numbers_of (split_words t)) ≡ numbers_of (split_words (front ++ t))
  pub count : (t : List ℕ) → length numbers + length (split_words t) ≡ length (split_words (front ++ t))
  pub plain : (t : List ℕ) → list_all is_plain t ≡ true → list_all is_plain (front ++ t) ≡ true

pub none_read : (text : List ℕ) → Read text text [] []
none_read text = record { parts = refl; told = λ t. same (numbers_of (split_words t)); count = λ t. omega arith; plain = λ t h. h }
  where
    same : (found : Option (List ℕ)) → option_map (λ ns. [] ++ ns) found ≡ found
    same None = refl
    same (Some ns) = refl

-- one more, and a space
pub more_read : (text left behind next front numbers more : List ℕ) (value : ℕ) → Read text left front numbers → (h : BeginsNumber left value behind)
    → behind ≡ 32 ∷ next → more ≡ numbers ++ value ∷ [] → (longer : List ℕ) × Read text next longer more
more_read text left behind next front numbers more value read h space pushed =
    let word = h.0 ∷ h.1 in
    let longer = front ++ (word ++ 32 ∷ []) in
    let same : (t : List ℕ) → longer ++ t ≡ front ++ (word ++ 32 ∷ t) = λ t. append_assoc front (word ++ 32 ∷ []) t
    ∙ ap (λ xs. front ++ xs) (append_assoc word (32 ∷ []) t) in
    let split : (t : List ℕ) → split_words (word ++ 32 ∷ t) ≡ word ∷ split_words t = λ t. letters_split h.0 h.1 t h.3 in
    let each = λ (t : List ℕ). one_read word (split_words t) (split_words (front ++ (word ++ 32 ∷ t))) numbers more value h.4 pushed
    (ap (λ ws. option_map (λ ns. numbers ++ ns) (numbers_of ws)) (sym (split t)) ∙ read.told (word ++ 32 ∷ t))
    (ap (λ ws. length numbers + length ws) (sym (split t)) ∙ read.count (word ++ 32 ∷ t)) in (
      longer,
      record {
        parts = read.parts ∙ ap (λ xs. front ++ xs) (h.2 ∙ ap (λ xs. word ++ xs) space) ∙ sym (same next);
        told = λ t. (each t).0 ∙ ap (λ xs. numbers_of (split_words xs)) (sym (same t));
        count = λ t. (each t).1 ∙ ap (λ xs. length (split_words xs)) (sym (same t));
        plain = λ t plain. ap (list_all is_plain) (same t) ∙ read.plain (word ++ 32 ∷ t) (letters_plain word (32 ∷ t) h.3 plain);
      },
    )

-- the last one
pub last_read : (text left behind front numbers : List ℕ) (more : ArrayVec ℕ 8 (Unit {0})) (value : ℕ) → Read text left front numbers
    → (h : BeginsNumber left value behind) → more.items ≡ numbers ++ value ∷ [] → length more.items ≤ 8 → BeginsCall text (events.Ecall more) behind
last_read text left behind front numbers more value read h pushed few =
    let word = h.0 ∷ h.1 in
    let split : split_words word ≡ word ∷ [] = letters_last h.0 h.1 h.3 in
    let all = one_read word [] (split_words (front ++ word)) numbers more.items value h.4 pushed
    (ap (λ ws. option_map (λ ns. numbers ++ ns) (numbers_of ws)) (sym split) ∙ read.told word)
    (ap (λ ws. length numbers + length ws) (sym split) ∙ read.count word) in
    record {
      spelled = front ++ word;
      parts = read.parts ∙ ap (λ xs. front ++ xs) h.2 ∙ sym (append_assoc front word behind);
      plain = read.plain word (ap (list_all is_plain) (sym (append-nil word)) ∙ letters_plain word [] h.3 refl);
      said = sym (all_read (split_words (front ++ word)) [] more.items refl few all.0 all.1);
    }
