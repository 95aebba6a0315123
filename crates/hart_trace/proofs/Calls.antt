-- The words of a call, read one after another.
use Rattle.std.proofs.Common.{ℕ, List, [], ◌∷◌, ◌++◌, ◌≡◌, ◌∙◌, ◌+◌, ◌≤◌, length, length-append, true, suc, ◌<◌, ◌-◌, replicate, Option, None, Some, option_map, refl, ap, sym, nat_le}
use Rattle.std.proofs.Common.{arith, append-nil, append_assoc}
use Rattle.std.proofs.lemmas.Bool.{le-leb}
use Rattle.hart_trace.specs.declared.event.Event.TheVariants as events
use Rattle.text_lines.specs.Numbers.{number_of}
use Rattle.hart_trace.specs.declared.fault.Slot.TheVariants.{Argument}
use Rattle.hart_trace.specs.Events.{numbers_of, call_in}

-- all words have been read
pub all_read : (words rest : List (List ℕ)) (numbers : List ℕ) → rest ≡ [] → length numbers ≤ 8
    → option_map (λ ns. numbers ++ ns) (numbers_of rest) ≡ numbers_of words → length numbers + length rest ≡ length words
    → Some (events.Ecall (record { items = numbers })) ≡ call_in words
all_read words rest numbers end few told count =
    let told = rw (end, append-nil) at told in
    let count = rw end at count in
    let few : nat_le (length words) 8 ≡ true = le-leb (length words) 8 (omega arith) in
    rw (few, ← told) refl

-- one more has been read
pub one_read : (word : List ℕ) (words all : List (List ℕ)) (numbers more : List ℕ) (n : ℕ) → number_of word ≡ Some n → more ≡ numbers ++ n ∷ []
    → option_map (λ ns. numbers ++ ns) (numbers_of (word ∷ words)) ≡ numbers_of all → length numbers + length (word ∷ words) ≡ length all
    → (option_map (λ ns. more ++ ns) (numbers_of words) ≡ numbers_of all) × (length more + length words ≡ length all)
one_read word words all numbers more n is pushed told count = (
  behind (numbers_of words) refl,
  omega
      (arith, count, ap length pushed, length-append numbers (n ∷ [])),
)
  where
    behind : (rest : Option (List ℕ)) → numbers_of words ≡ rest → option_map (λ ns. more ++ ns) (numbers_of words) ≡ numbers_of all
    behind None e = rw e (sym (sym told ∙ rw (is, e) refl))
    behind (Some ns) e =
        let whole : numbers_of all ≡ Some (numbers ++ n ∷ ns) = sym told ∙ rw (is, e) refl in
        rw e (ap Some (ap (λ xs. xs ++ ns) pushed ∙ append_assoc numbers (n ∷ []) ns) ∙ sym whole)

-- how many words a call may have more, as what is asked of them
pub one_argument : (n : ℕ) → n < 8 → replicate (8 - n) Argument ≡ Argument ∷ replicate (8 - (n + 1)) Argument
one_argument n less = let more : 8 - n ≡ suc (8 - (n + 1)) = omega (arith, less) in rw more refl
