-- The first line of a text, and the lines after it.
use Rattle.std.proofs.Common.{ℕ, zero, suc, inl, inr, ◌≡◌, ◌∙◌, ◌+◌, ◌<◌, ◌≤◌, length, true, false, not, List, [], ◌∷◌, ◌++◌, Option, take, ap, sym, refl}
use Rattle.std.proofs.Common.{arith, append_assoc, append-nil, length-append}
use Rattle.std.specs.Prelude.{◌==◌, Ok, Err, Some, None}
use Rattle.std.specs.Io.KnownBytes.{Consumes}
use Rattle.std.proofs.lemmas.Bool.{and_parts, not-true}
use Rattle.std.proofs.lemmas.List.{take-append-le}
use Rattle.text_lines.specs.Lines.{has_no_end}
use Rattle.text_lines.specs.declared.lines.LineReader.{LineReader}
use Rattle.text_lines.specs.declared.fault.ReadFault.TheVariants.{LongLine}
use Rattle.text_lines.specs.LineReaders.{came_of, pending_of, Hands, NextLine}
use Rattle.text_lines.specs.WholeTexts.{left_of, HandsFirst, NextOf}
use Rattle.text_lines.specs.Lines.{begun, is_lf, raw_lines}

-- a line before its LF is the first, and after it stand the others
ended_first : (line rest : List ℕ) → has_no_end line ≡ true → raw_lines (line ++ 10 ∷ rest) ≡ line ∷ raw_lines rest
ended_first [] rest h = refl
ended_first (b ∷ line) rest h =
    let both = and_parts (not (b == 10)) (has_no_end line) h in
    let other : is_lf b ≡ false = not-true (b == 10) both.0 in
    rw other (ap (begun b) (ended_first line rest both.1))

-- a text with no LF is one line
last_first : (line : List ℕ) → 0 < length line → has_no_end line ≡ true → raw_lines line ≡ line ∷ []
last_first [] some h = absurd (omega (arith, some))
last_first (b ∷ []) some h =
    let other : is_lf b ≡ false = not-true (b == 10) (and_parts (not (b == 10)) true h).0 in
    rw other refl
last_first (b ∷ c ∷ line) some h =
    let both = and_parts (not (b == 10)) (has_no_end (c ∷ line)) h in
    let other : is_lf b ≡ false = not-true (b == 10) both.0 in
    rw other (ap (begun b) (last_first (c ∷ line) (omega arith) both.1))

-- the first line has at least so many bytes
abbrev IsLong : ℕ → List (List ℕ) → Type 0
IsLong n [] = n ≡ 0
IsLong n (line ∷ lines) = n ≤ length line

longer : (b n : ℕ) (lines : List (List ℕ)) → IsLong n lines → IsLong (suc n) (begun b lines)
longer b n [] h = omega (arith, h)
longer b n (line ∷ lines) h = omega (arith, h)

long_first : (n : ℕ) (bytes : List ℕ) → n ≤ length bytes → has_no_end (take n bytes) ≡ true → IsLong n (raw_lines bytes)
long_first zero [] few h = refl
long_first zero (b ∷ bytes) few h = least (raw_lines (b ∷ bytes))
  where
    least : (lines : List (List ℕ)) → IsLong 0 lines
    least [] = refl
    least (line ∷ lines) = omega arith
long_first (suc n) [] few h = absurd (omega (arith, few))
long_first (suc n) (b ∷ bytes) few h =
    let both = and_parts (not (b == 10)) (has_no_end (take n bytes)) h in
    let other : is_lf b ≡ false = not-true (b == 10) both.0 in
    rw other (longer b n (raw_lines bytes) (long_first n bytes (omega (arith, few)) both.1))

first_of : (lines : List (List ℕ)) → IsLong 1024 lines → (raw : List ℕ) × (rest : List (List ℕ)) × (lines ≡ raw ∷ rest) × (1024 ≤ length raw)
first_of [] h = absurd (omega (arith, h))
first_of (line ∷ lines) h = (line, lines, refl, h)

-- what was left, by what came and what is after it
left_as : {size : ℕ} (old : LineReader size) (before bytes middle : List ℕ) → before ≡ bytes ++ middle
    → left_of old before ≡ (pending_of old ++ bytes) ++ middle
left_as old before bytes middle e = ap (λ xs. pending_of old ++ xs) e ∙ sym (append_assoc (pending_of old) bytes middle)

handed : {size : ℕ} (old new : LineReader size) (before after bytes line : List ℕ) → before ≡ bytes ++ after
    → Hands old new (pending_of old ++ bytes) (Some after) line → HandsFirst old new before after line
handed old new before after bytes line e h = elim h.ends [
  | inl p ↦ let left : left_of old before ≡ line ++ 10 ∷ left_of new after = left_as old before bytes after e ∙ ap (λ xs. xs ++ after) p.0
      ∙ append_assoc line (10 ∷ pending_of new) after in record {
        lines = ap raw_lines left ∙ ended_first line (left_of new after) h.short.0;
        shorter = omega (arith, ap length left, length-append line (10 ∷ left_of new after));
        short = h.short;
        text = h.text;
        number = h.number;
      }
  | inr p ↦ let left : left_of old before ≡ line = left_as old before bytes after e ∙ ap (λ xs. xs ++ after) p.1 ∙ ap (λ xs. line ++ xs) p.3
      ∙ append-nil line in
      let none : left_of new after ≡ [] = ap (λ xs. xs ++ after) p.2 ∙ p.3 in record {
        lines = ap raw_lines left ∙ last_first line p.0 h.short.0 ∙ ap (λ xs. line ∷ raw_lines xs) (sym none);
        shorter = omega (arith, ap length left, ap length none, p.0);
        short = h.short;
        text = h.text;
        number = h.number;
      }
]

-- what came left the text, and nothing more did
came_from : (before after : List ℕ) (bytes beyond : List ℕ) (middle : Option (List ℕ)) → Consumes (Some before) middle bytes
    → Consumes middle (Some after) beyond → beyond ≡ [] → before ≡ bytes ++ after
came_from before after bytes beyond None a b e = absurd a
came_from before after bytes beyond (Some rest) a b e = a ∙ ap (λ xs. bytes ++ xs) (b ∙ ap (λ xs. xs ++ after) e)

pub handed_next : {size : ℕ} (old new : LineReader size) (before after : List ℕ) → NextLine (Ok true) old new (Some before) (Some after)
    → NextOf (Ok true) old new before after
handed_next old new before after n = (n.6.0, handed old new before after n.0 n.6.0 (came_from before after n.0 n.1 n.2 n.3.consumed n.4 n.5) n.6.1)

pub none_next : {size : ℕ} (old new : LineReader size) (before after : List ℕ) → NextLine (Ok false) old new (Some before) (Some after)
    → NextOf (Ok false) old new before after
none_next old new before after n =
    left_as old before n.0 after (came_from before after n.0 n.1 n.2 n.3.consumed n.4 n.5) ∙ ap (λ xs. xs ++ after) n.6.0 ∙ n.6.1

pub long_next : {size : ℕ} (n : ℕ) (old new : LineReader size) (before after : List ℕ) → NextLine (Err (LongLine n)) old new (Some before) (Some after)
    → NextOf (Err n) old new before after
long_next m old new before after n =
    let bytes = pending_of old ++ n.0 in
    let left = left_as old before n.0 after (came_from before after n.0 n.1 n.2 n.3.consumed n.4 n.5) in
    let enough : 1024 ≤ length (bytes ++ after) = omega (arith, n.6.1.0, length-append bytes after) in
    let first = first_of (raw_lines (bytes ++ after)) (long_first 1024 (bytes ++ after) enough
    (ap has_no_end (take-append-le 1024 bytes after n.6.1.0) ∙ n.6.1.1)) in
    (first.0, first.1, record { lines = ap raw_lines left ∙ first.2; long = first.3; number = n.6.0 })

-- how many came and how many are left
pub counted : {size : ℕ} (old new : LineReader size) (before after : List ℕ) (bytes beyond : List ℕ) (middle : Option (List ℕ))
    → Consumes (Some before) middle bytes → Consumes middle (Some after) beyond → beyond ≡ [] → came_of new ≡ came_of old + length bytes
    → came_of new + length after ≡ came_of old + length before
counted old new before after bytes beyond middle a b e n = omega (
  arith,
  n,
  ap length
      (came_from before after bytes beyond middle a b e),
  length-append bytes after,
)
