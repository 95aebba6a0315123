-- How a reader of lines comes to its answer.
use Rattle.std.proofs.Common.{◌≡◌, ◌⊎◌, inl, inr, ℕ, ◌+◌, ◌<◌, ◌≤◌, ◌∙◌, Bool, true, false, not, List, [], ◌∷◌, ◌++◌, length, take, drop, get_or, take_all}
use Rattle.std.proofs.Common.{zero, suc, cond, ◌&&◌, Option, refl, ap, sym, min, arith, length-append, length-drop, length-take, length-take-le, take-take}
use Rattle.std.proofs.Common.{take-append-drop, append_assoc, append-nil, ◌-◌, ⊎_elim}
use Rattle.std.specs.Prelude.{◌==◌, Ok, Err}
use Rattle.std.specs.List.{list_all, prefix_len, position_or_len, before_first, after_first}
use Rattle.std.specs.Io.KnownBytes.{Consumes}
use Rattle.std.proofs.KnownBytes.{Consumes-trans, Consumes-nil}
use Rattle.std.proofs.Math.Nat.{min_comm, min-le_left}
use Rattle.std.proofs.Math.Seq.{drop-append-add}
use Rattle.std.proofs.lemmas.List.{drop_all, take_min}
use Rattle.std.proofs.lemmas.List.Sums.{prefix_len_stops, split_at_first}
use Rattle.std.proofs.lemmas.List.Folds.{list_all-append}
use Rattle.std.proofs.lemmas.Bool.{and_parts, and_from, cases_lt, eqb-true, not-false, ltb-false}
use Rattle.text_lines.specs.declared.fault.ReadFault.{ReadFault}
use Rattle.text_lines.specs.declared.fault.ReadFault.TheVariants.{LongLine, TooManyBytes, Device}
use Rattle.text_lines.specs.declared.lines.LineReader.{LineReader}
use Rattle.text_lines.specs.Lines.{has_no_end, BeginsLine, IsShortLine, BeginsLongLine, without_return}
use Rattle.text_lines.specs.LineReaders.{line_of, pending_of, number_of, came_of, ended_of, Came, Hands, Holds, NextLine, ReadsMore}

-- the bytes that have come since the last line stand after those that were there
pub record Gathers {size : ℕ} (old now : LineReader size) (before after : Option (List ℕ)) (bytes : List ℕ) : Type 0 where
  pub consumed : Consumes before after bytes
  pub held : now.buffer ≡ pending_of old ++ bytes
  pub counted : now.came ≡ old.came + length bytes
  pub needed : (bytes ≡ []) ⊎ (has_no_end (pending_of old) ≡ true)

-- a line is let go of, and nothing has come since
pub gathers_none : {size : ℕ} (old now : LineReader size) (known : Option (List ℕ)) → now.buffer ≡ pending_of old → now.came ≡ old.came
    → Gathers old now known known []
gathers_none old now known held came = record {
  consumed = Consumes-nil known;
  held = held
      ∙ sym (append-nil (pending_of old));
  counted = omega (arith, came);
  needed = inl refl;
}

passes_front : (p : ℕ → Bool) (x : ℕ) (xs : List ℕ) (k : ℕ) (t : Bool) → p x ≡ t → suc k ≤ cond t (1 + prefix_len p xs) 0
    → (k ≤ prefix_len p xs → list_all p (take k xs) ≡ true) → (p x && list_all p (take k xs)) ≡ true
passes_front p x xs k true e h more = and_from _ _ e (more (omega arith))
passes_front p x xs k false e h more = absurd (omega arith)

-- each element of a front that passes does
pub list_all-front : (p : ℕ → Bool) (xs : List ℕ) (k : ℕ) → k ≤ prefix_len p xs → list_all p (take k xs) ≡ true
list_all-front p xs zero h = refl
list_all-front p [] (suc k) h = refl
list_all-front p (x ∷ xs) (suc k) h = passes_front p x xs k (p x) refl h (list_all-front p xs k)

-- no LF stands before the first
pub has_no_end-front : (bytes : List ℕ) (len k : ℕ) → len ≡ position_or_len (λ b. b == 10) bytes → k ≤ len → has_no_end (take k bytes) ≡ true
has_no_end-front bytes len k is few = list_all-front (λ b. not (b == 10)) bytes k (omega arith)

-- where no LF is first, there is none
pub has_no_end-whole : (bytes : List ℕ) (len : ℕ) → len ≡ position_or_len (λ b. b == 10) bytes → length bytes ≤ len → has_no_end bytes ≡ true
has_no_end-whole bytes len is all = ap has_no_end (sym (take_all (length bytes) bytes (omega arith))) ∙ has_no_end-front bytes len (length bytes) is all

-- the line, its LF and the rest
pub split_at_end : (bytes : List ℕ) (len : ℕ) → len ≡ position_or_len (λ b. b == 10) bytes → len < length bytes
    → bytes ≡ take len bytes ++ 10 ∷ drop (len + 1) bytes
split_at_end bytes len is inside =
    let test = λ (b : ℕ). b == 10 in
    let within : position_or_len test bytes < length bytes = omega (arith, is, inside) in
    let ended : get_or bytes (position_or_len test bytes) 0 ≡ 10 = eqb-true _ 10 (not-false _ (prefix_len_stops (λ b. not (b == 10)) bytes 0 within)) in
    rw is (split_at_first test bytes 0 within ∙ ap (λ b. before_first test bytes ++ b ∷ after_first test bytes) ended)

-- 1024 bytes without a LF
pub long_line : (bytes : List ℕ) (len : ℕ) → len ≡ position_or_len (λ b. b == 10) bytes → len ≤ length bytes → 1023 < len → BeginsLongLine bytes
long_line bytes len is inside long = (omega arith, has_no_end-front bytes len 1024 is long)

-- what came with the last read stands after what came before
pub gathers_more : {size : ℕ} (old now next : LineReader size) (before middle after : Option (List ℕ)) (bytes more : List ℕ)
    → Gathers old now before middle bytes → has_no_end now.buffer ≡ true → Consumes middle after more → next.buffer ≡ now.buffer ++ more
    → next.came ≡ now.came + length more → Gathers old next before after (bytes ++ more)
gathers_more old now next before middle after bytes more g none read grown counted =
    let none = ap has_no_end (sym g.held) ∙ none in
    let parts = sym (list_all-append (λ b. not (b == 10)) (pending_of old) bytes) ∙ none in
    record {
      consumed = Consumes-trans before middle after bytes more g.consumed read;
      held = grown ∙ ap (λ xs. xs ++ more) g.held ∙ append_assoc (pending_of old) bytes more;
      counted = omega (arith, counted, g.counted, length-append bytes more);
      needed = inr (and_parts _ _ parts).0;
    }

gathered : {size : ℕ} (old now new : LineReader size) (before after : Option (List ℕ)) (bytes : List ℕ) → Gathers old now before after bytes
    → new.came ≡ now.came → Came old new before after bytes
gathered old now new before after bytes g same = record { consumed = g.consumed; counted = same ∙ g.counted; needed = g.needed }

-- nothing was taken from what stands there
holding : {size : ℕ} (old now new : LineReader size) (before after : Option (List ℕ)) (bytes : List ℕ) → Gathers old now before after bytes
    → new.buffer ≡ now.buffer → new.taken ≡ 0 → new.number ≡ old.number → Holds old new (pending_of old ++ bytes)
holding old now new before after bytes g same taken number = record { pending = ap (λ n. drop n new.buffer) taken ∙ same ∙ g.held; number = number }

-- a line without a LF that may still go on
short_line : {size : ℕ} (old now : LineReader size) (before after : Option (List ℕ)) (bytes slice : List ℕ) (len : ℕ) → Gathers old now before after bytes
    → slice ≡ now.buffer → len ≡ position_or_len (λ b. b == 10) slice → length slice ≤ len → len ≤ 1023 → IsShortLine (pending_of old ++ bytes)
short_line old now before after bytes slice len g same is all few =
    let there : slice ≡ pending_of old ++ bytes = same ∙ g.held in
    (ap has_no_end (sym there) ∙ has_no_end-whole slice len is all, omega (arith, ap length (sym there), all, few))

-- 1024 bytes have come and no LF among them
pub refuses_long : {size : ℕ} (old now : LineReader size) (before after : Option (List ℕ)) (bytes slice : List ℕ) (len : ℕ) → Gathers old now before after bytes
    → now.taken ≡ 0 → now.number ≡ old.number → slice ≡ now.buffer → len ≡ position_or_len (λ b. b == 10) slice → len ≤ length slice → 1023 < len
    → NextLine (Err (LongLine (now.number + 1))) old now before after
refuses_long old now before after bytes slice len g taken number same is inside long =
    let there : slice ≡ pending_of old ++ bytes = same ∙ g.held in
    let begins : BeginsLongLine (pending_of old ++ bytes) = rw (← there) (long_line slice len is inside long) in (
      bytes,
      [],
      after,
      gathered old now now before after bytes g refl,
      Consumes-nil after,
      refl,
      (ap (λ n. n + 1) number, begins, holding old now now before after bytes g refl taken number),
    )

-- a line ends with its LF
pub hands_ended : {size : ℕ} (old now new : LineReader size) (before after : Option (List ℕ)) (bytes slice : List ℕ) (len : ℕ)
    → Gathers old now before after bytes → now.number ≡ old.number → slice ≡ now.buffer → len ≡ position_or_len (λ b. b == 10) slice → len < length slice
    → len ≤ 1023 → line_of new ≡ without_return (take len now.buffer) → pending_of new ≡ drop (len + 1) now.buffer → number_of new ≡ number_of now + 1
    → came_of new ≡ came_of now → ended_of new ≡ false → NextLine (Ok true) old new before after
hands_ended old now new before after bytes slice len g number same is inside few text pending next came goes_on =
    let there : slice ≡ pending_of old ++ bytes = same ∙ g.held in
    let line = take len slice in
    let hands : Hands old new (pending_of old ++ bytes) after line = record {
      short = (has_no_end-front slice len len is (omega arith), omega (arith, length-take-le len slice (omega arith)));
      text = text ∙ ap (λ xs. without_return (take len xs)) (sym same);
      number = next ∙ ap (λ n. n + 1) number;
      ends = inl (sym there ∙ split_at_end slice len is inside ∙ ap (λ xs. line ++ 10 ∷ xs) (ap (drop (len + 1)) same ∙ sym pending), goes_on);
    } in
    (bytes, [], after, gathered old now new before after bytes g came, Consumes-nil after, refl, (line, hands))

empty : (bytes : List ℕ) → length bytes ≡ 0 → bytes ≡ []
empty [] h = refl
empty (b ∷ bytes) h = absurd (omega arith)

-- the last line lacks its LF
pub hands_last : {size : ℕ} (old now next new : LineReader size) (before middle after : Option (List ℕ)) (bytes more slice : List ℕ) (len : ℕ)
    → Gathers old now before middle bytes → next.number ≡ old.number → slice ≡ now.buffer → len ≡ position_or_len (λ b. b == 10) slice → length slice ≤ len
    → len ≤ 1023 → (length slice ≡ 0 → ⊥) → ReadsMore (Ok false) now next middle after more → line_of new ≡ without_return (take (length slice) next.buffer)
    → pending_of new ≡ drop (length slice) next.buffer → number_of new ≡ number_of next + 1 → came_of new ≡ came_of next → ended_of new ≡ true
    → NextLine (Ok true) old new before after
hands_last old now next new before middle after bytes more slice len g number same is all few some read text pending count came ended =
    let none : length more ≡ 0 = omega (arith, ltb-false 0 (length more) (sym read.3)) in
    let none_more : more ≡ [] = empty more none in
    let whole : next.buffer ≡ slice = read.1 ∙ ap (λ xs. now.buffer ++ xs) none_more ∙ append-nil now.buffer ∙ sym same in
    let unended : has_no_end now.buffer ≡ true = ap has_no_end (sym same) ∙ has_no_end-whole slice len is all in
    let grown : Gathers old next before after (bytes ++ more) = gathers_more old now next before middle after bytes more g unended read.0 read.1 read.2 in
    let there : slice ≡ pending_of old ++ (bytes ++ more) = sym whole ∙ grown.held in
    let hands : Hands old new (pending_of old ++ (bytes ++ more)) after slice = record {
      short = (has_no_end-whole slice len is all, omega (arith, all, few));
      text = text ∙ ap (λ xs. without_return (take (length slice) xs)) whole ∙ ap without_return (take_all (length slice) slice (omega arith));
      number = count ∙ ap (λ n. n + 1) number;
      ends = inr (omega arith, sym there, pending ∙ ap (drop (length slice)) whole ∙ drop_all (length slice) slice (omega arith), read.4 refl, ended);
    } in
    (bytes ++ more, [], after, gathered old next new before after (bytes ++ more) grown came, Consumes-nil after, refl, (slice, hands))

-- the source failed, or a byte past the limit came
pub refuses_read : {size : ℕ} (old now next : LineReader size) (before middle after : Option (List ℕ)) (bytes more slice : List ℕ) (len : ℕ) (fault : ReadFault)
    → Gathers old now before middle bytes → now.limit ≡ old.limit → next.taken ≡ 0 → next.number ≡ old.number → slice ≡ now.buffer
    → len ≡ position_or_len (λ b. b == 10) slice → length slice ≤ len → len ≤ 1023 → ReadsMore (Err fault) now next middle after more
    → NextLine (Err fault) old next before after
refuses_read old now next before middle after bytes more slice len (LongLine n) g limit taken number same is all few read = absurd read
refuses_read old now next before middle after bytes more slice len TooManyBytes g limit taken number same is all few read = (
  bytes,
  more,
  middle,
  gathered old now next before middle bytes g read.4,
  read.0,
  read.1,
  (read.4 ∙ read.3 ∙ limit, short_line old now before middle bytes slice len g same is all few, holding old now next before middle bytes g read.2 taken number),
)
refuses_read old now next before middle after bytes more slice len Device g limit taken number same is all few read = (
  bytes,
  more,
  middle,
  gathered old now next before middle bytes g read.3,
  read.0,
  read.1,
  (short_line old now before middle bytes slice len g same is all few, holding old now next before middle bytes g read.2 taken number),
)

-- what stands after so many bytes, as far as 1024 of it
pub first_of : (bytes : List ℕ) (taken n : ℕ) → n ≡ min (length (take (length bytes - taken) (drop taken bytes))) 1024
    → take n (take (length bytes - taken) (drop taken bytes)) ≡ take 1024 (drop taken bytes)
first_of bytes taken n is =
    let size : length (drop taken bytes) ≡ length bytes - taken = length-drop taken bytes in
    let whole : take (length bytes - taken) (drop taken bytes) ≡ drop taken bytes = take_all (length bytes - taken) (drop taken bytes) (omega (arith, size)) in
    let n_is : n ≡ min 1024 (length (drop taken bytes)) = is ∙ ap (λ xs. min (length xs) 1024) whole ∙ min_comm (length (drop taken bytes)) 1024 in
    ap (take n) whole ∙ ap (λ k. take k (drop taken bytes)) n_is ∙ take_min 1024 (drop taken bytes)

-- what stands before the LF has so many bytes
front_len : (len : ℕ) (bytes rest : List ℕ) → bytes ≡ take len bytes ++ 10 ∷ rest → length (take len bytes) ≡ len
front_len len bytes rest is =
    ⊎_elim (λ inside. length-take-le len bytes (omega (arith, inside)))
    (λ all.
    let whole : length (take len bytes) ≡ length bytes = ap length (take_all len bytes all) in
    absurd (omega (arith, ap length is, length-append (take len bytes) (10 ∷ rest), whole)))
    (cases_lt len (length bytes))

-- a line that stands with its LF at the front of what has come
pub hands_short : {size : ℕ} (old new : LineReader size) (known : Option (List ℕ)) (len : ℕ) → BeginsLine len (pending_of old)
    → line_of new ≡ take len (pending_of old) → pending_of new ≡ drop (len + 1) (pending_of old) → number_of new ≡ number_of old + 1 → came_of new ≡ came_of old
    → ended_of new ≡ false → NextLine (Ok true) old new known known
hands_short old new known len begins text pending number came goes_on =
    let line = take len (pending_of old) in
    let held : length line ≡ len = front_len len (pending_of old) begins.rest begins.parts in
    let rest : drop (len + 1) (pending_of old) ≡ begins.rest = ap (drop (len + 1)) begins.parts ∙ ap (λ k. drop (k + 1) (line ++ 10 ∷ begins.rest)) (sym held)
    ∙ drop-append-add line (10 ∷ begins.rest) 1 in
    let here : pending_of old ≡ line ++ 10 ∷ pending_of new = begins.parts ∙ ap (λ xs. line ++ 10 ∷ xs) (sym rest ∙ sym pending) in
    let hands : Hands old new (pending_of old ++ []) known line = record {
      short = begins.short;
      text = text ∙ sym begins.whole;
      number = number;
      ends = inl (append-nil (pending_of old) ∙ here, goes_on);
    } in
    ([], [], known, record { consumed = Consumes-nil known; counted = omega (arith, came); needed = inl refl }, Consumes-nil known, refl, (line, hands))

pub first_few : (ahead bytes : List ℕ) → ahead ≡ take 1024 bytes → length ahead ≤ 1024
first_few ahead bytes is = omega (arith, ap length is, length-take 1024 bytes, min-le_left 1024 (length bytes))

-- a line of the first bytes is one of all bytes
pub same_line : (n : ℕ) (ahead bytes : List ℕ) (len : ℕ) → ahead ≡ take n bytes → BeginsLine len ahead → take len ahead ≡ take len bytes
same_line n ahead bytes len is begins =
    let held : length (take len ahead) ≡ len = front_len len ahead begins.rest begins.parts in
    let most : length ahead ≤ n = omega (arith, ap length is, length-take n bytes, min-le_left n (length bytes)) in
    let few : len ≤ n = omega (arith, held, ap length begins.parts, length-append (take len ahead) (10 ∷ begins.rest), most) in
    ap (take len) is ∙ take-take len n bytes few

pub begins_line : (n : ℕ) (ahead bytes : List ℕ) (len : ℕ) → ahead ≡ take n bytes → BeginsLine len ahead → BeginsLine len bytes
begins_line n ahead bytes len is begins =
    let same = same_line n ahead bytes len is begins in
    let there : bytes ≡ take len ahead ++ 10 ∷ (begins.rest ++ drop n bytes) = sym (take-append-drop n bytes)
    ∙ ap (λ xs. xs ++ drop n bytes) (sym is ∙ begins.parts) ∙ append_assoc (take len ahead) (10 ∷ begins.rest) (drop n bytes) in
    record {
      short = rw same at begins.short;
      whole = rw same at begins.whole;
      rest = begins.rest ++ drop n bytes;
      parts = there ∙ ap (λ xs. xs ++ 10 ∷ (begins.rest ++ drop n bytes)) same;
    }
