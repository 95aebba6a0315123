-- Why the loop over the lines of an input stops.
use Rattle.std.proofs.Common.{◌≡◌, inl, inr, ℕ, ◌+◌, ◌<◌, ◌≤◌, ◌^◌, ◌∙◌, Bool, List, [], ◌++◌, length, take, Option, None, Some, Result}
use Rattle.std.proofs.Common.{Err, refl, ap, sym, arith, append_assoc}
use Rattle.std.specs.List.{concat}
use Rattle.std.specs.Io.KnownBytes.{Appends, Consumes}
use Rattle.std.proofs.KnownBytes.{Appends-trans}
use Rattle.text_lines.specs.Writings.{TakesPart}
use Rattle.text_lines.specs.declared.lines.LineReader.{LineReader}
use Rattle.text_lines.specs.declared.fault.ReadFault.{ReadFault}
use Rattle.text_lines.specs.declared.fault.ReadFault.TheVariants.{LongLine, TooManyBytes, Device}
use Rattle.text_lines.specs.declared.line_loop.LineRefusal.{LineRefusal}
use Rattle.text_lines.specs.declared.fault.RunFault.TheVariants.{Line, TooLong, Read}
use Rattle.text_lines.specs.Faults.{run_fault}
use Rattle.text_lines.specs.LineReaders.{line_of, pending_of, number_of, came_of, most_of, NextLine}
use Rattle.text_lines.specs.LineLoop.{Meaning, answer_bytes, ended, IsFront, DoesLines, ComesTo, StopsAt, StopsForMemory, StopsReading}
use Rattle.text_lines.specs.LineLoop.{StopsTooLong, StopsWriting}
use Rattle.text_lines.proofs.Looped.{Handed, Progress, came_all, consumed_as, few_as, gathered, gathered_all}

-- what was read before a fault
read_before : {size : ℕ} {S : Type 0} (does : Meaning S) (old now : S) (reader next : LineReader size) (count : ℕ)
    (before middle read after held holds : Option (List ℕ)) (bytes beyond : List ℕ) (p : Progress does old now reader count before middle held holds)
    → Consumes middle read bytes → Consumes read after beyond → beyond ≡ []
    → DoesLines does old now before after held holds p.lines (pending_of reader ++ bytes)
read_before does old now reader next count before middle read after held holds bytes beyond p a b e = record {
  answers = p.answers;
  done = p.done;
  consumed = gathered_all before middle read after (ended p.lines) (pending_of reader) bytes beyond p.consumed a b e;
  written = p.written;
}

-- a line is too long
pub stops_long : {size : ℕ} {S : Type 0} (does : Meaning S) (refuses : S → List ℕ → Type 0) (old now : S) (reader next : LineReader size) (count m : ℕ)
    (before middle after held holds : Option (List ℕ)) → Progress does old now reader count before middle held holds
    → NextLine (Err (LongLine m)) reader next middle after → came_of next ≤ 2 ^ 40 → StopsAt m does refuses old now before after held holds
stops_long does refuses old now reader next count m before middle after held holds p n few = record {
  lines = p.lines;
  bytes = pending_of reader ++ n.0;
  before_it = read_before does old now reader next count before middle n.2 after held holds n.0 n.1 p n.3.consumed n.4 n.5;
  few = few_as _ _ (came_all _ _ (ended p.lines) (pending_of reader) n.0 p.came n.3.counted) few;
  number = ap (λ k. k + 1) (sym p.number) ∙ sym n.6.0;
  refused = inl n.6.1;
}

-- a byte came after the limit
pub stops_past : {size : ℕ} {S : Type 0} (does : Meaning S) (old now : S) (reader next : LineReader size) (count : ℕ)
    (before middle after held holds : Option (List ℕ)) → Progress does old now reader count before middle held holds
    → NextLine (Err TooManyBytes) reader next middle after → most_of reader ≡ 2 ^ 40 → StopsTooLong does old now before after held holds
stops_past does old now reader next count before middle after held holds p n limit = record {
  lines = p.lines;
  bytes = pending_of reader ++ n.0;
  beyond = n.1;
  before_it = record {
    answers = p.answers;
    done = p.done;
    consumed = consumed_as before after _ _ (append_assoc (ended p.lines) (pending_of reader ++ n.0) n.1)
        (gathered before middle n.2 after (ended p.lines) (pending_of reader) n.0 n.1 p.consumed n.3.consumed n.4);
    written = p.written;
  };
  unended = n.6.1;
  limit = sym (came_all _ _ (ended p.lines) (pending_of reader) n.0 p.came n.3.counted) ∙ n.6.0 ∙ limit;
  more = n.5;
}

-- the source failed
pub stops_reading : {size : ℕ} {S : Type 0} (does : Meaning S) (old now : S) (reader next : LineReader size) (count : ℕ)
    (before middle after held holds : Option (List ℕ)) → Progress does old now reader count before middle held holds
    → NextLine (Err Device) reader next middle after → came_of next ≤ 2 ^ 40 → StopsReading does old now before after held holds
stops_reading does old now reader next count before middle after held holds p n few = record {
  lines = p.lines;
  bytes = pending_of reader ++ n.0;
  before_it = read_before does old now reader next count before middle n.2 after held holds n.0 n.1 p n.3.consumed n.4 n.5;
  few = few_as _ _ (came_all _ _ (ended p.lines) (pending_of reader) n.0 p.came n.3.counted) few;
  unended = n.6.0;
}

-- the line stands where it was handed out
stands : {size : ℕ} {S : Type 0} (does : Meaning S) (old now : S) (reader : LineReader size) (count : ℕ) (before after held holds : Option (List ℕ))
    (h : Handed does old now reader count before after held holds) → IsFront h.bytes after h.line
stands does old now reader count before after held holds h = elim h.ends [ inl p ↦ inl (pending_of reader, p.0) | inr p ↦ inr (p.0, p.1, p.3) ]

-- a line is not understood
pub stops_at : {size : ℕ} {S : Type 0} (does : Meaning S) (refuses : S → List ℕ → Type 0) (old now : S) (reader : LineReader size) (count : ℕ)
    (before after held holds : Option (List ℕ)) (h : Handed does old now reader count before after held holds) → refuses now (line_of reader)
    → StopsAt (number_of reader) does refuses old now before after held holds
stops_at does refuses old now reader count before after held holds h e = record {
  lines = h.lines;
  bytes = h.bytes;
  before_it = record { answers = h.answers; done = h.done; consumed = h.consumed; written = h.written };
  few = few_as _ _ h.came h.few;
  number = sym h.number;
  refused = inr (h.line, h.short, stands does old now reader count before after held holds h, rw h.is_text at e);
}

comes_to : {size : ℕ} {S : Type 0} (does : Meaning S) (old now : S) (reader : LineReader size) (count : ℕ) (before after held holds : Option (List ℕ))
    (h : Handed does old now reader count before after held holds) → ComesTo does old now before after h.answers h.line
comes_to does old now reader count before after held holds h = record {
  lines = h.lines;
  bytes = h.bytes;
  done = h.done;
  consumed = h.consumed;
  few = few_as _ _ h.came h.few;
  short = h.short;
  stands = stands does old now reader count before after held holds h;
}

none_less : (n : ℕ) → n < 0 → ⊥
none_less n h = omega (arith, h)

-- of an answer a beginning was written, not all of it: there is an answer
pub part_of :
    (said : Option (List ℕ)) (old new : Option (List ℕ)) → TakesPart (answer_bytes said) old new
    → (text : List ℕ) × (part : ℕ) × (said ≡ Some text) × (part < length text) × Appends old new (take part text)
part_of None old new part = absurd (none_less part.0 part.1)
part_of (Some text) old new part = (text, part.0, refl, part.1, part.2)

-- an answer was written in part
pub stops_writing : {size : ℕ} {S : Type 0} (does : Meaning S) (old now new : S) (reader : LineReader size) (count : ℕ)
    (before after held middle holds : Option (List ℕ)) (h : Handed does old now reader count before after held middle) (said : Option (List ℕ)) (text : List ℕ)
    (part : ℕ) → does now count (line_of reader) said new → said ≡ Some text → part < length text → Appends middle holds (take part text)
    → StopsWriting does old new before after held holds
stops_writing does old now new reader count before after held middle holds h said text part is e less w = record {
  now = now;
  answers = h.answers;
  line = h.line;
  comes = comes_to does old now reader count before after held middle h;
  text = text;
  done = rw (h.count_is, h.is_text, e) at is;
  part = part;
  less = less;
  written = Appends-trans held middle holds (concat h.answers) (take part text) h.written w;
}

-- memory was refused
pub stops_for_memory : {size : ℕ} {S : Type 0} (does : Meaning S) (starves : S → List ℕ → S → Type 0) (old now new : S) (reader : LineReader size) (count : ℕ)
    (before after held holds : Option (List ℕ)) (h : Handed does old now reader count before after held holds) → starves now (line_of reader) new
    → StopsForMemory does starves old new before after held holds
stops_for_memory does starves old now new reader count before after held holds h e = record {
  now = now;
  answers = h.answers;
  line = h.line;
  comes = comes_to does old now reader count before after held holds h;
  starved = rw h.is_text at e;
  written = h.written;
}

-- which fault of the reader a fault of the run is
pub fault_is_long : (fault : ReadFault) (n : ℕ) → run_fault fault ≡ Line n → fault ≡ LongLine n
fault_is_long (LongLine m) n e = cc
fault_is_long TooManyBytes n e = cc
fault_is_long Device n e = cc

pub fault_is_many : (fault : ReadFault) → run_fault fault ≡ TooLong → fault ≡ TooManyBytes
fault_is_many (LongLine m) e = cc
fault_is_many TooManyBytes e = refl
fault_is_many Device e = cc

pub fault_is_device : (fault : ReadFault) → run_fault fault ≡ Read → fault ≡ Device
fault_is_device (LongLine m) e = cc
fault_is_device TooManyBytes e = cc
fault_is_device Device e = refl

-- a refusal that has its name
pub is_refused : (said : Result Bool LineRefusal) (field refusal : LineRefusal) → said ≡ Err field → field ≡ refusal → said ≡ Err refusal
is_refused said field refusal is named = is ∙ ap Err named
