-- What is told of lines in one state is told in another that it is mapped to.
use Rattle.std.proofs.Common.{ℕ, inl, inr, List, ◌++◌, Option}
use Rattle.text_lines.specs.LineLoop.{Meaning, Does, DoesAll, DoesLines, ComesTo, StopsAt, StopsReading, StopsTooLong, StopsWriting, StopsForMemory}
use Rattle.text_lines.specs.LineLoop.{none, silent, answer}

-- what a line does in one state it does where that is mapped to, and what holds before it holds after it
abbrev pub Follows : {S T : Type 0} → (S → Type 0) → (S → T) → Meaning S → Meaning T → Type 0
Follows {S} {T} holds f does other = (s : S) (n : ℕ) (line : List ℕ) (said : Option (List ℕ)) (t : S) → holds s → does s n line said t
    → holds t × other (f s) n line said (f t)

pub mapped : {S T : Type 0} (holds : S → Type 0) (f : S → T) (does : Meaning S) (other : Meaning T) → Follows holds f does other
    → {old new : S} {lines answers : List (List ℕ)} → holds old → Does does old lines answers new → holds new × Does other (f old) lines answers (f new)
mapped holds f does other follows h none = (h, none)
mapped holds f does other follows h (silent done line short new is) =
    let m = mapped holds f does other follows h done in
    let s = follows _ _ _ _ _ m.0 is in
    (s.0, silent m.1 line short (f new) s.1)
mapped holds f does other follows h (answer done line short new text is) =
    let m = mapped holds f does other follows h done in
    let s = follows _ _ _ _ _ m.0 is in
    (s.0, answer m.1 line short (f new) text s.1)

pub mapped_all : {S T : Type 0} (holds : S → Type 0) (f : S → T) (does : Meaning S) (other : Meaning T) → Follows holds f does other
    → (old new : S) (before after held kept : Option (List ℕ)) → holds old → DoesAll does old new before after held kept
    → DoesAll other (f old) (f new) before after held kept
mapped_all holds f does other follows old new before after held kept h d = record {
  input = d.input;
  lines = d.lines;
  answers = d.answers;
  consumed = d.consumed;
  at_end = d.at_end;
  few = d.few;
  are_lines = d.are_lines;
  done = (mapped holds f does other follows h d.done).1;
  written = d.written;
}

pub mapped_lines : {S T : Type 0} (holds : S → Type 0) (f : S → T) (does : Meaning S) (other : Meaning T) → Follows holds f does other
    → (old new : S) (before after held kept : Option (List ℕ)) (lines : List (List ℕ)) (bytes : List ℕ) → holds old
    → DoesLines does old new before after held kept lines bytes → DoesLines other (f old) (f new) before after held kept lines bytes
mapped_lines holds f does other follows old new before after held kept lines bytes h d = record {
  answers = d.answers;
  done = (mapped holds f does other follows h d.done).1;
  consumed = d.consumed;
  written = d.written;
}

-- a line that is refused is refused there
pub mapped_at : {S T : Type 0} (holds : S → Type 0) (f : S → T) (does : Meaning S) (other : Meaning T) (refuses : S → List ℕ → Type 0)
    (also : T → List ℕ → Type 0) → Follows holds f does other → ((s : S) (line : List ℕ) → refuses s line → also (f s) line)
    → (n : ℕ) (old new : S) (before after held kept : Option (List ℕ)) → holds old → StopsAt n does refuses old new before after held kept
    → StopsAt n other also (f old) (f new) before after held kept
mapped_at holds f does other refuses also follows refused n old new before after held kept h d = record {
  lines = d.lines;
  bytes = d.bytes;
  before_it = mapped_lines holds f does other follows old new before after held kept d.lines d.bytes h d.before_it;
  few = d.few;
  number = d.number;
  refused = elim d.refused [ inl long ↦ inl long | inr p ↦ inr (p.0, p.1, p.2, refused _ _ p.3) ];
}

pub mapped_too_long : {S T : Type 0} (holds : S → Type 0) (f : S → T) (does : Meaning S) (other : Meaning T) → Follows holds f does other
    → (old new : S) (before after held kept : Option (List ℕ)) → holds old → StopsTooLong does old new before after held kept
    → StopsTooLong other (f old) (f new) before after held kept
mapped_too_long holds f does other follows old new before after held kept h d = record {
  lines = d.lines;
  bytes = d.bytes;
  beyond = d.beyond;
  before_it = mapped_lines holds f does other follows old new before after held kept d.lines (d.bytes ++ d.beyond) h d.before_it;
  unended = d.unended;
  limit = d.limit;
  more = d.more;
}

pub mapped_reading : {S T : Type 0} (holds : S → Type 0) (f : S → T) (does : Meaning S) (other : Meaning T) → Follows holds f does other
    → (old new : S) (before after held kept : Option (List ℕ)) → holds old → StopsReading does old new before after held kept
    → StopsReading other (f old) (f new) before after held kept
mapped_reading holds f does other follows old new before after held kept h d = record {
  lines = d.lines;
  bytes = d.bytes;
  before_it = mapped_lines holds f does other follows old new before after held kept d.lines d.bytes h d.before_it;
  few = d.few;
  unended = d.unended;
}

mapped_to : {S T : Type 0} (holds : S → Type 0) (f : S → T) (does : Meaning S) (other : Meaning T) → Follows holds f does other
    → (old now : S) (before after : Option (List ℕ)) (answers : List (List ℕ)) (line : List ℕ) → holds old → ComesTo does old now before after answers line
    → holds now × ComesTo other (f old) (f now) before after answers line
mapped_to holds f does other follows old now before after answers line h d =
    let m = mapped holds f does other follows h d.done in
    (m.0, record { lines = d.lines; bytes = d.bytes; done = m.1; consumed = d.consumed; few = d.few; short = d.short; stands = d.stands })

pub mapped_writing : {S T : Type 0} (holds : S → Type 0) (f : S → T) (does : Meaning S) (other : Meaning T) → Follows holds f does other
    → (old new : S) (before after held kept : Option (List ℕ)) → holds old → StopsWriting does old new before after held kept
    → StopsWriting other (f old) (f new) before after held kept
mapped_writing holds f does other follows old new before after held kept h d =
    let m = mapped_to holds f does other follows old d.now before after d.answers d.line h d.comes in
    let s = follows _ _ _ _ _ m.0 d.done in
    record { now = f d.now; answers = d.answers; line = d.line; comes = m.1; text = d.text; done = s.1; part = d.part; less = d.less; written = d.written }

-- a line that wants memory wants it there
pub mapped_memory : {S T : Type 0} (holds : S → Type 0) (f : S → T) (does : Meaning S) (other : Meaning T) (starves : S → List ℕ → S → Type 0)
    (also : T → List ℕ → T → Type 0) → Follows holds f does other → ((s : S) (line : List ℕ) (t : S) → holds s → starves s line t → also (f s) line (f t))
    → (old new : S) (before after held kept : Option (List ℕ)) → holds old → StopsForMemory does starves old new before after held kept
    → StopsForMemory other also (f old) (f new) before after held kept
mapped_memory holds f does other starves also follows starved old new before after held kept h d =
    let m = mapped_to holds f does other follows old d.now before after d.answers d.line h d.comes in
    record { now = f d.now; answers = d.answers; line = d.line; comes = m.1; starved = starved _ _ _ m.0 d.starved; written = d.written }
