-- However a run of lines ends, the machine is the one after the events that its first lines say.
use Rattle.std.proofs.Common.{◌≡◌, ◌∙◌, inl, inr, ℕ, ◌<◌, true, List, [], ◌∷◌, ◌++◌, length, Option, Some, Result, Ok, Err, refl, ap, sym, arith, append_assoc}
use Rattle.std.specs.Prelude.{IfOk}
use Rattle.platforms.specs.Platform.{PlatformLayout}
use Rattle.hart_trace.specs.declared.event.Event.{Event}
use Rattle.hart_trace.specs.Events.{meaning_of}
use Rattle.text_lines.specs.declared.fault.RunFault.{RunFault}
use Rattle.text_lines.specs.declared.fault.RunFault.TheVariants as faults
use Rattle.text_lines.specs.Lines.{has_no_end, AreLines, IsShortLine, without_return}
use Rattle.text_lines.specs.LineLoop.{Meaning, Does, none, silent, answer, ended, IsFront, ComesTo, DoesAll, DoesLines, StopsAt, StopsTooLong, StopsReading}
use Rattle.text_lines.specs.LineLoop.{StopsWriting, StopsForMemory}
use Rattle.hart_sim.specs.declared.machine.Machine.{Machine}
use Rattle.hart_trace.specs.declared.reply.Reply.{Reply}
use Rattle.hart_sim.specs.After.{After, Happens}
use Rattle.hart_sim.specs.Reports.{DoesLine, RefusesLine, StarvesLine, BeginsWith, AreDone, GoesOn, one}
use Rattle.hart_sim.proofs.Reported.{harts_of, is_reported, one_more, way}

-- no line has an LF in it
abbrev NoEnds : List (List ℕ) → Type 0
NoEnds [] = Unit {0}
NoEnds (line ∷ lines) = (has_no_end line ≡ true) × NoEnds lines

no_ends-snoc : (lines : List (List ℕ)) (line : List ℕ) → NoEnds lines → has_no_end line ≡ true → NoEnds (lines ++ line ∷ [])
no_ends-snoc [] line h e = (e, tt)
no_ends-snoc (first ∷ lines) line h e = (h.0, no_ends-snoc lines line h.1 e)

done_no_ends : {S : Type 0} {does : Meaning S} {old new : S} {lines answers : List (List ℕ)} → Does does old lines answers new → NoEnds lines
done_no_ends none = tt
done_no_ends (silent done line short new is) = no_ends-snoc _ line (done_no_ends done) short.0
done_no_ends (answer done line short new text is) = no_ends-snoc _ line (done_no_ends done) short.0

ended-snoc : (lines : List (List ℕ)) (line : List ℕ) → ended (lines ++ line ∷ []) ≡ ended lines ++ (line ++ 10 ∷ [])
ended-snoc [] line = refl
ended-snoc (first ∷ lines) line = ap (λ xs. first ++ 10 ∷ xs) (ended-snoc lines line) ∙ sym (append_assoc first (10 ∷ ended lines) (line ++ 10 ∷ []))

-- one line more, and what stands after its LF
ended-rest : (lines : List (List ℕ)) (line rest : List ℕ) → ended lines ++ (line ++ 10 ∷ rest) ≡ ended (lines ++ line ∷ []) ++ rest
ended-rest lines line rest =
    sym (ap (λ xs. xs ++ rest) (ended-snoc lines line) ∙ append_assoc (ended lines) (line ++ 10 ∷ []) rest
    ∙ ap (λ xs. ended lines ++ xs) (append_assoc line (10 ∷ []) rest))

-- lines with their LFs, and one without
are_lines : (lines : List (List ℕ)) (last : List ℕ) → NoEnds lines → has_no_end last ≡ true → 0 < length last
    → AreLines (ended lines ++ last) (lines ++ last ∷ [])
are_lines [] last h e some = (e, [], inr (some, refl, refl), refl)
are_lines (line ∷ lines) last h e some = (h.0, ended lines ++ last, inl (append_assoc line (10 ∷ ended lines) last), are_lines lines last h.1 e some)

-- with a line that stands in what came, what was read begins
one_begins : (lines : List (List ℕ)) (bytes line : List ℕ) (after : Option (List ℕ)) → NoEnds lines → IsShortLine line → IsFront bytes after line
    → BeginsWith (ended lines ++ bytes) (lines ++ line ∷ [])
one_begins lines bytes line after h short (inl p) = inl (p.0, ap (λ xs. ended lines ++ xs) p.1 ∙ ended-rest lines line p.0)
one_begins lines bytes line after h short (inr p) =
    let P : List ℕ → Type 0 = λ xs. BeginsWith (ended lines ++ xs) (lines ++ line ∷ []) in
    along P line bytes (sym p.1) (inr (are_lines lines line h short.0 p.0))
  where
    along : (P : List ℕ → Type 0) (xs ys : List ℕ) → xs ≡ ys → P xs → P ys
    along P xs ys e p = rw (← e) p

by_all : (platform : PlatformLayout) (events : List (ℕ × Event)) (replies : List Reply) (old new : Machine) (before after held holds : Option (List ℕ))
    → After platform events replies old → DoesAll DoesLine old new before after held holds
    → GoesOn platform events replies (Ok tt) old new before after
by_all platform events replies old new before after held holds a d =
    let r = is_reported old new d.lines d.answers d.done in
    record {
      bytes = d.input;
      consumed = d.consumed;
      lines = d.lines;
      done = d.are_lines;
      more = r.events;
      spelled = r.spelled;
      answered = r.replies;
      went =
          r.after platform events replies a;
    }

by_lines : (platform : PlatformLayout) (events : List (ℕ × Event)) (replies : List Reply) (old new : Machine) (before after held holds : Option (List ℕ))
    (lines : List (List ℕ)) (bytes : List ℕ) (fault : RunFault) → After platform events replies old
    → DoesLines DoesLine old new before after held holds lines bytes → AreDone (Err fault) (ended lines ++ bytes) lines
    → GoesOn platform events replies (Err fault) old new before after
by_lines platform events replies old new before after held holds lines bytes fault a d done =
    let r = is_reported old new lines d.answers d.done in
    record {
      bytes = ended lines ++ bytes;
      consumed = d.consumed;
      lines = lines;
      done = done;
      more = r.events;
      spelled = r.spelled;
      answered = r.replies;
      went =
          r.after platform events replies a;
    }

some_lines : (lines : List (List ℕ)) (line : List ℕ) → 0 < length (lines ++ line ∷ [])
some_lines [] line = omega arith
some_lines (first ∷ lines) line = omega arith

-- one line more, whose event happened
by_one : (platform : PlatformLayout) (events : List (ℕ × Event)) (replies : List Reply) (old now new : Machine) (before after : Option (List ℕ))
    (answers : List (List ℕ)) (line : List ℕ) (hart : ℕ) (event : Event) (reply : Reply) (fault : RunFault)
    → ((bytes : List ℕ) (lines : List (List ℕ)) → 0 < length lines → BeginsWith bytes lines → AreDone (Err fault) bytes lines)
    → After platform events replies old
    → ComesTo DoesLine old now before after answers line → meaning_of (harts_of now) (without_return line) ≡ Some (Some (hart, event))
    → Happens now hart event reply new → GoesOn platform events replies (Err fault) old new before after
by_one platform events replies old now new before after answers line hart event reply fault so a c said x =
    let w = way old now c.lines answers c.done in
    let r = w.report in
    record {
      bytes = ended c.lines ++ c.bytes;
      consumed = c.consumed;
      lines = c.lines ++ line ∷ [];
      done = so (ended c.lines ++ c.bytes) (c.lines ++ line ∷ []) (some_lines c.lines line)
          (one_begins c.lines c.bytes line after (done_no_ends c.done) c.short c.stands);
      more = r.events ++ (hart, event) ∷ [];
      spelled = one r.spelled line c.short hart event (ap (λ n. meaning_of n (without_return line)) (sym w.harts) ∙ said);
      answered = r.replies ++ reply ∷ [];
      went = one_more platform events r.events replies r.replies now new hart event reply (r.after platform events replies a) x;
    }

pub goes_on : (platform : PlatformLayout) (events : List (ℕ × Event)) (replies : List Reply) (old new : Machine) (before after held holds : Option (List ℕ))
    (result : Result (Unit {0}) RunFault) → After platform events replies old
    → IfOk result (λ done. DoesAll DoesLine old new before after held holds)
    → ((n : ℕ) → result ≡ Err (faults.Line n) → StopsAt n DoesLine RefusesLine old new before after held holds)
    → (result ≡ Err faults.TooLong → StopsTooLong DoesLine old new before after held holds)
    → (result ≡ Err faults.Read → StopsReading DoesLine old new before after held holds)
    → (result ≡ Err faults.Write → StopsWriting DoesLine old new before after held holds)
    → (result ≡ Err faults.Memory → StopsForMemory DoesLine StarvesLine old new before after held holds)
    → GoesOn platform events replies result old new before after
goes_on platform events replies old new before after held holds (Ok done) a all line long read write memory = by_all platform events replies old new before
    after held holds a all
goes_on platform events replies old new before after held holds (Err (faults.Line n)) a all line long read write memory =
    let s = line n refl in by_lines platform events replies old new before after held holds s.lines s.bytes (faults.Line n) a s.before_it
    (s.number, (s.bytes, refl))
goes_on platform events replies old new before after held holds (Err faults.TooLong) a all line long read write memory =
    let s = long refl in by_lines platform events replies old new before after held holds s.lines (s.bytes ++ s.beyond) faults.TooLong a s.before_it
    (s.bytes, s.beyond, refl, s.unended, s.limit)
goes_on platform events replies old new before after held holds (Err faults.Read) a all line long read write memory =
    let s = read refl in by_lines platform events replies old new before after held holds s.lines s.bytes faults.Read a s.before_it (s.bytes, refl, s.unended)
goes_on platform events replies old new before after held holds (Err faults.Write) a all line long read write memory =
    let s = write refl in by_one platform events replies old s.now new before after s.answers s.line s.done.0 s.done.1 s.done.2 faults.Write
    (λ bytes lines some begins. (some, begins)) a s.comes s.done.3 s.done.4
goes_on platform events replies old new before after held holds (Err faults.Memory) a all line long read write memory =
    let s = memory refl in by_one platform events replies old s.now new before after s.answers s.line s.starved.0 s.starved.1 _ faults.Memory
    (λ bytes lines some begins. (some, begins)) a s.comes s.starved.2 s.starved.3
