-- What is left to be read through a window goes on from place to place.
use Rattle.std.proofs.Common.{◌≡◌, ◌≢◌, ℕ, ◌+◌, ◌-◌, ◌^◌, ◌<◌, ◌≤◌, ◌⊎◌, ◌↔◌, inl, inr, ⊎_elim, List, [], ◌∷◌, ◌++◌, length, append_assoc, length-append}
use Rattle.std.proofs.Common.{arith, refl, sym, ap, subst, ◌∙◌, Option, Some, Result, Ok, Err}
use Rattle.std.specs.Prelude.{Bool, IsTrue, eqb, MatchResult}
use Rattle.std.specs.Result.{IfOk, IfErr, IsErrAnd}
use Rattle.std.specs.Io.KnownBytes.{Consumes, IsAtEnd}
use Rattle.std.proofs.KnownBytes.{Consumes-nil, Consumes-trans}
use Rattle.std.proofs.lemmas.List.{append-nil}
use Rattle.std.proofs.lemmas.Bool.{eqb-true, eq-eqb}
use Rattle.std.proofs.lemmas.Bool.Decides.{nat_tests}
use Rattle.std.proofs.lemmas.Grind.{common_steps}
use Rattle.text_lines.specs.Streams.{GrowsByOne}
use Rattle.certificate_format.specs.declared.fault.ReadFault.{ReadFault}
use Rattle.certificate_check.specs.declared.refusal.CheckRefusal.{CheckRefusal}
use Rattle.certificate_check.specs.declared.stop.Stop.{Stop}
use Rattle.certificate_check.specs.declared.stop.Stop.TheVariants.{Refused, Unheld}
use Rattle.certificate_check.specs.declared.window.Inflow.{Inflow}
use Rattle.certificate_check.specs.declared.window.Inflow.TheVariants.{Open, AtEnd, TooLarge, Failed}
use Rattle.certificate_check.specs.Refusals.{refusal_of}
use Rattle.certificate_check.specs.Windows.{counted, StandsIn, AreLeft}
use Rattle.certificate_check.specs.Windows.{HasEnough, IsSound, IsSoundAs, WindowState, Reads, Stays}

-- ---- places one after the other

pub open_or : (i : Inflow) → (i ≡ Open) ⊎ (i ≢ Open)
open_or Open = inl refl
open_or AtEnd = inr (λ e. cc)
open_or TooLarge = inr (λ e. cc)
open_or Failed = inr (λ e. cc)

pub reads_none : (at : WindowState) → Reads at at Stays
reads_none at = record { most = refl; sound = λ n h. h; left = λ after total rest are. (rest, are, refl) }

pub reads_then :
    (a b c : WindowState) (P Q R : List ℕ → List ℕ → Type 0) → Reads a b P → Reads b c Q → ((left mid rest : List ℕ) → P left mid → Q mid rest → R left rest)
    → Reads a c R
reads_then a b c P Q R first second both = record {
  most = second.most ∙ first.most;
  sound = λ n h. second.sound n (first.sound n h);
  left = λ after total rest are.
      let mid = second.left after total rest are in
      let old = first.left after total mid.0 mid.1 in
      (old.0, old.1, both old.0 mid.0 rest old.2 mid.2);
}

pub reads_as : (a b : WindowState) (P Q : List ℕ → List ℕ → Type 0) → Reads a b P → ((left rest : List ℕ) → P left rest → Q left rest) → Reads a b Q
reads_as a b P Q read is = record {
  most = read.most;
  sound = read.sound;
  left = λ after total rest are. let old = read.left after total rest are in (old.0, old.1, is old.0 rest old.2);
}

pub stays_on : (a b c : WindowState) → Reads a b Stays → Reads b c Stays → Reads a c Stays
stays_on a b c first second = reads_then a b c Stays Stays Stays first second (λ left mid rest p q. p ∙ q)

-- what is left where no more is to come than the window holds
pub all_here : (at : WindowState) → AreLeft at.remaining (counted at.window.came 0) at at.window.buffer
all_here at = record { later = []; held = sym (append-nil at.window.buffer); consumed = Consumes-nil at.remaining; counted = refl; closed = λ e. refl }

-- a window that was open and counts what came is sound: it is still open, or too much came
pub counts_soundly :
    (old new : WindowState) → old.window.inflow ≡ Open → new.failures ≡ old.failures → (new.window.inflow ≡ Open → new.window.came ≤ new.window.most)
    → (new.window.inflow ≢ Open → (new.window.inflow ≡ TooLarge) × (new.window.most < new.window.came)) → new.window.came < 2 ^ 64 → (failures : ℕ)
    → IsSound failures old → IsSound failures new
counts_soundly old new was_open same few many fits failures is =
    let before : IsSoundAs Open failures old = subst (λ i. IsSoundAs i failures old) was_open is in
    ⊎_elim (λ e. subst (λ i. IsSoundAs i failures new) (sym e) (same ∙ before.0, few e))
    (λ e. let m = many e in subst (λ i. IsSoundAs i failures new) (sym m.0) (same ∙ before.0, m.1, fits)) (open_or new.window.inflow)

-- bytes that came to a window which was open stand behind those that it held, and what is left is the same
pub came_behind :
    (old new : WindowState) (bytes : List ℕ) → old.window.inflow ≡ Open → new.window.buffer ≡ old.window.buffer ++ bytes
    → Consumes old.remaining new.remaining bytes
    → new.window.came ≡ counted old.window.came (length bytes)
    → new.window.most ≡ old.window.most → ((failures : ℕ) → IsSound failures old → IsSound failures new) → Reads old new Stays
came_behind old new bytes was_open held came counts most sound = record {
  most = most;
  sound = sound;
  left = λ after total rest are. (
    rest,
    record {
      later = bytes ++ are.later;
      held = are.held ∙ ap (λ xs. xs ++ are.later) held ∙ append_assoc old.window.buffer bytes are.later;
      consumed = Consumes-trans old.remaining new.remaining after bytes are.later came are.consumed;
      counted = omega (arith, counts, are.counted, length-append bytes are.later);
      closed = λ shut. absurd (shut was_open);
    },
    refl,
  );
}

-- ---- parts that are read

pub sound_as : (i j : Inflow) (n : ℕ) (at : WindowState) → i ≡ j → IsSoundAs j n at → IsSoundAs i n at
sound_as i j n at e h = subst (λ (x : Inflow). IsSoundAs x n at) (sym e) h

-- what is behind the first bytes of a window
pub record IsPassed (mid new : WindowState) (rest : List ℕ) : Type 0 where
  pub buffer : new.window.buffer ≡ rest
  pub came : new.window.came ≡ mid.window.came
  pub most : new.window.most ≡ mid.window.most
  pub inflow : new.window.inflow ≡ mid.window.inflow
  pub remaining : new.remaining ≡ mid.remaining
  pub failures : new.failures ≡ mid.failures

sound_passed : (i j : Inflow) (n : ℕ) (mid new : WindowState) (rest : List ℕ) → i ≡ j → IsPassed mid new rest → IsSoundAs i n mid → IsSoundAs j n new
sound_passed Open j n mid new rest e p h = subst (λ (x : Inflow). IsSoundAs x n new) e (p.failures ∙ h.0, (let a = h.1 in omega (arith, a, p.came, p.most)))
sound_passed AtEnd j n mid new rest e p h =
    subst (λ (x : Inflow). IsSoundAs x n new) e (p.failures ∙ h.0, (let a = h.1 in omega (arith, a, p.came, p.most)), subst IsAtEnd (sym p.remaining) h.2)
sound_passed TooLarge j n mid new rest e p h =
    subst (λ (x : Inflow). IsSoundAs x n new) e (p.failures ∙ h.0, (let a = h.1 in omega (arith, a, p.came, p.most)), (let a = h.2 in omega (arith, a, p.came)))
sound_passed Failed j n mid new rest e p h =
    subst (λ (x : Inflow). IsSoundAs x n new) e (subst (λ (m : ℕ). GrowsByOne n m) (sym p.failures) h)

pub passed : (mid new : WindowState) (front rest : List ℕ) → mid.window.buffer ≡ front ++ rest → IsPassed mid new rest
    → Reads mid new (λ left later. left ≡ front ++ later)
passed mid new front behind held p = record {
  most = p.most;
  sound = λ n h. sound_passed mid.window.inflow new.window.inflow n mid new behind (sym p.inflow) p h;
  left = λ after total rest are. (
    mid.window.buffer ++ are.later,
    record {
      later = are.later;
      held = refl;
      consumed = subst (λ (a : Option (List ℕ)). Consumes a after are.later) p.remaining are.consumed;
      counted = ap (λ n. counted n (length are.later)) (sym p.came) ∙ are.counted;
      closed = λ shut. are.closed (λ e. shut (sym p.inflow ∙ e));
    },
    ap (λ xs. xs ++ are.later) held ∙ append_assoc front behind are.later ∙ ap (λ xs. front ++ (xs ++ are.later)) (sym p.buffer)
        ∙ ap (λ xs. front ++ xs) (sym are.held),
  );
}

-- a part that stands at the front of what is there
pub part_read :
    (old mid new : WindowState) (front rest : List ℕ) (P : List ℕ → List ℕ → Type 0) → Reads old mid Stays → mid.window.buffer ≡ front ++ rest
    → IsPassed mid new rest
    → ((later : List ℕ) → P (front ++ later) later) → Reads old new P
part_read old mid new front rest P held split p is =
    reads_then old mid new Stays (λ left later. left ≡ front ++ later) P held (passed mid new front rest split p)
    (λ left there later same e. subst (λ (xs : List ℕ). P xs later) (sym (same ∙ e)) (is later))

-- a part that is at fault: where enough is there, whatever comes later, and otherwise nothing comes
pub part_refused :
    (old mid : WindowState) (need : ℕ) (P : List ℕ → List ℕ → Type 0) → Reads old mid Stays → HasEnough need mid
    → ((later : List ℕ) → (need ≤ length mid.window.buffer) ⊎ (later ≡ []) → P (mid.window.buffer ++ later) (mid.window.buffer ++ later)) → Reads old mid P
part_refused old mid need P held enough is = record {
  most = held.most;
  sound = held.sound;
  left = λ after total rest are.
      let old_left = held.left after total rest are in
      let which : (need ≤ length mid.window.buffer) ⊎ (are.later ≡ []) =
      ⊎_elim (λ e. inl (enough e)) (λ shut. inr (are.closed shut)) (open_or mid.window.inflow)
      in
      let here : P rest rest = subst (λ (xs : List ℕ). P xs xs) (sym are.held) (is are.later which) in
      (old_left.0, old_left.1, subst (λ (xs : List ℕ). P xs rest) (sym old_left.2) here);
}

-- ---- answers

-- a reader's fault passed on
pub refused_match :
    {T : Type 0} (result : Result T CheckRefusal) (fault : ReadFault) (P : T → Type 0) (F : CheckRefusal → Type 0) → IsErrAnd result (λ r. r ≡ refusal_of fault)
    → F (refusal_of fault)
    → MatchResult result P F
refused_match (Ok x) fault P F h f = absurd h
refused_match (Err r) fault P F h f = subst F (sym h) f

-- a refusal passed on as it is
pub refused_again_match :
    {T : Type 0} (result : Result T CheckRefusal) (refusal : CheckRefusal) (P : T → Type 0) (F : CheckRefusal → Type 0) → IsErrAnd result (λ r. r ≡ refusal)
    → F refusal
    → MatchResult result P F
refused_again_match (Ok x) refusal P F h f = absurd h
refused_again_match (Err r) refusal P F h f = subst F (sym h) f

pub match_from : {T E : Type 0} (result : Result T E) (P : T → Type 0) (F : E → Type 0) → IfOk result P → IfErr result F → MatchResult result P F
match_from (Ok x) P F p f = p
match_from (Err e) P F p f = f

pub ok_from : {T E : Type 0} (result : Result T E) (P : T → Type 0) (F : E → Type 0) → MatchResult result P F → IfOk result P
ok_from (Ok x) P F p = p
ok_from (Err e) P F f = tt

-- three parts one after the other
pub reads_thrice :
    (a b c d : WindowState) (P Q R S : List ℕ → List ℕ → Type 0) → Reads a b P → Reads b c Q → Reads c d R
    → ((left one two rest : List ℕ) → P left one → Q one two → R two rest → S left rest) → Reads a d S
reads_thrice a b c d P Q R S first second third all = record {
  most = third.most ∙ second.most ∙ first.most;
  sound = λ n h. third.sound n (second.sound n (first.sound n h));
  left = λ after total rest are.
      let two = third.left after total rest are in
      let one = second.left after total two.0 two.1 in
      let old = first.left after total one.0 one.1 in
      (old.0, old.1, all old.0 one.0 two.0 rest old.2 one.2 two.2);
}

-- ---- bytes that are all there

never_none : GrowsByOne 0 0 → ⊥
unfolding GrowsByOne
never_none e = (let one = e (omega arith) in omega (arith, one))

-- what is left of a slice
slice_closed : (i : Inflow) (at : WindowState) (rest : List ℕ) → at.remaining ≡ Some rest → at.window.most ≡ 2 ^ 64 - 1 → at.failures ≡ 0 → i ≢ Open
    → IsSoundAs i 0 at → rest ≡ []
slice_closed Open at rest is most none shut h = absurd (shut refl)
slice_closed AtEnd at rest is most none shut h = subst IsAtEnd is h.2
slice_closed TooLarge at rest is most none shut h = (let a = h.1 in let b = h.2 in absurd (omega (arith, a, b, most)))
slice_closed Failed at rest is most none shut h = absurd (never_none (subst (λ (m : ℕ). GrowsByOne 0 m) none h))

pub of_slice :
    (old new : WindowState) (P : List ℕ → List ℕ → Type 0) (bytes rest : List ℕ) → Reads old new P → old.window.buffer ≡ [] → old.window.came ≡ 0
    → old.window.most ≡ 2 ^ 64 - 1
    → old.window.inflow ≡ Open → old.failures ≡ 0 → new.failures ≡ 0 → old.remaining ≡ Some bytes → new.remaining ≡ Some rest → (left : List ℕ) × P bytes left
of_slice old new P bytes rest read empty zero most is_open none none' before after =
    let sound_old : IsSound 0 old = sound_as old.window.inflow Open 0 old is_open (none, (omega (arith, zero))) in
    let sound_new : IsSound 0 new = read.sound 0 sound_old in
    let here : AreLeft (Some []) (counted new.window.came (length rest)) new (new.window.buffer ++ rest) = record {
      later = rest;
      held = refl;
      consumed = subst (λ (a : Option (List ℕ)). Consumes a (Some []) rest) (sym after) (sym (append-nil rest));
      counted = refl;
      closed = λ shut. slice_closed new.window.inflow new rest after (read.most ∙ most) none' shut sound_new;
    } in
    let old_left = read.left (Some []) _ _ here in
    let all = old_left.1 in
    let consumed : bytes ≡ all.later ++ [] = subst (λ (a : Option (List ℕ)). Consumes a (Some []) all.later) before all.consumed in
    let same : old_left.0 ≡ bytes = all.held ∙ ap (λ xs. xs ++ all.later) empty ∙ sym (append-nil all.later) ∙ sym consumed in
    (new.window.buffer ++ rest, subst (λ (xs : List ℕ). P xs (new.window.buffer ++ rest)) same old_left.2)

-- a count of bytes goes on with the count of the reads
pub count_on : (reads came before new most : ℕ) → reads ≤ came → before ≡ came → counted before 1 ≤ new → reads ≤ most → most < 2 ^ 32 → reads + 1 ≤ new
count_on reads came before new most a is b few small = grind (arith, nat_tests, common_steps)

-- no byte is left where none is there and none comes
pub empty_when : (held later : List ℕ) (said : Bool) → said ≡ eqb (length held) 0 → (1 ≤ length held) ⊎ (later ≡ []) → IsTrue said ↔ (held ++ later ≡ [])
empty_when [] later said is (inl some) = absurd (omega arith)
empty_when [] later said is (inr none) = (λ t. none, λ e. subst IsTrue (sym is) (eq-eqb 0 0 refl))
empty_when (x ∷ xs) later said is which = (λ t. absurd (some_length (eqb-true (length (x ∷ xs)) 0 (subst IsTrue is t))), λ e. absurd (cc))
  where
    some_length : length (x ∷ xs) ≡ 0 → ⊥
    some_length e = omega arith

-- a stop passed on
pub stopped_match :
    {T : Type 0} (result : Result T Stop) (stop : Stop) (P : T → Type 0) (F : CheckRefusal → Type 0) → IsErrAnd result (λ s. s ≡ stop) → StandsIn F stop
    → MatchResult result P (StandsIn F)
stopped_match (Ok x) stop P F h f = absurd h
stopped_match (Err s) stop P F h f = subst (StandsIn F) (sym h) f

pub stands_on : (stop : Stop) (F G : CheckRefusal → Type 0) → ((refusal : CheckRefusal) → F refusal → G refusal) → StandsIn F stop → StandsIn G stop
stands_on (Refused refusal) F G on f = on refusal f
stands_on Unheld F G on f = tt
