-- A trap that was served, from what was asked, read and written.
use Rattle.std.proofs.Common.{◌≡◌, inl, inr, subst, ℕ, zero, suc, ◌<◌, ◌≤◌, true, false, List, [], ◌++◌, take, Option, Result, Err, sym, refl, arith}
use Rattle.std.proofs.Common.{append-nil}
use Rattle.std.proofs.lemmas.Bool.{true≢false}
use Rattle.std.specs.Prelude.{slice_index_or}
use Rattle.std.specs.Io.KnownBytes.{Appends, Consumes}
use Rattle.std.proofs.KnownBytes.{Appends-trans}
use Rattle.measurement.specs.declared.request.Create.{Create}
use Rattle.trap_server.specs.PageDigest.{Asks, question_of}
use Rattle.trap_server.specs.EndFrames.{end_bytes}
use Rattle.trap_server.specs.declared.end.EndReason.{EndReason}
use Rattle.trap_server.specs.declared.end.EndReason.TheVariants as refusals
use Rattle.trap_server.specs.PageDigest.{Measures as MeasuresPages}
use Rattle.trap_server.specs.declared.frame_fault.FrameFault.{FrameFault}
use Rattle.trap_server.specs.declared.frame_fault.FrameFault.TheVariants as frames
use Rattle.trap_server.specs.declared.fault.ServeFault.TheVariants as faults
use Rattle.trap_server.specs.Ends.{CountsRead, CountsReads, CountsWrite, CountsWrites, BreaksOff, EndsAs, FrameRead, FrameWrite, IsPart, Refuses}
use Rattle.trap_server.specs.Traps.{ReadsTrap}
use Rattle.trap_server.specs.Traps.{CountsRead as CountsFrame}
use Rattle.trap_server.specs.Traps.{CountsWrite as CountsFrameWrite}
use Rattle.trap_server.specs.Platforms.{ReadsPlatform}
use Rattle.monitor_core.specs.States.{MonitorState}
use Rattle.trap_server.specs.declared.trap.Trap.{Trap}
use Rattle.trap_server.specs.declared.fault.ServeFault.{ServeFault}
use Rattle.trap_server.specs.Answered.{AreAwake, marks_of, unmarked}
use Rattle.trap_server.specs.Steps.{StopsMeasuring}

-- which of four harts are marked
pub mark_at : (s : MonitorState) (hart : ℕ) → slice_index_or (marks_of s) hart false ≡ true → s.marked hart ≡ true
mark_at s zero is = is
mark_at s (suc zero) is = is
mark_at s (suc (suc zero)) is = is
mark_at s (suc (suc (suc zero))) is = is
mark_at s (suc (suc (suc (suc n)))) is = absurd (true≢false (sym is))

none_there : (n harts : ℕ) → harts ≤ 4 → suc (suc (suc (suc n))) < harts → ⊥
none_there n harts most known = omega (arith, most, known)

-- no hart of four is, once each was woken
pub awake : (s : MonitorState) (harts hart : ℕ) → harts ≤ 4 → hart < harts → (unmarked 4 s).marked hart ≡ false
awake s harts zero most known = refl
awake s harts (suc zero) most known = refl
awake s harts (suc (suc zero)) most known = refl
awake s harts (suc (suc (suc zero))) most known = refl
awake s harts (suc (suc (suc (suc n)))) most known = absurd (none_there n harts most known)

-- none is marked after the harts were woken
pub quiet : (mid new : MonitorState) → new ≡ unmarked 4 mid → mid.table.layout.harts ≤ 4 → AreAwake new
quiet mid new n most = rw n (λ hart known. awake mid mid.table.layout.harts hart most known)

-- a refusal was written, or a part of it, and why
pub refuse_why :
    (result : ServeFault) (refusal : EndReason) (held holds : Option (List ℕ)) (Why : ServeFault → List ℕ → Type 0) → Refuses result refusal held holds
    → Why (faults.Refused refusal) (end_bytes refusal)
    → ((part : List ℕ) → IsPart part (end_bytes refusal) → Why faults.Write part) → (rest : List ℕ) × Why result rest × Appends held holds rest
refuse_why result refusal held holds Why (inl is) why failed = (end_bytes refusal, subst (λ f. Why f (end_bytes refusal)) (sym is.0) why, is.1)
refuse_why result refusal held holds Why (inr is) why failed =
    let part = take is.1.0 (end_bytes refusal) in (part, subst (λ f. Why f part) (sym is.0) (failed part (is.1.0, is.1.1, refl)), is.1.2)

-- the same after a question that was written whole
refuse_then :
    (result : ServeFault) (refusal : EndReason) (question : List ℕ) (held middle holds : Option (List ℕ)) (Why : ServeFault → List ℕ → Type 0)
    → Appends held middle question → Refuses result refusal middle holds → Why (faults.Refused refusal) (question ++ end_bytes refusal)
    → ((rest : List ℕ) → BreaksOff rest question (end_bytes refusal) → Why faults.Write rest) → (rest : List ℕ) × Why result rest × Appends held holds rest
refuse_then result refusal question held middle holds Why asked refused why failed =
    let r = refuse_why result refusal middle holds (λ f last. Why f (question ++ last)) refused why (λ part is. failed (question ++ part) (part, is, refl)) in
    (question ++ r.0, r.1, Appends-trans held middle holds question r.0 asked r.2)

-- a measurement that ended: what it had read, what was written, and why
pub measure_stops :
    (result : ServeFault) (fault : FrameFault) (parts : Create) (before after held middle holds : Option (List ℕ))
    → MeasuresPages (Err fault) parts before after → Asks (Err fault) parts held middle → EndsAs result fault middle holds
    → (read rest : List ℕ) × StopsMeasuring result parts read rest after × Consumes before after read × Appends held holds rest
measure_stops result frames.NotUnderstood parts before after held middle holds stops asked ends =
    let e = refuse_then result refusals.NotUnderstood (question_of parts) held middle holds
    (λ f rest. StopsMeasuring f parts stops.0 rest after) asked ends (stops.1, refl) (λ rest off. inr (stops.1, off)) in
    (stops.0, e.0, e.1, stops.2, e.2)
measure_stops result frames.Read parts before after held middle holds stops asked ends =
    let question = question_of parts in
    let wrote = subst (Appends held holds) (append-nil question) (Appends-trans held middle holds question [] asked ends.1) in
    (stops.0, question, subst (λ f. StopsMeasuring f parts stops.0 question after) (sym ends.0) (stops.1, refl), stops.2, wrote)
measure_stops result frames.Write parts before after held middle holds stops asked ends =
    let part = take asked.0 (question_of parts) in
    let wrote = subst (Appends held holds) (append-nil part) (Appends-trans held middle holds part [] asked.2 ends.1) in
    ([], part, subst (λ f. StopsMeasuring f parts [] part after) (sym ends.0) (inl (refl, (asked.0, asked.1, refl))), stops, wrote)

-- counts over two parts, of which the first ended well
pub reads_then : {X : Type 0} (result : Result X ServeFault) (a b d : ℕ) → b ≡ a → CountsReads result b d → CountsReads result a d
reads_then result a b d same counts = subst (λ n. CountsReads result n d) same counts

pub writes_then :
    {X : Type 0} (result : Result X ServeFault) (a b d p q r : ℕ) → (b ≡ a) × (q ≡ p) → CountsWrites result b d q r → CountsWrites result a d p r
writes_then result a b d p q r same counts = subst (λ n. CountsWrites result n d p r) same.0 (subst (λ n. CountsWrites result b d n r) same.1 counts)

pub read_at : (fault : ServeFault) (a b : ℕ) → b ≡ a → CountsRead fault b b → CountsRead fault a b
read_at fault a b same counts = subst (λ n. CountsRead fault n b) same counts

-- what a frame's fault counts
pub frame_reads : (X : Type 0) (fault : FrameFault) (a b : ℕ) → CountsFrame {X = X} (Err fault) a b → FrameRead fault a b
frame_reads X frames.NotUnderstood a b counts = counts
frame_reads X frames.Read a b counts = counts
frame_reads X frames.Write a b counts = counts

pub frame_writes : (fault : FrameFault) (a b p q : ℕ) → CountsFrameWrite {X = List ℕ} (Err fault) a b p q → FrameWrite fault a b p q
frame_writes frames.NotUnderstood a b p q counts = counts
frame_writes frames.Read a b p q counts = counts
frame_writes frames.Write a b p q counts = counts

-- a read is no write
pub first_writes : (fault : FrameFault) (before after : Option (List ℕ)) (a p : ℕ) → ReadsPlatform (Err fault) before after → FrameWrite fault a a p p
first_writes frames.NotUnderstood before after a p reads = (refl, refl)
first_writes frames.Read before after a p reads = (refl, refl)
first_writes frames.Write before after a p reads = absurd reads

pub trap_writes : (fault : FrameFault) (trap : Trap) (harts : ℕ) (before after : Option (List ℕ)) (a b p q : ℕ)
    → ReadsTrap (Err fault) trap harts before after → (b ≡ a) × (q ≡ p)
    → FrameWrite fault a b p q
trap_writes frames.NotUnderstood trap harts before after a b p q reads well = well
trap_writes frames.Read trap harts before after a b p q reads well = well
trap_writes frames.Write trap harts before after a b p q reads well = absurd reads

-- a fault after reads that were well
pub frame_after : (fault : FrameFault) (a b d : ℕ) → b ≡ a → FrameRead fault b d → FrameRead fault a d
frame_after fault a b d same counts = subst (λ n. FrameRead fault n d) same counts

pub read_after : (fault : ServeFault) (a b d : ℕ) → b ≡ a → CountsRead fault b d → CountsRead fault a d
read_after fault a b d same counts = subst (λ n. CountsRead fault n d) same counts

pub write_after : (fault : ServeFault) (a b d p q r : ℕ) → (b ≡ a) × (q ≡ p) → CountsWrite fault b d q r → CountsWrite fault a d p r
write_after fault a b d p q r same counts = subst (λ n. CountsWrite fault n d p r) same.0 (subst (λ n. CountsWrite fault b d n r) same.1 counts)
