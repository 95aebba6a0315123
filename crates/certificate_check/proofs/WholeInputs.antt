-- What comes in all through a window that was new, and why a check through it stops.
use Rattle.std.proofs.Common.{◌≡◌, ◌≢◌, ℕ, ◌+◌, ◌*◌, ◌^◌, ◌<◌, ◌≤◌, ⊎_elim, List, [], ◌++◌, length, length-append}
use Rattle.std.proofs.Common.{arith, refl, sym, ap, subst, ◌∙◌, Some, None, Result, Ok, Err}
use Rattle.std.specs.Prelude.{MatchResult}
use Rattle.std.specs.Io.KnownBytes.{Consumes, IsAtEnd}
use Rattle.std.proofs.lemmas.Bool.Decides.{nat_tests}
use Rattle.std.proofs.lemmas.Grind.{common_steps}
use Rattle.text_lines.specs.Streams.{GrowsByOne}
use Rattle.text_lines.specs.declared.stream_fault.SourceFault.TheVariants as faults
use Rattle.certificate_check.specs.declared.refusal.CheckRefusal.{CheckRefusal}
use Rattle.certificate_format.specs.declared.header.Header.{Header}
use Rattle.pmp_encoding.specs.Views.{View}
use Rattle.certificate_check.specs.declared.stop.Stop.{Stop}
use Rattle.certificate_check.specs.declared.stop.Stop.TheVariants.{Refused, Unheld}
use Rattle.certificate_check.specs.Certificates.{CertificateNotStored, IsJudged, IsRightWith, RefusalStands, ClaimFitsFile}
use Rattle.certificate_check.specs.Listed.{AreListed}
use Rattle.certificate_format.specs.Spelling.{header_bytes}
use Rattle.certificate_check.proofs.Entered.{listed_long}
use Rattle.certificate_check.specs.declared.window.Inflow.{Inflow}
use Rattle.certificate_check.specs.declared.window.Inflow.TheVariants.{Open, AtEnd, TooLarge, Failed}
use Rattle.certificate_check.specs.Windows.{counted, fault_of, found_of, stopped_by, StandsIn}
use Rattle.certificate_check.specs.Windows.{IsSound, IsSoundAs, WindowState, Reads}
use Rattle.certificate_check.proofs.Windows.{all_here, sound_as}

-- what has come from an empty window on
pub came_from :
    (old new : WindowState) (P : List ℕ → List ℕ → Type 0) → Reads old new P → old.window.buffer ≡ [] → old.window.came ≡ 0
    → (bytes : List ℕ) × Consumes old.remaining new.remaining bytes × (counted 0 (length bytes) ≡ counted new.window.came 0) × P bytes new.window.buffer
came_from old new P read empty zero =
    let left = read.left _ _ _ (all_here new) in
    let all = left.1 in
    let same : left.0 ≡ all.later = all.held ∙ ap (λ xs. xs ++ all.later) empty in
    (all.later, all.consumed, ap (λ n. counted n (length all.later)) (sym zero) ∙ all.counted, subst (λ (xs : List ℕ). P xs new.window.buffer) same left.2)

few_came : (n came most : ℕ) → counted 0 n ≡ counted came 0 → came ≤ most → most < 2 ^ 32 → n ≤ most
few_came n came most e few small = grind (arith, nat_tests, common_steps)

many_came : (n came most : ℕ) → counted 0 n ≡ counted came 0 → most < came → came < 2 ^ 64 → most < n
many_came n came most e many small = grind (arith, nat_tests, common_steps)

-- why no more came
whole_as :
    (i : Inflow) (n : ℕ) (at : WindowState) → IsSoundAs i n at → fault_of i ≡ None → i ≢ Open
    → (at.failures ≡ n) × (at.window.came ≤ at.window.most) × IsAtEnd at.remaining
whole_as Open n at h none shut = absurd (shut refl)
whole_as AtEnd n at h none shut = h
whole_as TooLarge n at h none shut = absurd (cc)
whole_as Failed n at h none shut = absurd (cc)

large_as : (i : Inflow) (n : ℕ) (at : WindowState) → IsSoundAs i n at → fault_of i ≡ Some faults.TooLarge
    → (at.window.most < at.window.came) × (at.window.came < 2 ^ 64)
large_as Open n at h is = absurd (cc)
large_as AtEnd n at h is = absurd (cc)
large_as TooLarge n at h is = (h.1, h.2)
large_as Failed n at h is = absurd (cc)

failed_as : (i : Inflow) (n : ℕ) (at : WindowState) → IsSoundAs i n at → fault_of i ≡ Some faults.Read → GrowsByOne n at.failures
failed_as Open n at h is = absurd (cc)
failed_as AtEnd n at h is = absurd (cc)
failed_as TooLarge n at h is = absurd (cc)
failed_as Failed n at h is = h

well_as : (i : Inflow) (n : ℕ) (at : WindowState) → IsSoundAs i n at → fault_of i ≢ Some faults.Read → at.failures ≡ n
well_as Open n at h other = h.0
well_as AtEnd n at h other = h.0
well_as TooLarge n at h other = h.0
well_as Failed n at h other = absurd (other refl)

-- a window that is new
pub record IsFresh (at : WindowState) (limit : ℕ) : Type 0 where
  pub empty : at.window.buffer ≡ []
  pub zero : at.window.came ≡ 0
  pub most : at.window.most ≡ limit
  pub is_open : at.window.inflow ≡ Open

pub fresh_at : (at : WindowState) (limit : ℕ) → at.window.buffer ≡ [] → at.window.came ≡ 0 → at.window.most ≡ limit → at.window.inflow ≡ Open → IsFresh at limit
fresh_at at limit empty zero most is_open = record { empty = empty; zero = zero; most = most; is_open = is_open }

fresh_sound : (at : WindowState) (most : ℕ) → IsFresh at most → IsSound at.failures at
fresh_sound at most fresh = sound_as at.window.inflow Open at.failures at fresh.is_open (refl, (let z = fresh.zero in omega arith))

pub whole_from :
    (old new : WindowState) (most : ℕ) (P : List ℕ → List ℕ → Type 0) → Reads old new P → IsFresh old most → most < 2 ^ 32 → fault_of new.window.inflow ≡ None
    → new.window.inflow ≢ Open
    → (bytes : List ℕ) × Consumes old.remaining new.remaining bytes × IsAtEnd new.remaining × (length bytes ≤ most) × P bytes new.window.buffer
whole_from old new most P read fresh small none shut =
    let came = came_from old new P read fresh.empty fresh.zero in
    let end = whole_as new.window.inflow old.failures new (read.sound old.failures (fresh_sound old most fresh)) none shut in
    (came.0, came.1, end.2, few_came (length came.0) new.window.came most came.2 (let a = end.1 in omega (arith, a, read.most, fresh.most)) small, came.3)

pub large_from :
    (old new : WindowState) (most : ℕ) (P : List ℕ → List ℕ → Type 0) → Reads old new P → IsFresh old most → fault_of new.window.inflow ≡ Some faults.TooLarge
    → (bytes : List ℕ) × Consumes old.remaining new.remaining bytes × (most < length bytes)
large_from old new most P read fresh is =
    let came = came_from old new P read fresh.empty fresh.zero in
    let over = large_as new.window.inflow old.failures new (read.sound old.failures (fresh_sound old most fresh)) is in
    (came.0, came.1, many_came (length came.0) new.window.came most came.2 (let a = over.0 in omega (arith, a, read.most, fresh.most)) over.1)

pub failed_from :
    (old new : WindowState) (most : ℕ) (P : List ℕ → List ℕ → Type 0) → Reads old new P → IsFresh old most → fault_of new.window.inflow ≡ Some faults.Read
    → GrowsByOne old.failures new.failures
failed_from old new most P read fresh is = failed_as new.window.inflow old.failures new (read.sound old.failures (fresh_sound old most fresh)) is

pub well_from :
    (old new : WindowState) (most : ℕ) (P : List ℕ → List ℕ → Type 0) → Reads old new P → IsFresh old most → fault_of new.window.inflow ≢ Some faults.Read
    → new.failures ≡ old.failures
well_from old new most P read fresh other = well_as new.window.inflow old.failures new (read.sound old.failures (fresh_sound old most fresh)) other

-- what was found, where the entries could be held
pub judged_from :
    (view : View) (bytes : List ℕ) (parts : Result Header Stop) (found : Result Header CheckRefusal) → found_of parts ≡ Some found
    → MatchResult parts (IsRightWith view bytes) (StandsIn (RefusalStands view bytes)) → IsJudged view bytes found
judged_from view bytes (Ok header) found is p = let e : Ok header ≡ found = cc is in subst (IsJudged view bytes) e p
judged_from view bytes (Err (Refused refusal)) found is p = let e : Err refusal ≡ found = cc is in subst (IsJudged view bytes) e p
judged_from view bytes (Err Unheld) found is p = absurd (cc)

pub stopped_large : (i : Inflow) → stopped_by i ≡ faults.TooLarge → fault_of i ≡ Some faults.TooLarge
stopped_large Open e = absurd (cc)
stopped_large AtEnd e = absurd (cc)
stopped_large TooLarge e = refl
stopped_large Failed e = absurd (cc)

pub stopped_failed : (i : Inflow) → stopped_by i ≡ faults.Read → fault_of i ≡ Some faults.Read
stopped_failed Open e = absurd (cc)
stopped_failed AtEnd e = absurd (cc)
stopped_failed TooLarge e = absurd (cc)
stopped_failed Failed e = refl

-- nothing was found where the entries are not held
pub unheld_from : (parts : Result Header Stop) → found_of parts ≡ None → parts ≡ Err Unheld
unheld_from (Ok header) e = absurd (cc)
unheld_from (Err (Refused refusal)) e = absurd (cc)
unheld_from (Err Unheld) e = refl

-- memory was refused only where no more came than may
within_as : (i : Inflow) (n : ℕ) (at : WindowState) → IsSoundAs i n at → stopped_by i ≡ faults.Memory → at.window.came ≤ at.window.most
within_as Open n at h is = h.1
within_as AtEnd n at h is = h.1
within_as TooLarge n at h is = absurd (cc)
within_as Failed n at h is = absurd (cc)

-- entries that are all listed have come
few_listed : (count : ℕ) (bytes behind rest : List ℕ) (header : Header) → bytes ≡ header_bytes header ++ behind → AreListed count behind rest
    → 9 * count ≤ length bytes
few_listed count bytes behind rest header headed (es, listed, all) =
    let whole : length bytes ≡ length (header_bytes header) + (length listed.listed + length rest) =
    ap length headed ∙ length-append (header_bytes header) behind ∙ ap (λ n. length (header_bytes header) + n)
    (ap length listed.split ∙ length-append listed.listed rest)
    in
    let long = listed_long listed.listed es listed.spelled in
    omega (arith, whole, long, all)

few_told : (most : ℕ) (bytes rest : List ℕ) → CertificateNotStored most bytes rest → length bytes ≤ most → ClaimFitsFile most bytes
few_told most bytes rest are short = record {
  header = are.header;
  rest = are.behind;
  headed = are.headed;
  few = ⊎_elim (λ few. few) (λ listed. (let long = few_listed are.header.count bytes are.behind rest are.header are.headed listed in omega
      (arith, long, short))) are.why;
}

pub memory_from :
    (old new : WindowState) (most : ℕ) → Reads old new (CertificateNotStored old.window.most) → IsFresh old most → most < 2 ^ 32
    → stopped_by new.window.inflow ≡ faults.Memory
    → (bytes : List ℕ) × Consumes old.remaining new.remaining bytes × ClaimFitsFile most bytes
memory_from old new most read fresh small is =
    let came = came_from old new (CertificateNotStored old.window.most) read fresh.empty fresh.zero in
    let within = within_as new.window.inflow old.failures new (read.sound old.failures (fresh_sound old most fresh)) is in
    let short = few_came (length came.0) new.window.came most came.2 (omega (arith, within, read.most, fresh.most)) small in
    (came.0, came.1, few_told most came.0 new.window.buffer (subst (λ (n : ℕ). CertificateNotStored n came.0 new.window.buffer) fresh.most came.3) short)

pub stopped_well : (i : Inflow) → stopped_by i ≢ faults.Read → fault_of i ≢ Some faults.Read
stopped_well Open other = λ e. cc
stopped_well AtEnd other = λ e. cc
stopped_well TooLarge other = λ e. cc
stopped_well Failed other = absurd (other refl)
