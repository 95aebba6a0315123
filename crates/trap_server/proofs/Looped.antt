-- How far the loop has come.
use Rattle.std.proofs.Common.{◌≡◌, ◌⊎◌, ◌∙◌, ◌+◌, ◌<◌, inl, inr, ℕ, Bool, List, [], ◌++◌, length, take, Option, None, Result, Ok, Err, ap, sym, subst, refl}
use Rattle.std.proofs.Common.{append_assoc, append-nil}
use Rattle.std.specs.Io.KnownBytes.{Appends, Consumes}
use Rattle.std.proofs.KnownBytes.{Appends-trans, Consumes-trans}
use Rattle.platforms.specs.Platform.{PlatformLayout}
use Rattle.monitor_core.specs.declared.steps.Core.{Core}
use Rattle.monitor_core.specs.SetChanges.{no_change}
use Rattle.monitor_core.specs.declared.set_changes.SetChanges.{SetChanges}
use Rattle.monitor_core.specs.States.{MonitorState, opening_monitor}
use Rattle.trap_server.specs.declared.words.ControlWords.{ControlWords}
use Rattle.trap_server.specs.declared.trap.Trap.{Trap}
use Rattle.trap_server.specs.declared.frame_fault.FrameFault.{FrameFault}
use Rattle.trap_server.specs.declared.frame_fault.FrameFault.TheVariants as frames
use Rattle.trap_server.specs.declared.end.EndReason.{EndReason}
use Rattle.trap_server.specs.declared.end.EndReason.TheVariants as refusals
use Rattle.trap_server.specs.declared.fault.ServeFault.{ServeFault}
use Rattle.trap_server.specs.declared.answer.NewLists.TheVariants as lists
use Rattle.trap_server.specs.declared.fault.ServeFault.TheVariants as faults
use Rattle.trap_server.specs.Ends.{EndsAs, Refuses}
use Rattle.trap_server.specs.Boot.{no_changes, Boots, BootsOn, EndsAtFirst, IsFirstAnswer, MayOpen, RefusesFirst, StopsAtFirst, others}
use Rattle.trap_server.specs.Platforms.{IsNoPlatform, IsPlatformFrame, ReadsPlatform}
use Rattle.trap_server.specs.Traps.{IsNoTrap, IsTrapFrame, ReadsTrap}
use Rattle.trap_server.specs.Answered.{AreAwake, IsAnswer, no_answer}
use Rattle.trap_server.specs.Runs.{AreSaid, EndsEarly, Ran, RefusesNext, StopsBetween, StopsInside, trap_count}
use Rattle.trap_server.specs.Runs.{ServesTraps as Served}
use Rattle.trap_server.specs.Runs.{next_trap, no_trap}
use Rattle.trap_server.specs.Steps.{Serves}
use Rattle.trap_server.proofs.Served.{refuse_why}

-- the platform was read and answered, and traps were served from it to this state
pub record Progress (count : ℕ) (now : MonitorState) (before after held holds : Option (List ℕ)) : Type 0 where
  pub layout : PlatformLayout
  pub first : List ℕ
  pub opened : List ℕ
  pub read : List ℕ
  pub written : List ℕ
  pub size : length first ≡ 1336
  pub platform : IsPlatformFrame first layout
  pub may_open : MayOpen layout
  pub begins : IsFirstAnswer layout opened
  pub served : Served (opening_monitor layout) read written now
  pub said : AreSaid served
  pub counted : trap_count served ≡ count
  pub consumed : Consumes before after (first ++ read)
  pub appended : Appends held holds (opened ++ written)
  pub quiet : AreAwake now

consumed_as : (before after : Option (List ℕ)) (xs ys : List ℕ) → xs ≡ ys → Consumes before after xs → Consumes before after ys
consumed_as before after xs ys e c = subst (Consumes before after) e c

appended_as : (held holds : Option (List ℕ)) (xs ys : List ℕ) → xs ≡ ys → Appends held holds xs → Appends held holds ys
appended_as held holds xs ys e c = subst (Appends held holds) e c

-- the opening state
opened_at :
    (layout : PlatformLayout) (first opened : List ℕ) (before after held middle holds : Option (List ℕ)) → length first ≡ 1336 → IsPlatformFrame first layout
    → Consumes before after first → Appends held middle [] → MayOpen layout
    → IsFirstAnswer layout opened → Appends middle holds opened → Progress 0 (opening_monitor layout) before after held holds
opened_at layout first opened before after held middle holds size platform consumed nothing opens answer wrote = record {
  layout = layout;
  first = first;
  opened = opened;
  read = [];
  written = [];
  size = size;
  platform = platform;
  may_open = opens;
  begins = answer;
  served = no_trap;
  said = tt;
  counted = refl;
  consumed = consumed_as before after first (first ++ []) (sym (append-nil first)) consumed;
  appended = appended_as held holds opened (opened ++ []) (sym (append-nil opened)) (Appends-trans held middle holds [] opened nothing wrote);
  quiet = λ hart known. refl;
}

-- before any trap nothing becomes of register sets
none_is : (changes : SetChanges) → changes.first ≡ no_change → changes.second ≡ no_change → changes.third ≡ no_change → changes ≡ no_changes
none_is changes a b c = ap (λ x. record changes { first = x }) a ∙ ap (λ x. record { first = no_change; second = x; third = changes.third }) b
    ∙ ap (λ x. record { first = no_change; second = no_change; third = x }) c

pub with_none :
    (s : MonitorState) (given : Option ControlWords) (woken : List Bool) (changes : SetChanges) (bytes : List ℕ) → changes.first ≡ no_change
    → changes.second ≡ no_change → changes.third ≡ no_change → IsAnswer s given 0 no_answer None woken lists.Host changes bytes
    → IsAnswer s given 0 no_answer None woken lists.Host no_changes bytes
with_none s given woken changes bytes a b c is =
    subst (λ (x : SetChanges). IsAnswer s given 0 no_answer None woken lists.Host x bytes) (none_is changes a b c) is

-- the answer to the platform
pub opens :
    (s : MonitorState) (layout : PlatformLayout) (opened : List ℕ) (harts : ℕ) (woken : List Bool) → s ≡ opening_monitor layout
    → harts ≡ s.table.layout.harts → woken ≡ others harts → IsAnswer s None 0 no_answer None woken lists.Host no_changes opened
    → IsFirstAnswer layout opened
opens s layout opened harts woken is n w answer =
    let known = subst (λ ws. IsAnswer s None 0 no_answer None ws lists.Host no_changes opened)
    (w ∙ ap others (n ∙ ap (λ (x : MonitorState). x.table.layout.harts) is)) answer in
    subst (λ (x : MonitorState). IsAnswer x None 0 no_answer None (others layout.harts) lists.Host no_changes opened) is known

pub begins :
    (s : MonitorState) (layout : PlatformLayout) (first opened : List ℕ) (harts : ℕ) (woken : List Bool)
    (before after held middle holds : Option (List ℕ)) → length first ≡ 1336 → IsPlatformFrame first layout → s ≡ opening_monitor layout
    → Consumes before after first → Appends held middle [] → MayOpen layout → harts ≡ s.table.layout.harts → woken ≡ others harts
    → IsAnswer s None 0 no_answer None woken lists.Host no_changes opened → Appends middle holds opened → Progress 0 s before after held holds
begins s layout first opened harts woken before after held middle holds size platform is consumed nothing may n w answer wrote =
    subst (λ (x : MonitorState). Progress 0 x before after held holds) (sym is)
    (opened_at layout first opened before after held middle holds size platform consumed nothing may
    (opens s layout opened harts woken is n w answer) wrote)

-- it was not written whole
pub answer_stops :
    (fault : ServeFault) (s : MonitorState) (layout : PlatformLayout) (first answer : List ℕ) (n harts : ℕ) (woken : List Bool)
    (before after held middle holds : Option (List ℕ)) → length first ≡ 1336 → IsPlatformFrame first layout → s ≡ opening_monitor layout
    → Consumes before after first → Appends held middle [] → harts ≡ s.table.layout.harts → woken ≡ others harts → fault ≡ faults.Write
    → IsAnswer s None 0 no_answer None woken lists.Host no_changes answer → n < length answer → Appends middle holds (take n answer)
    → EndsAtFirst fault before after held holds
answer_stops fault s layout first answer n harts woken before after held middle holds size platform is consumed nothing h w write whole less wrote =
    let part = take n answer in (
      first,
      part,
      subst (λ f. StopsAtFirst f first part after) (sym write) (inr (
        layout,
        answer,
        size,
        platform,
        opens s layout answer harts woken is h w whole,
        (n, less, refl),
      )),
      consumed,
      Appends-trans held middle holds [] part nothing wrote,
    )

-- one trap more
pub goes_on :
    (count : ℕ) (old new : MonitorState) (trap : Trap) (frame : List ℕ) (harts : ℕ)
    (before now mid after held middle holds : Option (List ℕ)) → Progress count old before now held middle → length frame ≡ 96
    → IsTrapFrame frame harts trap
    → harts ≡ old.table.layout.harts → Consumes now mid frame → Serves (Ok tt) trap old new mid after middle holds
    → Progress (count + 1) new before after held holds
goes_on count old new trap frame harts before now mid after held middle holds p size is n came s = record {
  layout = p.layout;
  first = p.first;
  opened = p.opened;
  read = p.read ++ (frame ++ s.0);
  written = p.written ++ (s.2 ++ s.1);
  size = p.size;
  platform = p.platform;
  may_open = p.may_open;
  begins = p.begins;
  served = next_trap p.served trap frame s.0 s.1 s.2 s.3 new size (subst (λ k. IsTrapFrame frame k trap) n is) s.4;
  said = (p.said, s.5);
  counted = ap (λ k. k + 1) p.counted;
  consumed = consumed_as before after ((p.first ++ p.read) ++ (frame ++ s.0)) (p.first ++ (p.read ++ (frame ++ s.0)))
      (append_assoc p.first p.read (frame ++ s.0))
      (Consumes-trans before now after (p.first ++ p.read) (frame ++ s.0) p.consumed (Consumes-trans now mid after frame s.0 came s.8));
  appended = appended_as held holds ((p.opened ++ p.written) ++ (s.2 ++ s.1)) (p.opened ++ (p.written ++ (s.2 ++ s.1)))
      (append_assoc p.opened p.written (s.2 ++ s.1))
      (Appends-trans held middle holds (p.opened ++ p.written) (s.2 ++ s.1) p.appended s.9);
  quiet = s.6;
}

-- what came and was written after them
pub ran : (count : ℕ) (now : MonitorState) (before mid after held middle holds : Option (List ℕ)) (beyond rest : List ℕ)
    → Progress count now before mid held middle → Consumes mid after beyond → Appends middle holds rest → Ran before after held holds beyond rest
ran count now before mid after held middle holds beyond rest p came wrote = record {
  layout = p.layout;
  first = p.first;
  opened = p.opened;
  read = p.read;
  written = p.written;
  state = now;
  count = count;
  size = p.size;
  platform = p.platform;
  rules = p.may_open.0;
  fits = p.may_open.1;
  begins = p.begins;
  served = p.served;
  said = p.said;
  counted = p.counted;
  consumed = consumed_as before after ((p.first ++ p.read) ++ beyond) (p.first ++ (p.read ++ beyond)) (append_assoc p.first p.read beyond)
      (Consumes-trans before mid after (p.first ++ p.read) beyond p.consumed came);
  appended = appended_as held holds ((p.opened ++ p.written) ++ rest) (p.opened ++ (p.written ++ rest)) (append_assoc p.opened p.written rest)
      (Appends-trans held middle holds (p.opened ++ p.written) rest p.appended wrote);
}

-- and why the loop ends there
pub ended :
    (fault : ServeFault) (count : ℕ) (now : MonitorState) (before mid after held middle holds : Option (List ℕ))
    (beyond rest : List ℕ) → Progress count now before mid held middle → Consumes mid after beyond → Appends middle holds rest
    → StopsBetween fault count now beyond rest after ⊎ StopsInside fault now beyond rest after → EndsEarly fault before after held holds
unfolding ran
ended fault count now before mid after held middle holds beyond rest p came wrote why = inr
    (beyond, rest, ran count now before mid after held middle holds beyond rest p came wrote, why)

-- there is no next trap
pub next_refused :
    (result : ServeFault) (count : ℕ) (now : MonitorState) (before mid after held middle holds : Option (List ℕ)) (beyond : List ℕ)
    → Progress count now before mid held middle → Consumes mid after beyond
    → RefusesNext count now beyond after → Refuses result refusals.NotUnderstood middle holds → EndsEarly result before after held holds
next_refused result count now before mid after held middle holds beyond p came why refused =
    let e = refuse_why result refusals.NotUnderstood middle holds (λ f rest. StopsBetween f count now beyond rest after) refused (why, refl)
    (λ part off. (why, off)) in
    ended result count now before mid after held middle holds beyond e.0 p came e.2 (inl e.1)

-- a trap that was not read
pub read_stops :
    (result : ServeFault) (fault : FrameFault) (count : ℕ) (now : MonitorState) (trap : Trap) (harts : ℕ)
    (before mid after held middle holds : Option (List ℕ)) → Progress count now before mid held middle → harts ≡ now.table.layout.harts
    → ReadsTrap (Err fault) trap harts mid after → EndsAs result fault middle holds → EndsEarly result before after held holds
read_stops result frames.NotUnderstood count now trap harts before mid after held middle holds p n reads ends =
    next_refused result count now before mid after held middle holds reads.0 p reads.2 (inl (subst (λ k. IsNoTrap reads.0 k after) n reads.1)) ends
read_stops result frames.Read count now trap harts before mid after held middle holds p n reads ends =
    ended result count now before mid after held middle holds reads.0 [] p reads.2 ends.1
    (inl (subst (λ f. StopsBetween f count now reads.0 [] after) (sym ends.0) (reads.1, refl)))
read_stops result frames.Write count now trap harts before mid after held middle holds p n reads ends = absurd reads

-- a trap that was read and not served
pub trap_stops :
    (fault : ServeFault) (count : ℕ) (now : MonitorState) (new : MonitorState) (trap : Trap) (harts : ℕ) (frame : List ℕ)
    (before mid next after held middle holds : Option (List ℕ)) → Progress count now before mid held middle
    → harts ≡ now.table.layout.harts → length frame ≡ 96 → IsTrapFrame frame harts trap → Consumes mid next frame
    → Serves (Err fault) trap now new next after middle holds → EndsEarly fault before after held holds
trap_stops fault count now new trap harts frame before mid next after held middle holds p n size is came s =
    ended fault count now before mid after held middle holds (frame ++ s.0) s.1 p (Consumes-trans mid next after frame s.0 came s.3) s.4
    (inr (trap, frame, s.0, size, subst (λ k. IsTrapFrame frame k trap) n is, s.2, refl))

-- the first bytes are refused
pub first_refused :
    (result : ServeFault) (refusal : EndReason) (read : List ℕ) (before after held holds : Option (List ℕ)) → RefusesFirst refusal read after
    → Consumes before after read → Refuses result refusal held holds → EndsAtFirst result before after held holds
first_refused result refusal read before after held holds why came refused =
    let e = refuse_why result refusal held holds (λ f rest. StopsAtFirst f read rest after) refused (why, refl) (λ part off. inl (refusal, why, off)) in
    (read, e.0, e.1, came, e.2)

-- no platform was read
pub first_stops :
    (result : ServeFault) (fault : FrameFault) (before after held holds : Option (List ℕ)) → ReadsPlatform (Err fault) before after
    → EndsAs result fault held holds → EndsAtFirst result before after held holds
first_stops result frames.NotUnderstood before after held holds reads ends = first_refused result refusals.NotUnderstood reads.0 before after held holds
    (inl (reads.1, reads.2)) reads.3 ends
first_stops result frames.Read before after held holds reads ends = (
  reads.0,
  [],
  subst (λ f. StopsAtFirst f reads.0 [] after) (sym ends.0)
      (reads.1, refl),
  reads.2,
  ends.1,
)
first_stops result frames.Write before after held holds reads ends = absurd reads

pub refuses_first : (refusal : EndReason) (bytes : List ℕ) (after : Option (List ℕ)) → length bytes ≡ 1336 → IsNoPlatform refusal bytes
    → RefusesFirst refusal bytes after
refuses_first refusals.NotUnderstood bytes after size not = inr (size, not)
refuses_first (refusals.Platform fault) bytes after size not = (size, not)
refuses_first (refusals.NeedsEntries needed) bytes after size not = absurd not
refuses_first refusals.Memory bytes after size not = absurd not

-- the monitor on a platform that was read
pub booted :
    (result : Result Core ServeFault) (layout : PlatformLayout) (first : List ℕ) (before after held holds : Option (List ℕ)) → length first ≡ 1336
    → IsPlatformFrame first layout → Consumes before after first → BootsOn result layout held holds
    → Boots result before after held holds
booted (Ok monitor) layout first before after held holds size is consumed boots = (layout, first, size, is, boots.0, consumed, boots.1, boots.2)
booted (Err fault) layout first before after held holds size is consumed boots = (first, boots.0, boots.1 first after size is, consumed, boots.2)
