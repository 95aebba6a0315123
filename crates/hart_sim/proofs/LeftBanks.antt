-- The bank of each hart is as its own last event left it, or boot.
use Rattle.std.proofs.Common.{◌≡◌, ◌≢◌, ◌∙◌, inl, inr, ℕ, ◌<◌, ◌==◌, List, [], ◌∷◌, ◌++◌, Some, refl, ap, sym, subst, append_assoc, append-nil}
use Rattle.std.proofs.lemmas.Bool.{eq-eqb, eqb-true, both_ways}
use Rattle.pmp_encoding.specs.declared.bank.Bank.{Bank}
use Rattle.platforms.specs.Platform.{PlatformLayout}
use Rattle.enclave_table.specs.Views.{current_view}
use Rattle.hart_trace.specs.declared.event.Event.{Event}
use Rattle.hart_trace.specs.declared.reply.Reply.{Reply}
use Rattle.monitor_core.proofs.Cases.{both}
use Rattle.hart_sim.specs.declared.machine.Machine.{Machine}
use Rattle.hart_sim.specs.After.{After, AreElsewhere, IsBooted, booted, happened, Happens}
use Rattle.hart_sim.specs.Banks.{LoadsFewest}
use Rattle.hart_sim.specs.Headline.{IsLeft}
use Rattle.hart_sim.specs.Machines.{state_of, bank_on}
use Rattle.hart_sim.specs.Steps.{still, step}
use Rattle.hart_sim.proofs.Awake.{awake_then}
use Rattle.hart_sim.proofs.Layouts.{layout_stays}

pub elsewhere-snoc : (hart : ℕ) (events : List (ℕ × Event)) (there : ℕ) (event : Event) → AreElsewhere hart events → hart ≢ there
    → AreElsewhere hart (events ++ (there, event) ∷ [])
elsewhere-snoc hart [] there event e other = (other, tt)
elsewhere-snoc hart (first ∷ events) there event e other = (e.0, elsewhere-snoc hart events there event e.1 other)

-- after an event of its own the bank of a hart means the view of its world by the fewest entries
pub meant_then : (old new : Machine) (hart : ℕ) (event : Event) (reply : Reply) → Happens old hart event reply new → (bank : Bank)
    → bank_on new hart ≡ Some bank → LoadsFewest bank (current_view (state_of new).table ((state_of new).worlds hart))
meant_then old new hart event reply x bank has =
    x.kept hart bank (subst (λ l. hart < l.harts) (sym (layout_stays (state_of old) hart event reply (state_of new) x.happened)) x.known)
    (awake_then (state_of old) hart event reply (state_of new) x.happened) has

-- nothing happened since boot
at_boot : (platform : PlatformLayout) (hart : ℕ) (m : Machine) → hart < platform.harts → IsBooted platform m → IsLeft platform hart [] [] m
at_boot platform hart m low b = record {
  before = [];
  after = [];
  answered = [];
  rest = [];
  mid = m;
  events_part = refl;
  replies_part = refl;
  until = booted b;
  own = inl refl;
  since = still;
  elsewhere = tt;
  meant = λ bank has. b.banks hart bank (subst (λ n. hart < n) (sym (ap (λ s. s.table.layout.harts) b.state)) low) (ap (λ s. s.marked hart) b.state) has;
  stays = refl;
}

-- an event of its own
left_here : (platform : PlatformLayout) (events : List (ℕ × Event)) (replies : List Reply) (old new : Machine) (hart : ℕ) (event : Event) (reply : Reply)
    → After platform events replies old → Happens old hart event reply new → IsLeft platform hart (events ++ (hart, event) ∷ []) (replies ++ reply ∷ []) new
left_here platform events replies old new hart event reply a x = record {
  before = events ++ (hart, event) ∷ [];
  after = [];
  answered = replies ++ reply ∷ [];
  rest = [];
  mid = new;
  events_part = sym (append-nil (events ++ (hart, event) ∷ []));
  replies_part = sym (append-nil (replies ++ reply ∷ []));
  until = happened a hart event reply x;
  own = inr (events, event, refl);
  since = still;
  elsewhere = tt;
  meant = meant_then old new hart event reply x;
  stays = refl;
}

-- one event more, on another hart
left_further : (platform : PlatformLayout) (events : List (ℕ × Event)) (replies : List Reply) (old new : Machine) (hart there : ℕ) (event : Event)
    (reply : Reply) → hart ≢ there → Happens old there event reply new → IsLeft platform hart events replies old
    → IsLeft platform hart (events ++ (there, event) ∷ []) (replies ++ reply ∷ []) new
left_further platform events replies old new hart there event reply other x l = record {
  before = l.before;
  after = l.after ++ (there, event) ∷ [];
  answered = l.answered;
  rest = l.rest ++ reply ∷ [];
  mid = l.mid;
  events_part = ap (λ xs. xs ++ (there, event) ∷ []) l.events_part ∙ append_assoc l.before l.after ((there, event) ∷ []);
  replies_part = ap (λ xs. xs ++ reply ∷ []) l.replies_part ∙ append_assoc l.answered l.rest (reply ∷ []);
  until = l.until;
  own = l.own;
  since = step l.since there event reply x.known x.possible x.happened;
  elsewhere = elsewhere-snoc hart l.after there event l.elsewhere other;
  meant = l.meant;
  stays = x.others hart other ∙ l.stays;
}

pub left_of : (platform : PlatformLayout) (events : List (ℕ × Event)) (replies : List Reply) (m : Machine) → After platform events replies m → (hart : ℕ)
    → hart < platform.harts → IsLeft platform hart events replies m
left_of platform _ _ m (booted b) hart low = at_boot platform hart m low b
left_of platform _ _ m (happened {events} {replies} {old} a there event reply x) hart low = both (hart == there)
    (λ yes.
    let is : there ≡ hart = sym (eqb-true hart there yes) in
    subst (λ h. IsLeft platform hart (events ++ (h, event) ∷ []) (replies ++ reply ∷ []) m) (sym is)
    (left_here platform events replies old m hart event reply a (subst (λ h. Happens old h event reply m) is x)))
    (λ no. left_further platform events replies old m hart there event reply (λ is. both_ways (hart == there) no (eq-eqb hart there is)) x
    (left_of platform events replies old a hart low))
