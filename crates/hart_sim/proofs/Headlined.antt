-- The headline, by induction over the events.
use Rattle.std.proofs.Common.{◌≡◌, ◌⊎◌, ◌∙◌, inl, inr, ℕ, ◌<◌, List, [], ◌∷◌, ◌++◌, refl, ap, ap₂, sym, subst, append_assoc}
use Rattle.platforms.specs.Platform.{PlatformLayout, IsLayout}
use Rattle.enclave_table.specs.Tables.{IsTable}
use Rattle.hart_trace.specs.declared.event.Event.{Event}
use Rattle.hart_sim.specs.declared.machine.Machine.{Machine}
use Rattle.hart_trace.specs.declared.reply.Reply.{Reply}
use Rattle.hart_sim.specs.Machines.{state_of, KeepsBanksRight}
use Rattle.hart_sim.specs.States.{MachineState, opening_state}
use Rattle.hart_sim.specs.Steps.{Run, still, step}
use Rattle.hart_sim.specs.After.{After, booted, happened, Happens}
use Rattle.hart_sim.specs.Headline.{Moment, Headline}
use Rattle.hart_sim.proofs.BankPlaces.{some_bank}
use Rattle.hart_sim.proofs.Layouts.{layout_stays}
use Rattle.hart_sim.proofs.LeftBanks.{left_of}
use Rattle.hart_sim.proofs.Promises.{promised}
use Rattle.monitor_core.proofs.SoundTables.{opening_sound}
use Rattle.hart_sim.proofs.SoundTables.{run_sound}
use Rattle.hart_sim.proofs.WorldsKept.{worlds_kept}

-- what boot said of the platform
rules_of : (platform : PlatformLayout) (events : List (ℕ × Event)) (replies : List Reply) (m : Machine) → After platform events replies m → IsLayout platform
rules_of platform _ _ m (booted b) = b.rules
rules_of platform _ _ m (happened {events} {replies} {old} a hart event reply x) = rules_of platform events replies old a

pub run_of : (platform : PlatformLayout) (events : List (ℕ × Event)) (replies : List Reply) (m : Machine) → After platform events replies m
    → Run (opening_state platform) events replies (state_of m)
run_of platform _ _ m (booted b) = subst (Run (opening_state platform) [] []) (sym b.state) still
run_of platform _ _ m (happened {events} {replies} {old} a hart event reply x) = step
    (run_of platform events replies old a) hart event reply x.known x.possible x.happened

pub banks_of : (platform : PlatformLayout) (events : List (ℕ × Event)) (replies : List Reply) (m : Machine) → After platform events replies m
    → KeepsBanksRight m
banks_of platform _ _ m (booted b) = b.banks
banks_of platform _ _ m (happened a hart event reply x) = x.kept

pub layout_of : (platform : PlatformLayout) (s : MachineState) (events : List (ℕ × Event)) (replies : List Reply)
    → Run (opening_state platform) events replies s
    → s.table.layout ≡ platform
layout_of platform _ _ _ still = refl
layout_of platform s _ _ (step {events} {replies} {mid} run hart event reply low possible x) = layout_stays mid hart event reply s x
    ∙ layout_of platform mid events replies run

table_of : (platform : PlatformLayout) (events : List (ℕ × Event)) (replies : List Reply) (m : Machine) → After platform events replies m
    → IsTable (state_of m).table
table_of platform events replies m a = run_sound (opening_state platform) (state_of m) events replies
    (opening_sound platform (rules_of platform events replies m a)) (run_of platform events replies m a)

-- where a list with one more at its end is parted, the part is that one, or it stands before it
parted : {X : Type 0} (xs : List X) (x : X) (before : List X) (y : X) (after : List X) → xs ++ x ∷ [] ≡ before ++ y ∷ after
    → ((xs ≡ before) × (x ≡ y) × (after ≡ [])) ⊎ ((init : List X) × (after ≡ init ++ x ∷ []) × (xs ≡ before ++ y ∷ init))
parted [] x [] y after e = inl (refl, cc, cc)
parted [] x (b ∷ before) y after e = absurd (not_nil before y after cc)
  where
    not_nil : {X : Type 0} (before : List X) (y : X) (after : List X) → [] ≡ before ++ y ∷ after → ⊥
    not_nil [] y after e = cc
    not_nil (b ∷ before) y after e = cc
parted (first ∷ xs) x [] y after e = inr (xs, cc, cc)
parted (first ∷ xs) x (b ∷ before) y after e =
    let heads : first ≡ b = cc in
    let tails : xs ++ x ∷ [] ≡ before ++ y ∷ after = cc in
    elim (parted xs x before y after tails) [
      | inl p ↦ inl (ap₂ ◌∷◌ heads p.0, p.1, p.2)
      | inr p ↦ inr (p.0, p.1, ap₂ ◌∷◌ heads p.2)
    ]

none_parted : {X : Type 0} (before : List X) (y : X) (after : List X) → [] ≡ before ++ y ∷ after → ⊥
none_parted [] y after e = cc
none_parted (b ∷ before) y after e = cc

-- the last event
last : (platform : PlatformLayout) (events before : List (ℕ × Event)) (replies : List Reply) (old new : Machine) (hart there : ℕ) (event that : Event)
    (reply : Reply) (after : List (ℕ × Event)) → After platform events replies old → Happens old there that reply new
    → events ≡ before → ◌≡◌ {A = ℕ × Event} (there, that) (hart, event) → after ≡ [] → Moment platform before hart event after (replies ++ reply ∷ []) new
last platform events before replies old new hart there event that reply after a x front same none =
    let is : Happens old hart event reply new = subst (λ (p : ℕ × Event). Happens old p.0 p.1 reply new) same x in
    record {
      answered = replies;
      reply = reply;
      rest = [];
      replies_part = refl;
      old = old;
      new = new;
      until = subst (λ es. After platform es replies old) front a;
      happened = is;
      promises = promised (state_of old) hart event reply (state_of new) (table_of platform events replies old a) is.happened;
      since = subst (λ es. Run (state_of new) es [] (state_of new)) (sym none) still;
    }

-- one before the last
further : (platform : PlatformLayout) (before init after : List (ℕ × Event)) (replies : List Reply) (old new : Machine) (hart there : ℕ) (event that : Event)
    (reply : Reply) → Moment platform before hart event init replies old → Happens old there that reply new
    → after ≡ init ++ (there, that) ∷ [] → Moment platform before hart event after (replies ++ reply ∷ []) new
further platform before init after replies old new hart there event that reply m x is = record {
  answered = m.answered;
  reply = m.reply;
  rest = m.rest ++ reply ∷ [];
  replies_part = ap (λ rs. rs ++ reply ∷ []) m.replies_part ∙ append_assoc m.answered (m.reply ∷ m.rest) (reply ∷ []);
  old = m.old;
  new = m.new;
  until = m.until;
  happened = m.happened;
  promises = m.promises;
  since = subst (λ es. Run (state_of m.new) es (m.rest ++ reply ∷ []) (state_of new)) (sym is) (step m.since there that reply x.known x.possible x.happened);
}

moment_of : (platform : PlatformLayout) (events : List (ℕ × Event)) (replies : List Reply) (m : Machine) → After platform events replies m
    → (before : List (ℕ × Event)) (hart : ℕ) (event : Event) (after : List (ℕ × Event)) → events ≡ before ++ (hart, event) ∷ after
    → Moment platform before hart event after replies m
moment_of platform _ _ m (booted b) before hart event after is = absurd (none_parted before (hart, event) after is)
moment_of platform _ _ m (happened {events} {replies} {old} a there that reply x) before hart event after is = elim
    (parted events (there, that) before (hart, event) after is) [
      | inl p ↦ last platform events before replies old m hart there event that reply after a x p.0 p.1 p.2
      | inr p ↦ further platform before p.0 after replies old m hart there event that reply
          (moment_of platform events replies old a before hart event p.0 p.2) x p.1
    ]

pub headline : (platform : PlatformLayout) (events : List (ℕ × Event)) (replies : List Reply) (machine : Machine) → After platform events replies machine
    → Headline platform events replies machine
headline platform events replies m a =
    let run = run_of platform events replies m a in
    let layout = layout_of platform (state_of m) events replies run in
    record {
      run = run;
      banks = λ hart low awake. let b = some_bank m hart (subst IsLayout (sym layout) (rules_of platform events replies m a))
          (subst (λ l. hart < l.harts) (sym layout) low) in (
            b.0,
            b.1,
            banks_of platform events replies m a hart b.0
                (subst (λ l. hart < l.harts) (sym layout) low) awake b.1,
          );
      left = left_of platform events replies m a;
      each = moment_of platform events replies m a;
      worlds = worlds_kept platform events replies (state_of m) run;
      table = table_of platform events replies m a;
      layout = layout;
    }
