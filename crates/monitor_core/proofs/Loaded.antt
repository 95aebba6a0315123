-- What is loaded on the harts stays right where the caller does as it is told.
use Rattle.std.proofs.Common.{◌≡◌, ◌≢◌, ◌∙◌, ℕ, ◌<◌, Bool, true, false, List, ◌==◌, if◌then◌else◌, refl, ap, sym, subst}
use Rattle.std.proofs.lemmas.Bool.{eq-eqb, eqb-true, both_ways}
use Rattle.pmp_encoding.specs.declared.region.Entry.{Entry}
use Rattle.pmp_match.specs.Meaning.{IsFewest}
use Rattle.enclave_table.proofs.SameViews.{fewest_same}
use Rattle.monitor_core.specs.Frames.{LoadsAnew}
use Rattle.monitor_core.specs.Loads.{KeepsLoaded, LoadsAsTold}
use Rattle.monitor_core.specs.States.{MonitorState, view_on, view_of}
use Rattle.monitor_core.proofs.Cases.{both}

-- the hart's own list, loaded anew or as it was
own : (old new : MonitorState) (hart : ℕ) (load : Bool) (entries : List Entry) (before after : ℕ → List Entry) → LoadsAnew load old new hart
    → IsFewest (view_on new hart) entries → LoadsAsTold load hart entries before after
    → IsFewest (view_on old hart) (before hart) → IsFewest (view_on new hart) (after hart)
own old new hart true entries before after anew fewest does was = subst (IsFewest (view_on new hart)) (sym (does.told refl)) fewest
own old new hart false entries before after anew fewest does was =
    subst (IsFewest (view_on new hart)) (sym (does.kept refl))
    (subst (λ t. IsFewest (view_of t (new.worlds hart)) (before hart)) (sym anew.0)
    (subst (λ w. IsFewest (view_of old.table w) (before hart)) (sym anew.1) was))

pub keeps_loaded : KeepsLoaded
keeps_loaded = record {
  served = λ old new hart load entries before after awake layout anew others fewest does right i low off.
      let under : i < old.table.layout.harts = subst (λ l. i < l.harts) layout low in
      both (i == hart)
      (λ e.
      let is : i ≡ hart = eqb-true i hart e in
      let at : hart < old.table.layout.harts = subst (λ n. n < old.table.layout.harts) is under in
      subst (λ n. IsFewest (view_on new n) (after n)) (sym is) (own old new hart load entries before after anew fewest does (right hart at awake)))
      (λ e.
      let other : i ≢ hart = λ is. both_ways (i == hart) e (eq-eqb i hart is) in
      subst (IsFewest (view_on new i)) (sym (does.others i other))
      (fewest_same (view_on old i) (view_on new i) (before i) (others.views i other under off) (right i under (others.awake i other off))));
  woken = λ old hart entries before after fewest does right i low off. both (i == hart)
      (λ e.
      let is : i ≡ hart = eqb-true i hart e in
      subst (λ n. IsFewest (view_on old n) (after n)) (sym is) (subst (IsFewest (view_on old hart)) (sym (does.told refl)) fewest))
      (λ e.
      let other : i ≢ hart = λ is. both_ways (i == hart) e (eq-eqb i hart is) in
      subst (IsFewest (view_on old i)) (sym (does.others i other))
      (right i low (sym (ap (λ b. if b then false else old.marked i) e) ∙ off)));
}
