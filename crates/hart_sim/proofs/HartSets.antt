-- The registers of the hosts and enclaves, on the harts and saved.
use Rattle.std.proofs.Common.{◌≡◌, ◌≢◌, ◌∙◌, ℕ, zero, suc, Bool, true, false, ◌==◌, if◌then◌else◌, List, [], ◌∷◌, Option, None, Some, slice_get, slice_set}
use Rattle.std.proofs.Common.{refl, ap, ap₂, sym, subst, arith}
use Rattle.std.specs.Prelude.{unwrap_or}
use Rattle.std.proofs.lemmas.Bool.{eqb-true, eq-eqb, both_ways, false_from_ne_true}
use Rattle.std.proofs.lemmas.Option.{same_Some}
use Rattle.pmp_encoding.specs.declared.limit.Limit.{Limit}
use Rattle.sbi_decode.specs.Registers.{RegisterFile}
use Rattle.sbi_decode.specs.Runners.{Runner, HostOf, EnclaveOf, runner_of}
use Rattle.sbi_decode.specs.declared.world.World.{World}
use Rattle.sbi_decode.specs.declared.world.World.TheVariants.{Host, Enclave as InEnclave}
use Rattle.context_switch.specs.declared.contexts.Contexts.{Contexts}
use Rattle.context_switch.specs.declared.hart.Hart.{Hart}
use Rattle.context_switch.specs.Harts.{number_of, world_of, registers_of}
use Rattle.monitor_core.specs.Changes.{is_same}
use Rattle.monitor_core.proofs.Cases.{both}
use Rattle.monitor_core.proofs.Put.{same_self}
use Rattle.hart_sim.specs.Parts.{AreHarts, IsHart, registers_in}
use Rattle.hart_sim.proofs.BankPlaces.{put_here, put_there, put_length}

-- whether a hart runs a host or an enclave
abbrev pub runs : Hart → Runner → Bool
runs hart who = is_same who (runner_of (number_of hart) (world_of hart))

-- the registers on the first hart that runs it
abbrev found : List Hart → Runner → Option RegisterFile
found [] who = None
found (hart ∷ harts) who = if runs hart who then Some (registers_of hart) else found harts who

-- the same among the harts but for the one at a place
abbrev pub others : List Hart → ℕ → Runner → Option RegisterFile
others [] n who = None
others (hart ∷ harts) zero who = found harts who
others (hart ∷ harts) (suc n) who = if runs hart who then Some (registers_of hart) else others harts n who

-- no enclave runs on two harts
abbrev pub IsAlone : (ℕ → World) → Type 0
IsAlone worlds = (i j id : ℕ) → worlds i ≡ InEnclave id → worlds j ≡ InEnclave id → i ≡ j

chosen : (r : Bool) (x rest d : RegisterFile) (o : Option RegisterFile) → (r ≡ false → rest ≡ unwrap_or o d)
    → (if r then x else rest) ≡ unwrap_or (if r then Some x else o) d
chosen true x rest d o is = refl
chosen false x rest d o is = is refl

by_found : (harts : List Hart) (contexts : Contexts) (who : Runner)
    → registers_in harts contexts who ≡ unwrap_or (found harts who) (registers_in [] contexts who)
by_found [] contexts who = refl
by_found (hart ∷ harts) contexts who = chosen (runs hart who) (registers_of hart) (registers_in harts contexts who) (registers_in [] contexts who)
    (found harts who)
    (λ off. by_found harts contexts who)

first_of : (r : Bool) (x rest d : RegisterFile) (o : Option RegisterFile) → (r ≡ true → o ≡ None) → rest ≡ unwrap_or o d
    → (if r then x else rest) ≡ unwrap_or o (if r then x else d)
first_of true x rest d o alone is = sym (ap (λ p. unwrap_or p x) (alone refl))
first_of false x rest d o alone is = is

-- what another hart runs is there, and all else on this hart or saved
split : (harts : List Hart) (contexts : Contexts) (n : ℕ) (hart : Hart) (who : Runner) → slice_get harts n ≡ Some hart
    → (runs hart who ≡ true → others harts n who ≡ None)
    → registers_in harts contexts who ≡ unwrap_or (others harts n who) (registers_in (hart ∷ []) contexts who)
split [] contexts n hart who at alone = absurd (let h : None ≡ Some hart = at in cc)
split (first ∷ harts) contexts zero hart who at alone =
    subst (λ h. registers_in (h ∷ harts) contexts who ≡ unwrap_or (found harts who) (registers_in (hart ∷ []) contexts who)) (sym (same_Some first hart at))
    (first_of (runs hart who) (registers_of hart) (registers_in harts contexts who) (registers_in [] contexts who) (found harts who) alone
    (by_found harts contexts who))
split (first ∷ harts) contexts (suc n) hart who at alone =
    chosen (runs first who) (registers_of first) (registers_in harts contexts who) (registers_in (hart ∷ []) contexts who) (others harts n who)
    (λ off. split harts contexts n hart who at
    (λ here. sym (ap (λ t. if t then Some (registers_of first) else others harts n who) off) ∙ alone here))

-- the other harts stay
pub others_put : (harts : List Hart) (n : ℕ) (hart : Hart) (who : Runner) → others (slice_set harts n hart) n who ≡ others harts n who
others_put [] n hart who = refl
others_put (first ∷ harts) zero hart who = refl
others_put (first ∷ harts) (suc n) hart who = ap (λ o. if runs first who then Some (registers_of first) else o) (others_put harts n hart who)

found_free : (harts : List Hart) (who : Runner) → ((i : ℕ) (b : Hart) → slice_get harts i ≡ Some b → runs b who ≡ false) → found harts who ≡ None
found_free [] who none = refl
found_free (first ∷ harts) who none = ap (λ t. if t then Some (registers_of first) else found harts who) (none 0 first refl)
    ∙ found_free harts who (λ i b at. none (suc i) b at)

others_free : (harts : List Hart) (n : ℕ) (who : Runner) → ((i : ℕ) (b : Hart) → i ≢ n → slice_get harts i ≡ Some b → runs b who ≡ false)
    → others harts n who ≡ None
others_free [] n who none = refl
others_free (first ∷ harts) zero who none = found_free harts who (λ i b at. none (suc i) b (λ e. absurd (omega (arith, e))) at)
others_free (first ∷ harts) (suc n) who none = ap (λ t. if t then Some (registers_of first) else others harts n who)
    (none 0 first (λ e. absurd (omega (arith, e))) refl)
    ∙ others_free harts n who (λ i b other at. none (suc i) b (λ e. other (omega (arith, e))) at)

-- what another hart runs has a place
found_at : (harts : List Hart) (who : Runner) (file : RegisterFile) → found harts who ≡ Some file → (i : ℕ) × (b : Hart) × (slice_get harts i ≡ Some b)
    × (runs b who ≡ true)
found_at [] who file is = absurd (let h : None ≡ Some file = is in cc)
found_at (first ∷ harts) who file is = both (runs first who) (λ yes. (0, first, refl, yes))
    (λ no. let rest = found_at harts who file (sym (ap (λ t. if t then Some (registers_of first) else found harts who) no) ∙ is) in
    (suc rest.0, rest.1, rest.2, rest.3))

pub others_at : (harts : List Hart) (n : ℕ) (who : Runner) (file : RegisterFile) → others harts n who ≡ Some file → (i : ℕ) × (b : Hart) × (i ≢ n)
    × (slice_get harts i ≡ Some b) × (runs b who ≡ true)
others_at [] n who file is = absurd (let h : None ≡ Some file = is in cc)
others_at (first ∷ harts) zero who file is = let f = found_at harts who file is in (suc f.0, f.1, (λ e. absurd (omega (arith, e))), f.2, f.3)
others_at (first ∷ harts) (suc n) who file is = both (runs first who) (λ yes. (0, first, (λ e. absurd (omega (arith, e))), refl, yes))
    (λ no. let rest = others_at harts n who file (sym (ap (λ t. if t then Some (registers_of first) else others harts n who) no) ∙ is) in
    (suc rest.0, rest.1, (λ e. rest.2 (omega (arith, e))), rest.3, rest.4))

pub same_is : (a b : Runner) → is_same a b ≡ true → a ≡ b
same_is (HostOf a) (HostOf b) is = ap HostOf (eqb-true a b is)
same_is (HostOf a) (EnclaveOf b) is = absurd (let h : false ≡ true = is in cc)
same_is (EnclaveOf a) (HostOf b) is = absurd (let h : false ≡ true = is in cc)
same_is (EnclaveOf a) (EnclaveOf b) is = ap EnclaveOf (eqb-true a b is)

-- two harts run two worlds
pub apart : (worlds : ℕ → World) → IsAlone worlds → (i j : ℕ) → runner_of i (worlds i) ≡ runner_of j (worlds j) → i ≡ j
apart worlds alone i j same = by (worlds i) (worlds j) refl refl same
  where
    by : (v w : World) → worlds i ≡ v → worlds j ≡ w → runner_of i v ≡ runner_of j w → i ≡ j
    by Host Host p q e = let h : HostOf i ≡ HostOf j = e in cc
    by Host (InEnclave b) p q e = absurd (let h : HostOf i ≡ EnclaveOf b = e in cc)
    by (InEnclave a) Host p q e = absurd (let h : EnclaveOf a ≡ HostOf j = e in cc)
    by (InEnclave a) (InEnclave b) p q e = let h : EnclaveOf a ≡ EnclaveOf b = e in let ids : a ≡ b = cc in alone i j a p (q ∙ ap InEnclave (sym ids))

pub runner_is : (hart : Hart) (n : ℕ) (world : World) (limit : Limit) → IsHart hart n world limit
    → runner_of (number_of hart) (world_of hart) ≡ runner_of n world
runner_is hart n world limit h = ap₂ runner_of h.number h.world

-- no other hart runs what runs on a hart
pub free : (harts : List Hart) (worlds : ℕ → World) (limit : Limit) (n : ℕ) (hart : Hart) (who : Runner) → AreHarts harts worlds limit → IsAlone worlds
    → slice_get harts n ≡ Some hart → runs hart who ≡ true → others harts n who ≡ None
free harts worlds limit n hart who are alone at here = others_free harts n who (λ i b other there. false_from_ne_true (runs b who) (λ on. other
    (apart worlds alone i n
    (sym (runner_is b i (worlds i) limit (are.each i b there)) ∙ sym (same_is who (runner_of (number_of b) (world_of b)) on)
    ∙ same_is who (runner_of (number_of hart) (world_of hart)) here ∙ runner_is hart n (worlds n) limit (are.each n hart at)))))

pub parted : (harts : List Hart) (worlds : ℕ → World) (limit : Limit) (contexts : Contexts) (n : ℕ) (hart : Hart) (who : Runner) → AreHarts harts worlds limit
    → IsAlone worlds → slice_get harts n ≡ Some hart
    → registers_in harts contexts who ≡ unwrap_or (others harts n who) (registers_in (hart ∷ []) contexts who)
parted harts worlds limit contexts n hart who are alone at = split harts contexts n hart who at (free harts worlds limit n hart who are alone at)

-- the registers of the world that runs on a hart are that hart's
pub running_are : (harts : List Hart) (worlds : ℕ → World) (limit : Limit) (contexts : Contexts) (n : ℕ) (hart : Hart) → AreHarts harts worlds limit
    → IsAlone worlds → slice_get harts n ≡ Some hart → registers_in harts contexts (runner_of n (worlds n)) ≡ registers_of hart
running_are harts worlds limit contexts n hart are alone at =
    let who = runner_of n (worlds n) in
    let yes : runs hart who ≡ true = ap (is_same who) (runner_is hart n (worlds n) limit (are.each n hart at)) ∙ same_self who in
    parted harts worlds limit contexts n hart who are alone at
    ∙ ap (λ o. unwrap_or o (registers_in (hart ∷ []) contexts who)) (free harts worlds limit n hart who are alone at yes)
    ∙ ap (λ t. if t then registers_of hart else registers_in [] contexts who) yes

-- another hart is put in its place
pub harts_put : (harts : List Hart) (worlds after : ℕ → World) (limit : Limit) (n : ℕ) (hart now : Hart) → AreHarts harts worlds limit
    → slice_get harts n ≡ Some hart → IsHart now n (after n) limit → ((i : ℕ) → i ≢ n → after i ≡ worlds i) → AreHarts (slice_set harts n now) after limit
harts_put harts worlds after limit n hart now are at is stay = record {
  four = put_length harts n now ∙ are.four;
  each = λ i b there. both (i == n)
      (λ e.
      let here : i ≡ n = eqb-true i n e in
      let same : b ≡ now = same_Some b now (sym there ∙ ap (slice_get (slice_set harts n now)) here ∙ put_here harts n hart now at) in
      subst (λ x. IsHart x i (after i) limit) (sym same) (subst (λ k. IsHart now k (after k) limit) (sym here) is))
      (λ e.
      let other : i ≢ n = λ same. both_ways (i == n) e (eq-eqb i n same) in
      subst (λ w. IsHart b i w limit) (sym (stay i other)) (are.each i b (sym (put_there harts n i now other) ∙ there)));
}

-- a hart with the same number, world and registers shows the same registers
pub put_alike : (harts : List Hart) (contexts : Contexts) (n : ℕ) (hart now : Hart) (who : Runner) → slice_get harts n ≡ Some hart
    → number_of now ≡ number_of hart → world_of now ≡ world_of hart → registers_of now ≡ registers_of hart
    → registers_in (slice_set harts n now) contexts who ≡ registers_in harts contexts who
put_alike [] contexts n hart now who at number world registers = absurd (let h : None ≡ Some hart = at in cc)
put_alike (first ∷ harts) contexts zero hart now who at number world registers =
    let is : first ≡ hart = same_Some first hart at in
    ap₂ (λ w file. if is_same who w then file else registers_in harts contexts who)
    (ap₂ runner_of (number ∙ ap number_of (sym is)) (world ∙ ap world_of (sym is))) (registers ∙ ap registers_of (sym is))
put_alike (first ∷ harts) contexts (suc n) hart now who at number world registers =
    ap (λ rest. if runs first who then registers_of first else rest) (put_alike harts contexts n hart now who at number world registers)
