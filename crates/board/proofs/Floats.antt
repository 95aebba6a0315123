-- What each host and each enclave has in registers of floating point, over every event.
use Rattle.std.proofs.Common.{◌≡◌, ◌≢◌, ◌⊎◌, ◌∙◌, inl, inr, ℕ, zero, suc, ◌<◌, ◌==◌, false, if◌then◌else◌, List, refl, ap, sym, subst, arith}
use Rattle.std.proofs.lemmas.Bool.{both_ways, eq-eqb, eqb-true}
use Rattle.sbi_decode.specs.Runners.{Runner, runner_of}
use Rattle.sbi_decode.specs.declared.world.World.{World}
use Rattle.monitor_core.specs.Changes.{is_same}
use Rattle.monitor_core.specs.Switches.{runner_on}
use Rattle.monitor_core.specs.Worlds.{ArePlaced}
use Rattle.monitor_core.proofs.Cases.{both}
use Rattle.monitor_core.proofs.Put.{same_not, same_self}
use Rattle.board.specs.Board.{Board, ChangesFloats, Floats, HasEnded, SaysMade, no_floats}
use Rattle.board.specs.Headline.{floats_below, floats_of}
use Rattle.board.proofs.Runners.{alone, same_is}

module _ (worlds : ℕ → World) (floats : ℕ → Floats) (kept : Runner → Floats) (who : Runner) where
  -- one that runs on a hart and on no other has what that hart has
  there : (n hart : ℕ) → hart < n → who ≡ runner_of hart (worlds hart) → ((other : ℕ) → other < n → other ≢ hart → who ≢ runner_of other (worlds other))
      → floats_below n worlds floats kept who ≡ floats hart
  there zero hart low is only = absurd (omega (arith, low))
  there (suc n) hart low is only = both (is_same who (runner_of n (worlds n)))
      (λ yes. ap (λ b. if b then floats n else floats_below n worlds floats kept who) yes ∙ both (n == hart)
      (λ here. ap floats (eqb-true n hart here))
      (λ far. absurd (only n (omega arith) (λ same. both_ways (n == hart) far (eq-eqb n hart same)) (same_is who (runner_of n (worlds n)) yes))))
      (λ no.
      let past : n ≢ hart = λ same. both_ways (is_same who (runner_of n (worlds n))) no
      (ap (is_same who) (ap (λ h. runner_of h (worlds h)) same ∙ sym is) ∙ same_self who) in
      ap (λ b. if b then floats n else floats_below n worlds floats kept who) no
      ∙ there n hart (omega (arith, low, past)) is (λ other under. only other (omega (arith, under))))

  -- one that runs on none has what is kept for it
  nowhere : (n : ℕ) → ((hart : ℕ) → hart < n → who ≢ runner_of hart (worlds hart)) → floats_below n worlds floats kept who ≡ kept who
  nowhere zero none = refl
  nowhere (suc n) none = ap (λ b. if b then floats n else floats_below n worlds floats kept who)
      (same_not who (runner_of n (worlds n)) (none n (omega arith)))
      ∙ nowhere n (λ hart low. none hart (omega (arith, low)))

-- one that runs on none of some harts, or on one that has not changed, has what it had
unchanged :
    (old new : ℕ → World) (had has : ℕ → Floats) (kept keeps : Runner → Floats) (who : Runner) (n : ℕ) → keeps who ≡ kept who
    → ((hart : ℕ) → hart < n → ((new hart ≡ old hart) × (has hart ≡ had hart))
    ⊎ ((who ≢ runner_of hart (new hart)) × (who ≢ runner_of hart (old hart))))
    → floats_below n new has keeps who ≡ floats_below n old had kept who
unchanged old new had has kept keeps who zero same each = same
unchanged old new had has kept keeps who (suc n) same each =
    let rest = unchanged old new had has kept keeps who n same (λ hart low. each hart (omega (arith, low))) in
    elim (each n (omega arith)) [
      | inl stays ↦ ap (λ w. if is_same who (runner_of n w) then has n else floats_below n new has keeps who) stays.0
          ∙ ap (λ f. if is_same who (runner_of n (old n)) then f else floats_below n new has keeps who) stays.1
          ∙ ap (λ f. if is_same who (runner_of n (old n)) then had n else f) rest
      | inr none ↦ ap (λ b. if b then has n else floats_below n new has keeps who) (same_not who (runner_of n (new n)) none.0)
          ∙ rest ∙ sym (ap (λ b. if b then had n else floats_below n old had kept who) (same_not who (runner_of n (old n)) none.1))
    ]

-- who runs on a hart has what the hart has
pub runs_there : (board : Board) (hart : ℕ) → ArePlaced board.monitor → hart < board.monitor.table.layout.harts
    → floats_of board (runner_on board.monitor hart) ≡ board.floats hart
runs_there board hart placed known = there board.monitor.worlds board.floats board.kept (runner_on board.monitor hart)
    board.monitor.table.layout.harts hart known refl (λ other low differ. alone board.monitor hart other placed known low differ)

-- registers that are put on a hart
module _ (old : Board) (hart : ℕ) (floats : Floats) (placed : ArePlaced old.monitor) (known : hart < old.monitor.table.layout.harts) where
  abbrev put : ℕ → Floats
  put h = if h == hart then floats else old.floats h

  pub own_has : floats_below old.monitor.table.layout.harts old.monitor.worlds put old.kept (runner_on old.monitor hart) ≡ floats
  own_has = there old.monitor.worlds put old.kept (runner_on old.monitor hart) old.monitor.table.layout.harts hart known refl
      (λ other low differ. alone old.monitor hart other placed known low differ)
      ∙ ap (λ b. if b then floats else old.floats hart) (eq-eqb hart hart refl)

  pub others_have : (who : Runner) → who ≢ runner_on old.monitor hart
      → floats_below old.monitor.table.layout.harts old.monitor.worlds put old.kept who ≡ floats_of old who
  others_have who other =
      unchanged old.monitor.worlds old.monitor.worlds old.floats put old.kept old.kept who old.monitor.table.layout.harts refl (λ h low. both (h == hart)
      (λ here.
      let far : who ≢ runner_of h (old.monitor.worlds h) = λ is. other (is ∙ ap (λ k. runner_of k (old.monitor.worlds k)) (eqb-true h hart here)) in
      inr (far, far))
      (λ far. inl (refl, ap (λ b. if b then floats else old.floats h) far)))

-- a trap on a hart of that many
module _ (old new : Board) (hart : ℕ) (question answered : List ℕ) (known : hart < old.monitor.table.layout.harts)
    (same_harts : new.monitor.table.layout.harts ≡ old.monitor.table.layout.harts) (placed : ArePlaced old.monitor) (places : ArePlaced new.monitor)
    (stays : (other : ℕ) → other ≢ hart → new.monitor.worlds other ≡ old.monitor.worlds other)
    (x : ChangesFloats old hart (runner_on old.monitor hart) (runner_on new.monitor hart) question answered new) where
  abbrev came : Runner
  came = runner_on old.monitor hart

  abbrev next : Runner
  next = runner_on new.monitor hart

  abbrev harts : ℕ
  harts = old.monitor.table.layout.harts

  still : (other : ℕ) → other ≢ hart → runner_on new.monitor other ≡ runner_on old.monitor other
  still other differ = ap (runner_of other) (stays other differ)

  under : (h : ℕ) → h < harts → h < new.monitor.table.layout.harts
  under h low = subst (λ n. h < n) (sym same_harts) low

  -- who goes on runs nowhere else before, and who trapped nowhere else after
  next_elsewhere : (other : ℕ) → other < harts → other ≢ hart → next ≢ runner_on old.monitor other
  next_elsewhere other low differ is = alone new.monitor hart other places (under hart known) (under other low) differ (is ∙ sym (still other differ))

  came_elsewhere : (other : ℕ) → other < harts → other ≢ hart → came ≢ runner_on new.monitor other
  came_elsewhere other low differ is = alone old.monitor hart other placed known low differ (is ∙ still other differ)

  -- by whether a hart is the one of the trap
  at_hart : (P : ℕ → Type 0) (h : ℕ) → P hart → (h ≢ hart → P h) → P h
  at_hart P h here far = both (h == hart) (λ yes. subst P (sym (eqb-true h hart yes)) here)
      (λ off. far (λ same. both_ways (h == hart) off (eq-eqb h hart same)))

  after : (who : Runner) → floats_of new who ≡ floats_below harts new.monitor.worlds new.floats new.kept who
  after who = ap (λ n. floats_below n new.monitor.worlds new.floats new.kept who) same_harts

  -- where another goes on
  goes : next ≢ came → floats_of new next ≡ floats_of old next
  goes differ = runs_there new hart places (under hart known) ∙ x.enters differ
      ∙ sym (nowhere old.monitor.worlds old.floats old.kept next harts
      (λ h low. at_hart (λ k. next ≢ runner_on old.monitor k) h differ (next_elsewhere h low)))

  waits : next ≢ came → (HasEnded old.monitor new.monitor came → ⊥) → floats_of new came ≡ floats_of old came
  waits differ lives = after came
      ∙ nowhere new.monitor.worlds new.floats new.kept came harts
      (λ h low. at_hart (λ k. came ≢ runner_on new.monitor k) h (λ is. differ (sym is)) (came_elsewhere h low))
      ∙ x.leaves differ lives ∙ sym (runs_there old hart placed known)

  goes_on : next ≡ came → floats_of new came ≡ floats_of old came
  goes_on same = ap (floats_of new) (sym same) ∙ runs_there new hart places (under hart known) ∙ x.goes_on same ∙ sym (runs_there old hart placed known)

  other_stays : (who : Runner) → who ≢ came → who ≢ next → (SaysMade question answered who → ⊥)
      → (HasEnded old.monitor new.monitor who → ⊥) → floats_of new who ≡ floats_of old who
  other_stays who past ahead none lives = after who
      ∙ unchanged old.monitor.worlds new.monitor.worlds old.floats new.floats old.kept new.kept who harts (x.others who past none lives)
      (λ h low. at_hart (λ k. ((new.monitor.worlds k ≡ old.monitor.worlds k) × (new.floats k ≡ old.floats k))
      ⊎ ((who ≢ runner_on new.monitor k) × (who ≢ runner_on old.monitor k))) h (inr (ahead, past)) (λ differ. inl (stays h differ, x.harts h differ)))

  pub trap_stays : (who : Runner) → (SaysMade question answered who → ⊥) → (HasEnded old.monitor new.monitor who → ⊥)
      → floats_of new who ≡ floats_of old who
  trap_stays who none lives = both (is_same next came)
      (λ one.
      let same : next ≡ came = same_is next came one in
      both (is_same who came)
      (λ yes. let is : who ≡ came = same_is who came yes in ap (floats_of new) is ∙ goes_on same ∙ ap (floats_of old) (sym is))
      (λ no. other_stays who (apart who came no) (λ is. apart who came no (is ∙ same)) none lives))
      (λ two.
      let differ : next ≢ came = apart next came two in
      both (is_same who came)
      (λ yes. let is : who ≡ came = same_is who came yes in ap (floats_of new) is
      ∙ waits differ (λ ended. lives (subst (HasEnded old.monitor new.monitor) (sym is) ended)) ∙ ap (floats_of old) (sym is))
      (λ no. both (is_same who next)
      (λ yes. let is : who ≡ next = same_is who next yes in ap (floats_of new) is ∙ goes differ ∙ ap (floats_of old) (sym is))
      (λ far. other_stays who (apart who came no) (apart who next far) none lives)))
    where
      apart : (a b : Runner) → is_same a b ≡ false → a ≢ b
      apart a b off is = both_ways (is_same a b) off (ap (is_same a) (sym is) ∙ same_self a)

  -- one that runs nowhere and was made has zeros
  pub made_zero : (who : Runner) → SaysMade question answered who → ((h : ℕ) → h < new.monitor.table.layout.harts → who ≢ runner_on new.monitor h)
      → floats_of new who ≡ no_floats
  made_zero who made none = nowhere new.monitor.worlds new.floats new.kept who new.monitor.table.layout.harts none ∙ x.made who made

  -- one that runs nowhere and ended leaves zeros
  pub ended_zero : (who : Runner) → HasEnded old.monitor new.monitor who
      → ((h : ℕ) → h < new.monitor.table.layout.harts → who ≢ runner_on new.monitor h) → floats_of new who ≡ no_floats
  ended_zero who ended none = nowhere new.monitor.worlds new.floats new.kept who new.monitor.table.layout.harts none ∙ x.ends who ended
