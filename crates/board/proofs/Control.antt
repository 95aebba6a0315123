-- Control words where a world writes them, and over a trap by what is said.
use Rattle.std.proofs.Common.{◌≡◌, ◌∙◌, ℕ, ◌==◌, ◌&&◌, Bool, true, false, if◌then◌else◌, Option, Some, None, refl, ap, sym, subst}
use Rattle.std.proofs.lemmas.Bool.{eq-eqb, eqb-true, ne_eqb}
use Rattle.sbi_decode.specs.Runners.{Runner}
use Rattle.sbi_decode.specs.Registers.{RegisterFile}
use Rattle.sbi_decode.specs.declared.world.World.TheVariants.{Host, Enclave as InEnclave}
use Rattle.monitor_core.specs.Changes.{is_host, is_same}
use Rattle.monitor_core.proofs.Cases.{both}
use Rattle.monitor_core.proofs.Put.{same_not, same_self}
use Rattle.trap_server.specs.Tables.{enclave_words}
use Rattle.trap_server.specs.declared.words.ControlWords.{ControlWords}
use Rattle.board.specs.Board.{Board, ChangesControl, DoesStart, DoesWrite, MayWrite, framed, starts, wrote}
use Rattle.board.specs.Headline.{HaveOwnControl, control_by, host_control}
use Rattle.board.specs.Held.{CanHold, Confines, ControlRegisters, held}

-- a hart has these words of an enclave's, and keeps those for its host
abbrev pub IsOwn : ControlRegisters → ControlWords → ControlWords → Type 0
IsOwn csrs has keeps = (has ≡ record (held csrs (enclave_words (framed keeps))) { status = has.status }) × Confines has

-- what a hart has and keeps after a trap
abbrev has_after : ControlRegisters → Option ControlWords → Bool → ControlWords → ControlWords → ControlWords
has_after csrs (Some words) same has kept = held csrs words
has_after csrs None true has kept = has
has_after csrs None false has kept = held csrs kept

abbrev keeps_after : Option ControlWords → ControlWords → ControlWords → ControlWords
keeps_after (Some words) has kept = has
keeps_after None has kept = kept

abbrev pub control_after : ControlRegisters → ℕ → Runner → Runner → Option ControlWords → (ℕ → ControlWords) → (ℕ → ControlWords) → ℕ → ControlWords
control_after csrs hart who next said control hosts h =
    if h == hart then has_after csrs said (is_same next who) (control hart) (hosts hart) else control h

abbrev pub hosts_after : ℕ → Option ControlWords → (ℕ → ControlWords) → (ℕ → ControlWords) → ℕ → ControlWords
hosts_after hart said control hosts h = if h == hart then keeps_after said (control hart) (hosts hart) else hosts h

-- so they change
pub control_changes :
    (old new : Board) (hart : ℕ) (who next : Runner) (said : Option ControlWords)
    → new.control ≡ control_after (old.csrs hart) hart who next said old.control old.hosts
    → new.hosts ≡ hosts_after hart said old.control old.hosts → ChangesControl old hart who next said new
control_changes old new hart who next said control hosts =
    let csrs = old.csrs hart in
    let had = old.control hart in
    let kept = old.hosts hart in
    let here = eq-eqb hart hart refl in
    let has : new.control hart ≡ has_after csrs said (is_same next who) had kept = ap (λ f. f hart) control
    ∙ ap (λ b. if b then has_after csrs said (is_same next who) had kept else had) here in
    let keeps : new.hosts hart ≡ keeps_after said had kept = ap (λ f. f hart) hosts ∙ ap (λ b. if b then keeps_after said had kept else kept) here in
    record {
      gets = λ words is. has ∙ ap (λ s. has_after csrs s (is_same next who) had kept) is;
      leaves = λ words is. keeps ∙ ap (λ s. keeps_after s had kept) is;
      goes_on = λ is same. has ∙ ap (λ s. has_after csrs s (is_same next who) had kept) is
          ∙ ap (λ b. has_after csrs None b had kept) (ap (is_same next) (sym same) ∙ same_self next);
      comes_back = λ is differ. has ∙ ap (λ s. has_after csrs s (is_same next who) had kept) is
          ∙ ap (λ b. has_after csrs None b had kept) (same_not next who differ);
      waits = λ is. keeps ∙ ap (λ s. keeps_after s had kept) is;
      harts = λ other differ. ap (λ f. f other) control
          ∙ ap (λ b. if b then has_after csrs said (is_same next who) had kept else old.control other) (ne_eqb other hart differ);
      others = λ other differ. ap (λ f. f other) hosts ∙ ap (λ b. if b then keeps_after said had kept else old.hosts other) (ne_eqb other hart differ);
    }

-- a write of who runs on a hart
module _ (old : Board) (hart : ℕ) (words : ControlWords) where
  abbrev after : ℕ → ControlWords
  after h = if h == hart then words else old.control h

  -- of hosts the one that runs there has these, and each other what it had
  here : (b host : Bool) (has kept : ControlWords)
      → (if host then (if b then words else has) else kept) ≡ (if b && host then words else (if host then has else kept))
  here true true has kept = refl
  here true false has kept = refl
  here false host has kept = refl

  pub wrote_host : (new : Board) → DoesWrite old hart words new → (h : ℕ)
      → host_control new h ≡ control_by (wrote hart words) old h (host_control old h)
  wrote_host new x h = ap (λ b. host_control b h) x.state ∙ here (h == hart) (is_host (old.monitor.worlds h)) (old.control h) (old.hosts h)
      ∙ both (h == hart)
      (λ yes. ap (λ k. if h == hart && is_host (old.monitor.worlds k) then words else host_control old h) (eqb-true h hart yes))
      (λ no. ap (λ b. if b && is_host (old.monitor.worlds h) then words else host_control old h) no
      ∙ sym (ap (λ b. if b && is_host (old.monitor.worlds hart) then words else host_control old h) no))

  -- an enclave's stay but for status
  own_stays : (id : ℕ) → old.monitor.worlds hart ≡ InEnclave id → MayWrite (old.monitor.worlds hart) (old.control hart) words
      → IsOwn (old.csrs hart) (old.control hart) (old.hosts hart) → IsOwn (old.csrs hart) words (old.hosts hart)
  own_stays id is may own =
      let same : words ≡ record (old.control hart) { status = words.status } = subst (λ w. MayWrite w (old.control hart) words) is may in (
        same ∙ ap (λ (c : ControlWords). record c { status = words.status }) own.0,
        subst Confines (sym same) (record {
          mode = own.1.mode;
          satp = own.1.satp;
          exceptions = own.1.exceptions;
          interrupts = own.1.interrupts;
          guests = own.1.guests;
        }),
      )

  pub wrote_own : (new : Board) → DoesWrite old hart words new → HaveOwnControl old → HaveOwnControl new
  wrote_own new x own = subst HaveOwnControl (sym x.state) (λ h id is. both (h == hart)
      (λ here.
      let same : h ≡ hart = eqb-true h hart here in
      let there : old.monitor.worlds hart ≡ InEnclave id = subst (λ k. old.monitor.worlds k ≡ InEnclave id) same is in
      subst (λ b. IsOwn (old.csrs h) (if b then words else old.control h) (old.hosts h)) (sym here)
      (subst (λ k. IsOwn (old.csrs k) words (old.hosts k)) (sym same) (own_stays id there x.may (own hart id there))))
      (λ far. subst (λ b. IsOwn (old.csrs h) (if b then words else old.control h) (old.hosts h)) (sym far) (own h id is)))

  -- each host has words that its hart can hold
  pub wrote_legal : (new : Board) → DoesWrite old hart words new → (h : ℕ) → CanHold (old.csrs h) (host_control old h)
      → CanHold (new.csrs h) (host_control new h)
  wrote_legal new x h before =
      subst (λ (b : Board). CanHold (b.csrs h) (host_control new h)) (sym x.state) (subst (CanHold (old.csrs h)) (sym (wrote_host new x h)) (both (h == hart)
      (λ yes.
      let can : CanHold (old.csrs h) words = subst (λ k. CanHold (old.csrs k) words) (sym (eqb-true h hart yes)) x.can in
      both (is_host (old.monitor.worlds hart))
      (λ host. subst (λ b. CanHold (old.csrs h) (if b then words else host_control old h)) (sym (ap (λ b. b && is_host (old.monitor.worlds hart)) yes ∙ host))
      can)
      (λ none. subst (λ b. CanHold (old.csrs h) (if b then words else host_control old h)) (sym (ap (λ b. b && is_host (old.monitor.worlds hart)) yes ∙ none))
      before))
      (λ no. subst (λ b. CanHold (old.csrs h) (if b then words else host_control old h)) (sym (ap (λ b. b && is_host (old.monitor.worlds hart)) no))
      before)))

-- a hart that is started
module _ (old : Board) (hart : ℕ) (file : RegisterFile) (words : ControlWords) (new : Board) (x : DoesStart old hart file words new) where
  pub starts_host : (h : ℕ) → host_control new h ≡ control_by (starts hart file words) old h (host_control old h)
  starts_host h = ap (λ b. host_control b h) x.state ∙ both (h == hart)
      (λ yes.
      let host : is_host (old.monitor.worlds h) ≡ true = ap (λ k. is_host (old.monitor.worlds k)) (eqb-true h hart yes) ∙ ap is_host x.host in
      ap (λ b. if b then (if h == hart then words else old.control h) else old.hosts h) host ∙ ap (λ b. if b then words else old.control h) yes
      ∙ sym (ap (λ b. if b then words else host_control old h) yes))
      (λ no. ap (λ b. if is_host (old.monitor.worlds h) then (if b then words else old.control h) else old.hosts h) no
      ∙ sym (ap (λ b. if b then words else host_control old h) no))

  pub starts_legal : (h : ℕ) → CanHold (old.csrs h) (host_control old h) → CanHold (new.csrs h) (host_control new h)
  starts_legal h before =
      subst (λ (b : Board). CanHold (b.csrs h) (host_control new h)) (sym x.state) (subst (CanHold (old.csrs h)) (sym (starts_host h)) (both (h == hart)
      (λ yes. subst (λ b. CanHold (old.csrs h) (if b then words else host_control old h)) (sym yes)
      (subst (λ k. CanHold (old.csrs k) words) (sym (eqb-true h hart yes)) x.can))
      (λ no. subst (λ b. CanHold (old.csrs h) (if b then words else host_control old h)) (sym no) before)))

  pub starts_own : HaveOwnControl old → HaveOwnControl new
  starts_own own = subst HaveOwnControl (sym x.state) (λ h id is. both (h == hart)
      (λ yes. absurd (let z : Host ≡ InEnclave id = sym x.host ∙ ap old.monitor.worlds (sym (eqb-true h hart yes)) ∙ is in cc))
      (λ no. subst (λ b. IsOwn (old.csrs h) (if b then words else old.control h) (old.hosts h)) (sym no) (own h id is)))
