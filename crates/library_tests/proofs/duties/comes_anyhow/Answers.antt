use Rattle.std.proofs.Common.{◌≡◌, ◌≢◌, ◌∙◌, ℕ, suc, ◌==◌, if◌then◌else◌, ap, refl, subst, sym, arith}
use Rattle.std.proofs.lemmas.Bool.{eq-eqb, eqb-true}
use Rattle.sbi_decode.specs.Registers.{RegisterFile}
use Rattle.sbi_decode.specs.Runners.{Runner, HostOf, EnclaveOf, runner_of}
use Rattle.monitor_core.proofs.Cases.{both}
use Rattle.monitor_core.specs.Switches.{HasExited, runner_on}
use Rattle.trap_server.specs.Firmware.{AreThose}
use Rattle.board.specs.Board.{Board, DoesTrap, computed, happened, trapped}
use Rattle.board.specs.Held.{CanConfine, ControlRegisters}
use Rattle.library_tests.specs.Duties.{with_file}
use Rattle.library_tests.proofs.duties.comes_anyhow.Goals as goal

abbrev number : Runner → ℕ
number (HostOf hart) = hart
number (EnclaveOf id) = id

-- the registers an instruction later
abbrev moved : RegisterFile → RegisterFile
moved file = record file { pc = suc file.pc }

-- those are others
differs : (file : RegisterFile) → moved file ≢ file
differs file is =
    let same : suc file.pc ≡ file.pc = ap (λ (f : RegisterFile). f.pc) is in
    omega (arith, same)

-- what is put over what a hart has, and then put back
put_back : {A : Type 0} (h k : ℕ) (x : A) (f : ℕ → A) → (if k == h then f h else (if k == h then x else f k)) ≡ f k
put_back h k x f = both (k == h)
    (λ yes. ap (λ b. if b then f h else (if k == h then x else f k)) yes ∙ ap f (sym (eqb-true k h yes)))
    (λ no. ap (λ b. if b then f h else (if k == h then x else f k)) no ∙ ap (λ b. if b then x else f k) no)

put_self : {A : Type 0} (h k : ℕ) (f : ℕ → A) → (if k == h then f h else f k) ≡ f k
put_self h k f = both (k == h)
    (λ yes. ap (λ b. if b then f h else f k) yes ∙ ap f (sym (eqb-true k h yes)))
    (λ no. ap (λ b. if b then f h else f k) no)

-- the enclave goes on an instruction, and the trap comes with the registers of before
pub returns : goal.returns
returns c = λ layout opened events old trap frame read question answered new id run rules first can x stop enclave lived.
    let hart = trap.hart in
    let file = moved (old.running hart) in
    let mid : Board = record old {
      running = λ h. if h == hart then file else old.running h;
      floats = λ h. if h == hart then old.floats hart else old.floats h;
    } in
    let back : with_file mid hart (old.running hart) ≡ old = λ i. record old {
      running = λ k. put_back hart k file old.running i;
      floats = λ k. put_self hart k old.floats i;
    } in
    let can_new : (h : ℕ) → CanConfine (new.csrs h) = λ h. subst (λ (cs : ℕ → ControlRegisters). CanConfine (cs h)) (sym x.duties.csrs) (can h) in
    let after = (c.board_law.ensures layout opened _ new (happened run (trapped trap frame read question answered) x) rules first can_new).each.1 in
    let who : runner_on old.monitor hart ≡ EnclaveOf id = ap (runner_of hart) enclave in
    let came = after.2.came (λ other is exited.
    let one : other ≡ id = ap number (sym is ∙ who) in
    lived (subst (HasExited old.monitor new.monitor) one exited)) in
    let left : new.monitor.registers (EnclaveOf id) ≡ old.running hart =
    subst (λ event. AreThose event (old.running hart) (new.monitor.registers (EnclaveOf id))) stop
    (subst (λ (r : Runner). AreThose trap.event (old.running hart) (new.monitor.registers r)) who came) in (
      file,
      mid,
      happened run (computed hart file (old.floats hart)) (record {
        up = record { known = x.duties.is_trap.known; started = x.duties.started };
        memory = λ byte there. refl;
        state = refl;
      }),
      (old.running hart, subst (λ (b : Board). DoesTrap b trap frame read question answered new) (sym back) x),
      λ is. differs (old.running hart) (sym (ap (λ b. if b then file else old.running hart) (eq-eqb hart hart refl)) ∙ sym is ∙ left),
    )
