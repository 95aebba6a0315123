-- Registers that are put on a hart are those of the world that runs there, and of no other.
use Rattle.std.proofs.Common.{◌≡◌, ◌≢◌, ℕ, true, false, if◌then◌else◌, refl, ap}
use Rattle.std.proofs.lemmas.Bool.{eq-eqb, ne_eqb}
use Rattle.sbi_decode.specs.Registers.{RegisterFile}
use Rattle.sbi_decode.specs.Runners.{Runner, HostOf, EnclaveOf, runner_of}
use Rattle.monitor_core.specs.Changes.{is_same, with_running}
use Rattle.monitor_core.specs.States.{MonitorState, running_registers}

pub same_self : (who : Runner) → is_same who who ≡ true
same_self (HostOf hart) = eq-eqb hart hart refl
same_self (EnclaveOf id) = eq-eqb id id refl

pub put_there : (s : MonitorState) (hart : ℕ) (file : RegisterFile) → running_registers (with_running s hart file) hart ≡ file
put_there s hart file = ap (λ b. if b then file else s.registers (runner_of hart (s.worlds hart))) (same_self (runner_of hart (s.worlds hart)))

pub same_not : (a b : Runner) → a ≢ b → is_same a b ≡ false
same_not (HostOf a) (HostOf b) n = ne_eqb a b (λ e. n (ap HostOf e))
same_not (HostOf a) (EnclaveOf b) n = refl
same_not (EnclaveOf a) (HostOf b) n = refl
same_not (EnclaveOf a) (EnclaveOf b) n = ne_eqb a b (λ e. n (ap EnclaveOf e))

pub put_other : (s : MonitorState) (hart : ℕ) (file : RegisterFile) (who : Runner) → who ≢ runner_of hart (s.worlds hart)
    → (with_running s hart file).registers who ≡ s.registers who
put_other s hart file who other = ap (λ b. if b then file else s.registers who) (same_not who (runner_of hart (s.worlds hart)) other)
