use Rattle.std.proofs.Common.{◌≡◌, ◌≢◌, ◌∙◌, ℕ, ap, subst, sym}
use Rattle.sbi_decode.specs.Registers.{RegisterFile}
use Rattle.sbi_decode.specs.Runners.{Runner, HostOf, EnclaveOf, runner_of}
use Rattle.sbi_decode.specs.declared.world.World.TheVariants.{Host, Enclave as InEnclave}
use Rattle.monitor_core.specs.Switches.{HasExited, runner_on}
use Rattle.trap_server.specs.Firmware.{AreThose}
use Rattle.board.specs.Board.{Board, aside, happened, trapped}
use Rattle.board.specs.Held.{CanConfine, ControlRegisters}
use Rattle.library_tests.proofs.fences.fence_on_board.Goals as goal

abbrev number : Runner → ℕ
number (HostOf hart) = hart
number (EnclaveOf id) = id

-- the law of the run with the fence, and with the trap after it
pub returns : goal.returns
returns c = λ layout opened events old mid new id on trap frame read question answered run rules first can enclave fence x lived.
    let hart = trap.hart in
    let can_mid : (h : ℕ) → CanConfine (mid.csrs h) = λ h. subst (λ (b : Board). CanConfine (b.csrs h)) (sym fence.state) (can h) in
    let can_new : (h : ℕ) → CanConfine (new.csrs h) = λ h. subst (λ (cs : ℕ → ControlRegisters). CanConfine (cs h)) (sym x.duties.csrs) (can_mid h) in
    let fenced = happened run (aside hart on) fence in
    let kept = (c.board_law.ensures layout opened _ mid fenced rules first can_mid).each.1 in
    let after = (c.board_law.ensures layout opened _ new (happened fenced (trapped trap frame read question answered) x) rules first can_new).each.1 in
    let no_host : old.monitor.worlds hart ≢ Host = λ is. let z : InEnclave id ≡ Host = sym enclave ∙ is in cc in
    let same : mid.running hart ≡ old.running hart = kept.2 no_host in
    let there : mid.monitor.worlds hart ≡ InEnclave id = ap (λ m. m.worlds hart) kept.0.monitor ∙ enclave in
    let who : runner_on mid.monitor hart ≡ EnclaveOf id = ap (runner_of hart) there in
    let came = after.2.came (λ other is exited.
    let one : other ≡ id = ap number (sym is ∙ who) in
    lived (subst (HasExited mid.monitor new.monitor) one exited)) in
    subst (λ (file : RegisterFile). AreThose trap.event file (new.monitor.registers (EnclaveOf id))) same
    (subst (λ (r : Runner). AreThose trap.event (mid.running hart) (new.monitor.registers r)) who came)
