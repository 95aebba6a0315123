use Rattle.std.proofs.Common.{◌≡◌, ◌∙◌, ◌*◌, ◌-◌, ◌^◌, ℕ, suc, ap, subst}
use Rattle.trap_server.specs.Tables.{enclave_words}
use Rattle.trap_server.specs.declared.host_words.HostWords.{HostWords}
use Rattle.board.specs.Held.{Confines, ControlRegisters, held}
use Rattle.library_tests.specs.Harts.{LeavesOpen}
use Rattle.library_tests.proofs.harts.each_is_needed.Goals as goal

-- a host that lets in all of its interrupts
abbrev open_host : HostWords
open_host = record { mie = 0x222; scounteren = 0 }

-- a number that is not zero
apart : (n : ℕ) → suc n ≡ 0 → ⊥
apart n is = cc

-- a trap writes the enclave's words to the hart, which holds others
opens : (registers : ControlRegisters) → (Confines (held registers (enclave_words open_host)) → ⊥) → LeavesOpen registers
opens registers never = (
  open_host,
  never,
  λ layout opened events old trap frame read question answered new run x same says confines.
      never (subst Confines
      (x.duties.control.gets (enclave_words open_host) says ∙ ap (λ (hart : ControlRegisters). held hart (enclave_words open_host)) same) confines),
)

pub returns : goal.returns
returns c = record {
  mode = opens _ (λ x. apart 0x7ff x.mode);
  satp = opens _ (λ x. apart (8 * 2 ^ 60 - 1) x.satp);
  exceptions = opens _ (λ x. apart 0x1f x.exceptions);
  monitors = opens _ (λ x. apart 0x7f x.interrupts);
  hosts = opens _ (λ x. apart 0x1f x.interrupts);
  others = opens _ (λ x. apart 0x3f x.interrupts);
  guests = opens _ (λ x. apart 0x1ff x.guests);
}
