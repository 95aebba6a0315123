-- The register sets of hosts and enclaves, which stay with the harts. The loop keeps none.
use Rattle.std.specs.Prelude.{◌≡◌, ℕ, zero, suc, ◌+◌, List}
use Rattle.sbi_decode.specs.Calls.{call_of}
use Rattle.sbi_decode.specs.Registers.{RegisterFile, zeros}
use Rattle.sbi_decode.specs.Runners.{Runner}
use Rattle.monitor_core.specs.Cores.{core_state}
use Rattle.monitor_core.specs.States.{MonitorState}
use Rattle.monitor_core.specs.Switches.{runner_on}
use Rattle.monitor_core.specs.declared.set_changes.ChangeKind.{ChangeKind}
use Rattle.monitor_core.specs.declared.set_changes.ChangeKind.TheVariants as kinds
use Rattle.monitor_core.specs.declared.set_changes.SetChange.{SetChange}
use Rattle.monitor_core.specs.declared.set_changes.SetChanges.{SetChanges}
use Rattle.monitor_core.specs.declared.steps.Core.{Core}
use Rattle.trap_server.specs.Words.{word_at}
use Rattle.trap_server.specs.declared.trap.Trap.{Trap}

-- the state of the loop, with all registers zero
abbrev pub bare : Core → MonitorState
bare core = core_state core (λ who. zeros)

-- a state with these register sets
abbrev pub with_sets : MonitorState → (Runner → RegisterFile) → MonitorState
with_sets s sets = record s { registers = sets }

-- in these sets the world that trapped makes the call of the trap, whose frame has only a0 to a7
abbrev pub AreThere : MonitorState → Trap → (Runner → RegisterFile) → Type 0
AreThere s trap sets = call_of (sets (runner_on s trap.hart)) ≡ call_of trap.registers

-- the kind of a change by its number in a frame
abbrev pub kind_by : ℕ → ChangeKind
kind_by (suc zero) = kinds.PastCall
kind_by (suc (suc zero)) = kinds.Answer
kind_by (suc (suc (suc zero))) = kinds.Begin
kind_by (suc (suc (suc (suc zero)))) = kinds.Clear
kind_by _ = kinds.Nothing

-- the change in an answer from a word on: its kind, the owner of the set, and two words
abbrev pub change_at : List ℕ → ℕ → SetChange
change_at answered from = record {
  kind = kind_by (word_at answered from);
  enclave = word_at answered (from + 1);
  first = word_at answered (from + 2);
  second = word_at answered (from + 3);
}

-- the changes of register sets in an answer
abbrev pub said_changes : List ℕ → SetChanges
said_changes answered = record {
  first = change_at answered 11;
  second = change_at answered 15;
  third = change_at answered 19;
}
