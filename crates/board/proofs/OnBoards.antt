-- A board that is as a state of the model.
use Rattle.std.proofs.Common.{ℕ, ◌≡◌, ◌≢◌, ◌-◌, ◌^◌, ◌<◌, Bool, false, List, ◌++◌, refl}
use Rattle.platforms.specs.Platform.{PlatformLayout}
use Rattle.sbi_decode.specs.Registers.{RegisterFile}
use Rattle.sbi_decode.specs.Runners.{Runner, runner_of}
use Rattle.enclave_table.specs.Tables.{IsTable}
use Rattle.enclave_table.specs.Views.{current_view}
use Rattle.monitor_core.specs.States.{MonitorState}
use Rattle.monitor_core.specs.Worlds.{ArePlaced}
use Rattle.hart_trace.specs.declared.event.Event.{Event}
use Rattle.hart_trace.specs.declared.reply.Reply.{Reply}
use Rattle.hart_sim.specs.States.{MachineState}
use Rattle.trap_server.specs.Answered.{AreAwake}
use Rattle.trap_server.specs.Firmware.{HasFewest}
use Rattle.trap_server.specs.declared.words.ControlWords.{ControlWords}
use Rattle.board.specs.Board.{Board, BoardEvent, BoardRun, no_floats}
use Rattle.board.specs.Held.{CanConfine, ControlRegisters}
use Rattle.board.specs.Model.{IsSeen}

-- a board that is as a state, with these registers of those that wait. Nobody computes in floating point
abbrev pub monitor_of : MachineState → (Runner → RegisterFile) → (ℕ → Bool) → MonitorState
monitor_of s registers marked = record {
  table = s.table;
  worlds = s.worlds;
  registers = registers;
  marked = marked;
}

-- control words of which none was written
abbrev pub no_words : ControlWords
no_words = record {
  status = 0;
  satp = 0;
  mie = 0;
  scounteren = 0;
  senvcfg = 0;
  hstatus = 0;
  medeleg = 0;
  mideleg = 0;
  mode = 0;
}

-- control registers that keep each bit of 64
abbrev all_bits : ℕ
all_bits = 2 ^ 64 - 1

abbrev pub any_csrs : ControlRegisters
any_csrs = record {
  keeps = record {
    status = all_bits;
    satp = all_bits;
    mie = all_bits;
    scounteren = all_bits;
    senvcfg = all_bits;
    hstatus = all_bits;
    medeleg = all_bits;
    mideleg = all_bits;
    mode = all_bits;
  };
  fixed = no_words;
}

abbrev pub board_of : MachineState → (Runner → RegisterFile) → (ℕ → Bool) → (ℕ → List ℕ) → (ℕ → List ℕ) → (ℕ → RegisterFile) → (ℕ → ControlWords)
    → (ℕ → ControlWords) → Board
board_of s registers marked lists loaded running control hosts = record {
  monitor = monitor_of s registers marked;
  memory = s.bytes;
  lists = lists;
  loaded = loaded;
  parked = λ hart. false;
  running = running;
  floats = λ hart. no_floats;
  kept = λ who. no_floats;
  control = control;
  hosts = hosts;
  csrs = λ hart. any_csrs;
}

pub any_confine : CanConfine any_csrs
any_confine = record { mode = refl; satp = refl; exceptions = refl; monitors = refl; hosts = refl; others = refl; guests = refl }

-- who runs on no hart
abbrev pub Waits : MachineState → Runner → Type 0
Waits s who = (hart : ℕ) → hart < s.table.layout.harts → who ≢ runner_of hart (s.worlds hart)

pub record OnBoard (layout : PlatformLayout) (opened : List ℕ) (seen : List BoardEvent) (s : MachineState) : Type 0 where
  pub registers : Runner → RegisterFile
  pub marked : ℕ → Bool
  pub lists : ℕ → List ℕ
  pub loaded : ℕ → List ℕ
  pub running : ℕ → RegisterFile
  pub control : ℕ → ControlWords
  pub hosts : ℕ → ControlWords
  pub runs : BoardRun layout opened seen (board_of s registers marked lists loaded running control hosts)
  pub waits : (who : Runner) → Waits s who → registers who ≡ s.registers who

-- what the theorem of a board says of one that is as a state
pub record IsGood (layout : PlatformLayout) (s : MachineState) (registers : Runner → RegisterFile) (marked : ℕ → Bool) (loaded : ℕ → List ℕ) : Type 0 where
  pub table : IsTable s.table
  pub platform : s.table.layout ≡ layout
  pub worlds : ArePlaced (monitor_of s registers marked)
  pub awake : AreAwake (monitor_of s registers marked)
  pub banks : (hart : ℕ) → hart < layout.harts → HasFewest (loaded hart) layout.limit (current_view s.table (s.worlds hart))

-- what is seen of a step
pub record Next (layout : PlatformLayout) (opened : List ℕ) (seen : List BoardEvent) (event : Event) (s : MachineState) (hart : ℕ) (reply : Reply)
    (new : MachineState) : Type 0 where
  pub now : List BoardEvent
  pub is_seen : IsSeen event s hart reply now
  pub on : OnBoard layout opened (seen ++ now) new
