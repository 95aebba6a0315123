-- The control registers of QEMU's hart, and of harts that cannot confine an enclave.
use Rattle.std.specs.Prelude.{◌≡◌, ◌≢◌, ℕ, ◌*◌, ◌-◌, ◌^◌, List, None, Some}
use Rattle.platforms.specs.Platform.{PlatformLayout}
use Rattle.monitor_core.specs.Switches.{runner_on}
use Rattle.trap_server.specs.Given.{said_words}
use Rattle.trap_server.specs.Tables.{enclave_words}
use Rattle.trap_server.specs.Words.{word_at}
use Rattle.trap_server.specs.declared.host_words.HostWords.{HostWords}
use Rattle.trap_server.specs.declared.trap.Trap.{Trap}
use Rattle.trap_server.specs.declared.words.ControlWords.{ControlWords}
use Rattle.board.specs.Board.{Board, BoardEvent, BoardRun, DoesTrap, runner_by}
use Rattle.board.specs.Held.{CanConfine, CanHold, Confines, ControlRegisters, held}

-- all registers are zero
abbrev pub zero_words : ControlWords
zero_words = record {
  status = 0;
  satp = 0;
  mie = 0;
  scounteren = 0;
  senvcfg = 0;
  hstatus = 0;
  medeleg = 0;
  mideleg = 0;
  mode = 0;
}

-- QEMU 7.2's hart of the virt board, with supervisor mode and guests: the values of its registers
-- after zeros and after ones were written. VSXL in hstatus is always 2, and a guest's interrupts in
-- mideleg are always 1. The hart ignores a write of an unsupported mode to satp, and of zero to UXL
-- in mstatus; an enclave's words contain neither
abbrev pub qemu_hart : ControlRegisters
qemu_hart = record {
  keeps = record {
    status = 0x3000c6722;
    satp = 2 ^ 64 - 1;
    mie = 0x3eee;
    scounteren = 2 ^ 64 - 1;
    senvcfg = 0xf1;
    hstatus = 0xfffffffcffffffdf;
    medeleg = 0xf0bfff;
    mideleg = 0x2222;
    mode = 0x8000001800;
  };
  fixed = record zero_words { hstatus = 0x200000000; mideleg = 0x1444 };
}

-- it can confine an enclave, although two of its registers do not read zero after zero was written
pub record QemuConfines : Type 0 where
  pub can : CanConfine qemu_hart
  pub mideleg : (held qemu_hart zero_words).mideleg ≡ 0x1444
  pub hstatus : (held qemu_hart zero_words).hstatus ≡ 0x200000000

-- that hart with other fixed bits
abbrev pub fixing : ControlWords → ControlRegisters
fixing words = record qemu_hart { fixed = words }

-- under some host the words that a hart holds for an enclave do not confine it. So, whatever
-- happened on a board before, no trap whose answer has an enclave's control words under this host
-- confines it
abbrev pub LeavesOpen : ControlRegisters → Type 0
LeavesOpen registers = (host : HostWords)
    × (Confines (held registers (enclave_words host)) → ⊥)
    × ((layout : PlatformLayout) (opened : List ℕ) (events : List BoardEvent) (old : Board)
    (trap : Trap) (frame read question answered : List ℕ) (new : Board)
    → BoardRun layout opened events old → DoesTrap old trap frame read question answered new
    → old.csrs trap.hart ≡ registers → said_words answered ≡ Some (enclave_words host)
    → Confines (new.control trap.hart) → ⊥)

-- each requirement of `CanConfine` is needed: a hart that violates only this one leaves an enclave
-- open
pub record NeedsEach : Type 0 where
  -- it always returns to supervisor mode (MPP is 1)
  pub mode : LeavesOpen (fixing (record zero_words { mode = 0x800 }))
  -- it always translates addresses (Sv39)
  pub satp : LeavesOpen (fixing (record zero_words { satp = 8 * 2 ^ 60 }))
  -- a load access fault always goes to supervisor mode
  pub exceptions : LeavesOpen (fixing (record zero_words { medeleg = 0x20 }))
  -- an interrupt always goes to supervisor mode: machine mode's timer interrupt; or supervisor
  -- mode's; or a guest's, which is always enabled
  pub monitors : LeavesOpen (fixing (record zero_words { mideleg = 0x80 }))
  pub hosts : LeavesOpen (fixing (record zero_words { mideleg = 0x20 }))
  pub others : LeavesOpen (fixing (record zero_words { mie = 0x40; mideleg = 0x40 }))
  -- user mode may always use a guest's loads and stores
  pub guests : LeavesOpen (fixing (record zero_words { hstatus = 0x200 }))

-- control words are kept for a host while an enclave runs on its hart. If the hart cannot hold
-- them, the host has others after a trap that brings it back
abbrev pub LosesControl : Type 0
LosesControl =
    (layout : PlatformLayout) (opened : List ℕ) (events : List BoardEvent) (old : Board)
    (trap : Trap) (frame read question answered : List ℕ) (new : Board)
    → BoardRun layout opened events old → DoesTrap old trap frame read question answered new
    → said_words answered ≡ None
    → runner_by trap.hart (word_at answered 2) ≢ runner_on old.monitor trap.hart
    → (CanHold (old.csrs trap.hart) (old.hosts trap.hart) → ⊥)
    → new.control trap.hart ≢ old.hosts trap.hart
