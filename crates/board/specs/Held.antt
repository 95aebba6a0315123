-- The control registers of a hart, whose fields are WARL: they hold only some of the bits that are
-- written. Bits that must be able to be zero so that the hart confines an enclave.
use Rattle.std.specs.Prelude.{◌≡◌, ℕ, bit_and, bit_or}
use Rattle.trap_server.specs.Tables.{hosts_interrupts, monitors_interrupts}
use Rattle.trap_server.specs.declared.words.ControlWords.{ControlWords}

-- the control registers of a hart: for each register the writable bits, and the fixed value of the
-- others. A register that the hart lacks has no writable bits and is zero
pub record ControlRegisters : Type 0 where
  pub keeps : ControlWords
  pub fixed : ControlWords

-- the value of a register after a write of a word
abbrev pub held_word : ℕ → ℕ → ℕ → ℕ
held_word keeps fixed word = bit_or (bit_and word keeps) fixed

-- the values of a hart's registers after a write of these words
abbrev pub held : ControlRegisters → ControlWords → ControlWords
held hart words = record {
  status = held_word hart.keeps.status hart.fixed.status words.status;
  satp = held_word hart.keeps.satp hart.fixed.satp words.satp;
  mie = held_word hart.keeps.mie hart.fixed.mie words.mie;
  scounteren = held_word hart.keeps.scounteren hart.fixed.scounteren words.scounteren;
  senvcfg = held_word hart.keeps.senvcfg hart.fixed.senvcfg words.senvcfg;
  hstatus = held_word hart.keeps.hstatus hart.fixed.hstatus words.hstatus;
  medeleg = held_word hart.keeps.medeleg hart.fixed.medeleg words.medeleg;
  mideleg = held_word hart.keeps.mideleg hart.fixed.mideleg words.mideleg;
  mode = held_word hart.keeps.mode hart.fixed.mode words.mode;
}

-- words that the registers of a hart can hold: they read back unchanged
abbrev pub CanHold : ControlRegisters → ControlWords → Type 0
CanHold hart words = held hart words ≡ words

-- HU of hstatus, bit 9: allows user mode the loads and stores that use a guest's tables
abbrev pub guest_access : ℕ
guest_access = 0x200

-- these words confine an enclave: it runs in user mode, not as a guest, and without a page table.
-- No exception and no enabled interrupt goes to supervisor mode. User mode has no hypervisor loads
-- and stores
pub record Confines (words : ControlWords) : Type 0 where
  pub mode : words.mode ≡ 0
  pub satp : words.satp ≡ 0
  pub exceptions : words.medeleg ≡ 0
  pub interrupts : bit_and words.mie words.mideleg ≡ 0
  pub guests : bit_and words.hstatus guest_access ≡ 0

-- a hart can confine an enclave: these bits can be zero
pub record CanConfine (hart : ControlRegisters) : Type 0 where
  -- MPP and MPV of mstatus. Otherwise an enclave would run in supervisor mode or as a guest
  pub mode : hart.fixed.mode ≡ 0
  -- satp. Otherwise an enclave's addresses would be translated by a table that its host wrote
  pub satp : hart.fixed.satp ≡ 0
  -- medeleg. Otherwise an exception would enter the host with the enclave's registers
  pub exceptions : hart.fixed.medeleg ≡ 0
  -- the enable bits in mie of interrupts that always go to supervisor mode, such as a guest's on
  -- QEMU's hart (0x1444). Otherwise such an interrupt would do the same
  pub monitors : bit_and monitors_interrupts hart.fixed.mideleg ≡ 0
  pub hosts : bit_and hosts_interrupts hart.fixed.mideleg ≡ 0
  pub others : bit_and hart.fixed.mie hart.fixed.mideleg ≡ 0
  -- HU of hstatus. Otherwise an enclave could access memory through a guest's tables
  pub guests : bit_and hart.fixed.hstatus guest_access ≡ 0
