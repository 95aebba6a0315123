-- The parts of a hart.
use Rattle.std.specs.Prelude.{ℕ}
use Rattle.std.specs.Borrow.{Lends, MutBor, Fml}
use Rattle.sbi_decode.specs.declared.world.World.{World}
use Rattle.pmp_encoding.specs.declared.bank.Bank.{Bank}
use Rattle.sbi_decode.specs.Registers.{RegisterFile}
use Rattle.sbi_decode.specs.contracts.registers.Registers as registers
use Rattle.context_switch.specs.declared.hart.Hart.{Hart}
use Rattle.context_switch.specs.contracts.hart.Hart as hart

-- the number of a hart
abbrev pub number_of : Hart → ℕ
number_of hart = hart.number

-- the world that runs on a hart
abbrev pub world_of : Hart → World
world_of hart = hart.world

-- the registers of the running world
abbrev pub registers_of : Hart → RegisterFile
registers_of hart = hart.registers

-- the loaded PMP registers
abbrev pub bank_of : Hart → Bank
bank_of hart = hart.bank

-- the hart with other registers
abbrev pub with_registers : Hart → RegisterFile → Hart
with_registers hart file = record hart { registers = file }

-- r borrows the hart's registers: they become what is last written through r, and the rest of the
-- hart stays the same
abbrev pub LendsRegisters : MutBor Hart → MutBor RegisterFile → Fml
LendsRegisters lender r = Lends hart.the_row registers.the_row lender r (with_registers lender.now)
