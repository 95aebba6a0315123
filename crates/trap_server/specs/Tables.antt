-- The control words with which an enclave runs.
use Rattle.std.specs.Prelude.{ℕ, bit_and, bit_or}
use Rattle.trap_server.specs.declared.host_words.HostWords.{HostWords}
use Rattle.trap_server.specs.declared.words.ControlWords.{ControlWords}

-- in mstatus: UXL, bits 33:32, is 2, for 64 bits, and floating point is enabled: FS, bits 14:13, is
-- 1, Initial. The hart sets it to 3, Dirty, when a floating-point register changes; without
-- floating point it reads zero. Interrupts are off, data is little-endian, and vectors and
-- extensions are off
abbrev pub with_floats : ℕ
with_floats = 0x200002000

-- machine mode's software and timer interrupts, which are the monitor's (bits 3 and 7)
abbrev pub monitors_interrupts : ℕ
monitors_interrupts = 0x88

-- supervisor mode's software, timer and external interrupts, which are the host's (bits 1, 5 and 9)
abbrev pub hosts_interrupts : ℕ
hosts_interrupts = 0x222

-- in scounteren: user mode may read the time (TM, bit 1)
abbrev pub time : ℕ
time = 2

-- an enclave runs in 64-bit user mode without address translation. It may use floating point, and
-- every trap goes to machine mode. The monitor's interrupts, and those of the host's that the host
-- enables, stop it. It may read the time iff the host lets user mode read it
abbrev pub enclave_words : HostWords → ControlWords
enclave_words host = record {
  status = with_floats;
  satp = 0;
  mie = bit_or monitors_interrupts (bit_and host.mie hosts_interrupts);
  scounteren = bit_and host.scounteren time;
  senvcfg = 0;
  hstatus = 0;
  medeleg = 0;
  mideleg = 0;
  mode = 0;
}
