use Rattle.std.proofs.Common.{◌≡◌, ℕ, ◌-◌, if◌then◌else◌, slice_index}
use Rattle.pmp_encoding.specs.Registers.{byte_of}
use Rattle.hart_sim.specs.Memory.{in_range}
use Rattle.hart_sim.proofs.page_bytes.put_bytes.Given as goal

abbrev pub invariant-loop-i : goal.invariant-loop-i
invariant-loop-i l = (k : ℕ) → slice_index l.page k ≡ (if in_range l.at l.i k then byte_of l.value (k - l.at) else slice_index l.fn.page k)
