-- No bit so far is one.
use Rattle.std.proofs.Common.{◌≡◌, ◌-◌}
use Rattle.register_audit.specs.SecurityBits.{lowest_bit, lowest_from}
use Rattle.register_audit.proofs.security_bits.lowest_bit.Given as goal

abbrev pub invariant-loop-bit : goal.invariant-loop-bit
invariant-loop-bit l = lowest_from l.sort l.value l.bit (64 - l.bit) ≡ lowest_bit l.sort l.value
