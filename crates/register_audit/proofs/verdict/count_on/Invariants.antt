-- How many of the entries so far are not OFF.
use Rattle.std.proofs.Common.{◌≡◌, ◌+◌, ◌≤◌, drop}
use Rattle.register_audit.specs.Registers.{count_on}
use Rattle.register_audit.proofs.verdict.count_on.Given as goal

abbrev pub invariant-loop-cfg : goal.invariant-loop-cfg
invariant-loop-cfg l = record {
  counted : l.count + count_on (drop l.cfg-index l.registers.cfgs) ≡ count_on l.registers.cfgs;
  few : l.count ≤ l.cfg-index;
}
