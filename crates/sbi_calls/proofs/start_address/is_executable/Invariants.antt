use Rattle.std.proofs.Common.{◌≡◌, ◌↔◌, ◌-◌, true}
use Rattle.pmp_encoding.specs.Registers.{pairs_from}
use Rattle.sbi_calls.specs.StartAddresses.{FirstAllow, ListsAnswer}
use Rattle.sbi_calls.proofs.start_address.is_executable.Given as goal

abbrev pub invariant-loop-after : goal.invariant-loop-after
invariant-loop-after l = record {
  list : ListsAnswer (pairs_from l.bank.cfg l.bank.addr (64 - l.after) l.after) l.address l.answer;
  first : (l.answer ≡ true) ↔ FirstAllow (pairs_from l.bank.cfg l.bank.addr (64 - l.after) l.after) l.address;
}
