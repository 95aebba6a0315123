-- Registers of zeros have no entry.
use Rattle.std.proofs.Common.{ap, [], map, arith}
use Rattle.pmp_encoding.specs.Extents.{extent_of}
use Rattle.pmp_encoding.proofs.Filled.{filled_none, filled_registers, filled_list}
use Rattle.pmp_encoding.proofs.Pairs.{one_list}
use Rattle.pmp_encoding.proofs.bank.Bank.empty.Goals as goal

pub invariant_of-result : goal.invariant_of-result
invariant_of-result c = record {
  registers = filled_registers [] _ _ (filled_none []) c.args.limit (omega arith);
  decoded = record {
    room = omega arith;
    in_order = λ entries list. ap (map extent_of) (one_list _ [] entries (filled_list [] _ _ (filled_none []) c.args.limit (omega arith)) list);
  };
}
