-- The six costs of a split block, one for each permission that it can inherit.
use Rattle.std.specs.Prelude.{ℕ, List, drop}
use Rattle.byteorder.specs.Endian.{little_number}
use Rattle.pmp_encoding.specs.declared.perm.Perm.{Perm}
use Rattle.pmp_encoding.specs.declared.perm.Perm.TheVariants.{NoAccess, Read, ReadWrite, Execute}
use Rattle.pmp_encoding.specs.declared.perm.Perm.TheVariants.{ReadExecute, ReadWriteExecute}
use Rattle.certificate_format.specs.declared.costs.SixCosts.{SixCosts}

-- the cost of a block that inherits this permission
abbrev pub cost_of : SixCosts → Perm → ℕ
cost_of costs NoAccess = costs.no_access
cost_of costs Read = costs.read
cost_of costs ReadWrite = costs.read_write
cost_of costs Execute = costs.execute
cost_of costs ReadExecute = costs.read_execute
cost_of costs ReadWriteExecute = costs.read_write_execute

-- the costs in six little-endian numbers of four bytes each
abbrev pub costs_in : List ℕ → SixCosts
costs_in bytes = record {
  no_access = little_number 4 bytes;
  read = little_number 4 (drop 4 bytes);
  read_write = little_number 4 (drop 8 bytes);
  execute = little_number 4 (drop 12 bytes);
  read_execute = little_number 4 (drop 16 bytes);
  read_write_execute = little_number 4 (drop 20 bytes);
}

-- the costs as a record, from a function of the permission
abbrev pub six_of : (Perm → ℕ) → SixCosts
six_of costs = record {
  no_access = costs NoAccess;
  read = costs Read;
  read_write = costs ReadWrite;
  execute = costs Execute;
  read_execute = costs ReadExecute;
  read_write_execute = costs ReadWriteExecute;
}
