-- A value for each permission.
use Rattle.std.specs.Prelude.{ℕ, ◌<◌}
use Rattle.pmp_encoding.specs.declared.perm.Perm.{Perm}
use Rattle.pmp_encoding.specs.declared.perm.Perm.TheVariants.{NoAccess, Read, ReadWrite, Execute}
use Rattle.pmp_encoding.specs.declared.perm.Perm.TheVariants.{ReadExecute, ReadWriteExecute}
use Rattle.chain_planner.specs.declared.six.Six.{Six}

-- the value for a permission
abbrev pub at : {T : Type 0} → Six T → Perm → T
at six NoAccess = six.none
at six Read = six.read
at six ReadWrite = six.read_write
at six Execute = six.execute
at six ReadExecute = six.read_execute
at six ReadWriteExecute = six.all

-- each of the six numbers is below n
pub record AreBelow (n : ℕ) (six : Six ℕ) : Type 0 where
  pub none : six.none < n
  pub read : six.read < n
  pub read_write : six.read_write < n
  pub execute : six.execute < n
  pub read_execute : six.read_execute < n
  pub all : six.all < n

-- the values of a table by its columns: that of the row n in the column q
abbrev pub across : {T : Type 0} → Six (Six T) → Perm → Perm → T
across columns n q = at (at columns q) n

-- each number of a table is below n
pub record AreAllBelow (n : ℕ) (six : Six (Six ℕ)) : Type 0 where
  pub none : AreBelow n six.none
  pub read : AreBelow n six.read
  pub read_write : AreBelow n six.read_write
  pub execute : AreBelow n six.execute
  pub read_execute : AreBelow n six.read_execute
  pub all : AreBelow n six.all
