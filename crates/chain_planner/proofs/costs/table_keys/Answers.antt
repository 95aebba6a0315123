-- Each row is that of its permission.
use Rattle.std.proofs.Common.{◌≡◌}
use Rattle.pmp_encoding.specs.declared.perm.Perm.{Perm}
use Rattle.pmp_encoding.specs.declared.perm.Perm.TheVariants.{NoAccess, Read, ReadWrite, Execute, ReadExecute, ReadWriteExecute}
use Rattle.chain_planner.specs.declared.six.Six.{Six}
use Rattle.chain_planner.specs.Keys.{through_key}
use Rattle.chain_planner.specs.Sixes.{across, at}
use Rattle.std.proofs.Common.{ℕ}
use Rattle.chain_planner.proofs.costs.table_keys.Goals as goal

pub returns : goal.returns
returns c = go
  where
    go :
        (p q : Perm)
        → at (at {T = Six ℕ} (record {
          none = c.through_keys.result;
          read = c.through_keys-2.result;
          read_write = c.through_keys-3.result;
          execute = c.through_keys-4.result;
          read_execute = c.through_keys-5.result;
          all = c.through_keys-6.result;
        }) p) q ≡ through_key (at (at c.args.low.now p)) (across c.args.columns.now) c.args.cover p q
    go NoAccess q = c.through_keys.ensures q
    go Read q = c.through_keys-2.ensures q
    go ReadWrite q = c.through_keys-3.ensures q
    go Execute q = c.through_keys-4.ensures q
    go ReadExecute q = c.through_keys-5.ensures q
    go ReadWriteExecute q = c.through_keys-6.ensures q
