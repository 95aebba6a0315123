-- Each key is that of its column.
use Rattle.std.proofs.Common.{◌≡◌, ◌∙◌, refl}
use Rattle.pmp_encoding.specs.declared.perm.Perm.{Perm}
use Rattle.pmp_encoding.specs.declared.perm.Perm.TheVariants.{NoAccess, Read, ReadWrite, Execute, ReadExecute, ReadWriteExecute}
use Rattle.chain_planner.specs.Keys.{middle_key, pass_key}
use Rattle.chain_planner.specs.Sixes.{across, at}
use Rattle.chain_planner.proofs.KeysLeast.{pass_same}
use Rattle.chain_planner.proofs.keys.pass_keys.Goals as goal

pub returns : goal.returns
returns c = go
  where
    same : (q : Perm) → pass_key (at c.middle_keys-middle.result) (across c.args.columns.now) q
        ≡ pass_key (middle_key (at c.args.low.now)) (across c.args.columns.now) q
    same q =
        pass_same (at c.middle_keys-middle.result) (middle_key (at c.args.low.now)) (across c.args.columns.now) q c.middle_keys-middle.ensures.keys

    go : (q : Perm) → at (record {
      none = c.pass_key.result;
      read = c.pass_key-2.result;
      read_write = c.pass_key-3.result;
      execute = c.pass_key-4.result;
      read_execute = c.pass_key-5.result;
      all = c.pass_key-6.result;
    }) q ≡ pass_key (middle_key (at c.args.low.now)) (across c.args.columns.now) q
    go NoAccess = c.pass_key.ensures.key (across c.args.columns.now) NoAccess (λ n. refl) ∙ same NoAccess
    go Read = c.pass_key-2.ensures.key (across c.args.columns.now) Read (λ n. refl) ∙ same Read
    go ReadWrite = c.pass_key-3.ensures.key (across c.args.columns.now) ReadWrite (λ n. refl) ∙ same ReadWrite
    go Execute = c.pass_key-4.ensures.key (across c.args.columns.now) Execute (λ n. refl) ∙ same Execute
    go ReadExecute = c.pass_key-5.ensures.key (across c.args.columns.now) ReadExecute (λ n. refl) ∙ same ReadExecute
    go ReadWriteExecute = c.pass_key-6.ensures.key (across c.args.columns.now) ReadWriteExecute (λ n. refl) ∙ same ReadWriteExecute
