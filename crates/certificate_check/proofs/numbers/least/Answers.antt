use Rattle.std.proofs.Common.{refl}
use Rattle.pmp_encoding.specs.declared.perm.Perm.TheVariants.{NoAccess, Read, ReadWrite, Execute, ReadExecute, ReadWriteExecute}
use Rattle.certificate_check.proofs.Six.{lesser}
use Rattle.certificate_check.proofs.numbers.least.Goals as goal

pub returns-clause-one : goal.returns-clause-one
returns-clause-one c =
    let numbers = c.args.costs.now in
    let readable = lesser numbers _ _ _ c.min-readable.ensures (Read, refl) (ReadWrite, refl) in
    let executable = lesser numbers _ _ _ c.min-executable.ensures (Execute, refl) (ReadExecute, refl) in
    let extremes = lesser numbers _ _ _ c.min-extremes.ensures (NoAccess, refl) (ReadWriteExecute, refl) in
    lesser numbers _ _ _ c.min.ensures (lesser numbers _ _ _ c.min-some.ensures readable executable) extremes
