use Rattle.std.proofs.Common.{◌+◌, ◌<◌, ◌^◌, arith}
use Rattle.pmp_encoding.specs.declared.perm.Perm.{Perm}
use Rattle.certificate_format.specs.Costs.{cost_of}
use Rattle.certificate_check.proofs.Six.{six}
use Rattle.certificate_check.proofs.numbers.sums_of.Goals as goal

pub returns-clause-small : goal.returns-clause-small
returns-clause-small c =
    six (λ (p : Perm). cost_of (record {
      no_access = c.in_ok-no_access.no_access;
      read = c.in_ok-read.read;
      read_write = c.in_ok-read_write.read_write;
      execute
          = c.in_ok-execute.execute;
      read_execute = c.in_ok-read_execute.read_execute;
      read_write_execute = c.in_ok-read_write_execute.read_write_execute;
    }) p
    + 1 < 2 ^ 32)
    (omega (arith, c.in_ok-no_access.ensures)) (omega (arith, c.in_ok-read.ensures)) (omega (arith, c.in_ok-read_write.ensures))
    (omega (arith, c.in_ok-execute.ensures))
    (omega (arith, c.in_ok-read_execute.ensures)) (omega (arith, c.in_ok-read_write_execute.ensures))
