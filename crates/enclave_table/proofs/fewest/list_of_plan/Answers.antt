use Rattle.std.proofs.Common.{◌≡◌, ◌<◌, length, arith}
use Rattle.pmp_encoding.specs.Limits.{limit_number}
use Rattle.enclave_table.proofs.SameViews.{needs_of}
use Rattle.enclave_table.proofs.fewest.list_of_plan.Goals as goal

pub returns-clause-list : goal.returns-clause-list
returns-clause-list c = λ view fewest.
    let is : c.of.result ≡ c.args.plan.entries = c.of.ensures in
    record {
      fewest = rw is fewest;
      room = rw is (omega (arith, c.if-needed-number.false, c.needed.ensures, c.number.ensures.value));
    }

pub returns-then-needed-number-clause-want : goal.returns-then-needed-number-clause-want
returns-then-needed-number-clause-want c = λ view fewest.
    let more : limit_number c.args.limit < length c.args.plan.entries = omega (arith, c.if-needed-number.true, c.needed.ensures, c.number.ensures.value) in
    (length c.args.plan.entries, needs_of view c.args.plan.entries fewest, more)
