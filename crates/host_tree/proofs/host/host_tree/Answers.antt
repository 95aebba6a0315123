use Rattle.std.proofs.Common.{◌∙◌, refl}
use Rattle.host_tree.specs.Written.{plain_size}
use Rattle.host_tree.proofs.RootRefused.{read_refused}
use Rattle.host_tree.proofs.host.host_tree.Goals as goal

pub returns-in-Ok-written-clause-ok : goal.returns-in-Ok-written-clause-ok
returns-in-Ok-written-clause-ok c =
    let read = c.in-Ok.ensures.ok in
    let made = c.in-Ok-written.ensures.ok read.0 read.2 in
    record {
      board = read.0;
      made = made.0;
      reservations = c.in-Ok.read.reservations.items;
      read = read.1;
      is_made = made.1;
      spelt = made.2;
      boot_hart = c.in-Ok-written.ensures.boot_hart ∙ c.boot_hart_of-boot_hart.ensures;
    }

pub returns-in-Ok-written-clause-size : goal.returns-in-Ok-written-clause-size
returns-in-Ok-written-clause-size c =
    let read = c.in-Ok.ensures.ok in
    let made = c.in-Ok-written.ensures.ok read.0 read.2 in (
      plain_size made.0 c.in-Ok.read.reservations.items,
      (made.0, c.in-Ok.read.reservations.items, record { board = read.0; read = read.1; is_made = made.1 }, refl),
      made.3,
    )

pub returns-in-Ok-clause-refused : goal.returns-in-Ok-clause-refused
returns-in-Ok-clause-refused c =
    let read = c.in-Ok.ensures.ok in
    read_refused c.args.bytes.now c.args.ranges.now read.0 c.in-Ok.read.reservations.items read.1 c.in-Err-written.fault
    (c.in-Err-written.ensures.refused read.0 read.2)
