-- An entry takes the place of its size, or the one there hides it.
use Rattle.std.proofs.Common.{arith}
use Rattle.certificate_check.proofs.Opened.{entry_begins, entry_hidden}
use Rattle.certificate_check.proofs.begun.begin.Goals as goal

pub returns-then-slot-page-clause-begun : goal.returns-then-slot-page-clause-begun
returns-then-slot-page-clause-begun c =
    λ spans count below later blocks are small is begins between.
    entry_begins spans count below later c.args.page c.args.slots.now c.args.number c.args.span blocks are small is begins c.requires.some
    (omega (arith, c.told-slots, c.requires.small)) between _
    c.then-slot-page.either

pub returns-else-number-slot-clause-begun : goal.returns-else-number-slot-clause-begun
returns-else-number-slot-clause-begun c =
    λ spans count below later blocks are small is begins between.
    entry_hidden spans count below later c.args.page c.args.slots.now c.args.number c.args.span blocks are small is begins c.requires.some
    (omega (arith, c.told-slots, c.requires.small)) between _
    c.if-slot-page.false c.if-number-slot.false
