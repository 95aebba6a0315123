-- The first of those that are open decides, or none does.
use Rattle.std.proofs.Common.{arith}
use Rattle.certificate_check.proofs.Opened.{open_decides, none_decides}
use Rattle.certificate_check.proofs.begun.piece_of_begun.Goals as goal

pub returns-in-Some-clause-value : goal.returns-in-Some-clause-value
returns-in-Some-clause-value c =
    λ spans count below blocks are later at after before.
    let one = c.in-Some.ensures.one in
    open_decides spans count below c.args.page c.args.to one.0 c.args.slots.now c.in-Some.open are later
    (omega (arith, c.told-slots, one.1)) one.2 c.in-Some.ensures.open
    (λ i d less over. c.in-Some.ensures.least i d (omega (arith, c.told-slots, less)) over) c.told-slots blocks at after (omega (arith, before, c.min.ensures))
    (omega (arith, before, c.min.ensures))

pub returns-in-None-clause-value : goal.returns-in-None-clause-value
returns-in-None-clause-value c =
    λ spans count below blocks are later at after before.
    none_decides spans count below c.args.page c.args.to c.args.slots.now are later
    (λ i d less. c.in-None.ensures.none i d (omega (arith, c.told-slots, less))) c.told-slots blocks at after before
