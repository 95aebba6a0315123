-- One place goes on.
use Rattle.std.proofs.Common.{get_or, arith}
use Rattle.certificate_check.specs.declared.chains.ChainCursor.{ChainCursor}
use Rattle.certificate_check.specs.Places.{IsPlace}
use Rattle.certificate_check.proofs.Placed.{places_set}
use Rattle.certificate_check.proofs.chains.go_on.Goals as goal

pub returns-then-places-i-clause-value : goal.returns-then-places-i-clause-value
returns-then-places-i-clause-value c =
    λ spans reads ends begins stops less are.
    let here : (d : ChainCursor) → IsPlace spans c.args.from c.args.to c.args.page (get_or c.args.places.now c.args.i d) = λ d. rw (begins, stops) at
    (are c.args.i d less) in
    places_set spans ends c.args.page c.args.places.now c.args.i c.next_in_chain.result (omega (arith, c.told-places, c.requires.place)) are
    (rw (begins, stops) (c.next_in_chain.ensures.value spans reads (here _)))
