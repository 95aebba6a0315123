-- Each span that was passed has ended.
use Rattle.std.proofs.Common.{ap, arith, subst, sym}
use Rattle.certificate_check.specs.declared.entries.Span.{Span}
use Rattle.certificate_check.specs.Places.{IsPlace}
use Rattle.certificate_check.proofs.Placed.{place_from, place_on}
use Rattle.certificate_check.proofs.chains.next_in_chain.Goals as goal
use Rattle.certificate_check.proofs.chains.next_in_chain.Goals.{then-loop-span-test+else-next-to, else-loop-span-test}

pub loop-span-init : goal.loop-span-init
loop-span-init c = record {
  low = omega arith;
  value = λ spans reads place. place_from spans _ _ _ c.args.place _ c.max-next.ensures place;
}

pub loop-span-preserved : goal.loop-span-preserved
loop-span-preserved c = record {
  low = omega arith;
  value = λ spans reads place.
      place_on spans _ _ _ _ c.span-span.result (c.loop-span.invariant.value spans reads place) (omega arith) c.loop-span.invariant.low (omega arith)
      (c.span-span.ensures.value spans reads)
      c.span-span.ensures.some;
}

pub returns-clause-all : goal.returns-clause-all
returns-clause-all c =
    let end = ap (λ x. x.end) c.taken_apart.ensures in
    elim c.loop-span-test.branch [
      | then-loop-span-test+else-next-to w ↦ λ ended. omega (arith, w.if-next-to.false)
      | else-loop-span-test w ↦ λ ended. absurd (omega (arith, w.loop-span-test.false, ended, end))
    ]

pub returns-clause-value : goal.returns-clause-value
returns-clause-value c = λ spans reads place.
    let P : Span → Type 0 = λ x. IsPlace spans c.args.from c.args.to c.args.page (record { next = c.loop-span.next; span = x }) in
    subst P (sym c.taken_apart.ensures) (c.loop-span.invariant.value spans reads place)
