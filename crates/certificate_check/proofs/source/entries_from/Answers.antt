use Rattle.std.proofs.Common.{◌≡◌, ◌+◌, ◌++◌, refl, arith, ap, ◌∙◌}
use Rattle.certificate_check.specs.Listed.{ListFault}
use Rattle.certificate_check.specs.declared.stop.Stop.TheVariants.{Refused}
use Rattle.certificate_check.proofs.Entered.{spans_of, reads_listed, count_listed}
use Rattle.certificate_check.proofs.Listing.{held_one, stop_after}
use Rattle.certificate_check.proofs.Windows.{all_here, reads_as, reads_then, stopped_match}
use Rattle.certificate_check.proofs.source.entries_from.Goals as goal

pub returns-in_err-nine-clause-read : goal.returns-in_err-nine-clause-read
returns-in_err-nine-clause-read g c =
    reads_then _ _ _ _ _ _ c.loop.invariant.read c.in_err-nine.ensures (λ left mid rest before fault.
    stopped_match c.from_residual.result (Refused c.in_err-nine.field-0.0) _ (ListFault left c.args.count) c.from_residual.ensures.1
    (stop_after c.loop.counter c.args.count c.loop.list.items left mid (Refused c.in_err-nine.field-0.0) c.loop-test.true before fault))

pub returns-in_default-clause-read : goal.returns-in_default-clause-read
returns-in_default-clause-read g c = reads_then _ _ _ _ _ _ c.loop.invariant.read c.in_ok-nine.ensures (λ left mid rest before one. tt)

pub loop-preserved : goal.loop-preserved
loop-preserved g c = record {
  read = reads_then _ _ _ _ _ _ c.loop.invariant.read c.in_ok-nine.ensures (λ left mid rest before one.
      held_one c.loop.counter (c.loop.counter + 1) c.loop.list.items c.extend_from_slice.new.self.items left mid rest refl before
      (one.0, c.in_ok-nine.nine, one.1, one.2, one.3, c.in-Ok.ensures.items ∙ ap (λ xs. c.loop.list.items ++ xs) c.as_slice.ensures));
}

pub returns-clause-read : goal.returns-clause-read
returns-clause-read g c =
    let n : c.loop.counter ≡ c.args.count = omega (arith, c.loop-test.false, c.loop.auto.counter-end) in
    reads_as _ _ _ _ c.loop.invariant.read (λ left rest held. (held.0, held.1, held.2 ∙ n, held.3))

pub returns-clause-entries : goal.returns-clause-entries
returns-clause-entries g c =
    let here = c.loop.invariant.read.left _ _ _ (all_here _) in
    let held = here.2 in
    λ i less. (spans_of held.0 i, reads_listed c.loop.list.items held.0 held.3 held.1.pages i less)

pub returns-clause-count : goal.returns-clause-count
returns-clause-count g c =
    let n : c.loop.counter ≡ c.args.count = omega (arith, c.loop-test.false, c.loop.auto.counter-end) in
    let here = c.loop.invariant.read.left _ _ _ (all_here _) in
    let held = here.2 in
    count_listed c.loop.list.items held.0 held.3 ∙ held.2 ∙ n
