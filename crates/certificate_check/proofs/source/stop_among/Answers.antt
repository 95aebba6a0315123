-- Each entry before the one at fault is listed.
use Rattle.std.proofs.Common.{◌≡◌, ◌+◌, ◌++◌, refl, arith, ◌∙◌}
use Rattle.certificate_check.specs.declared.stop.Stop.TheVariants.{Refused}
use Rattle.certificate_check.proofs.Listing.{held_one, stop_after}
use Rattle.certificate_check.proofs.Windows.{reads_as, reads_then}
use Rattle.certificate_check.proofs.source.stop_among.Goals as goal

pub returns-in-Err-clause-refused : goal.returns-in-Err-clause-refused
returns-in-Err-clause-refused g c =
    reads_then _ _ _ _ _ _ c.loop.invariant.read c.in-Err.ensures (λ left mid rest before fault.
    stop_after c.loop.counter c.args.count before.0 left mid (Refused c.in-Err.refusal) c.loop-test.true before.1 fault)

pub loop-preserved : goal.loop-preserved
loop-preserved g c = record {
  read = reads_then _ _ _ _ _ _ c.loop.invariant.read c.in-Ok.ensures (λ left mid rest before one. (
    before.0 ++ c.in-Ok.field-0,
    held_one c.loop.counter (c.loop.counter + 1) before.0 (before.0 ++ c.in-Ok.field-0) left mid rest refl before.1
        (one.0, c.in-Ok.field-0, one.1, one.2, one.3, refl),
  ));
}

pub returns-clause-refused : goal.returns-clause-refused
returns-clause-refused g c = reads_as _ _ _ _ c.loop.invariant.read (λ left rest held. tt)

pub returns-clause-unheld : goal.returns-clause-unheld
returns-clause-unheld g c = λ e.
    let n : c.loop.counter ≡ c.args.count = omega (arith, c.loop-test.false, c.loop.auto.counter-end) in
    reads_as _ _ _ _ c.loop.invariant.read (λ left rest (list, held). (held.0, held.1, held.2 ∙ n))
