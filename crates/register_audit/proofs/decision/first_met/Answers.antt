-- Entry by entry, until one has a byte of the access.
use Rattle.std.proofs.Common.{arith}
use Rattle.std.proofs.lemmas.Bool.{both_ways}
use Rattle.pmp_match.specs.Tor.{nowhere}
use Rattle.pmp_match.proofs.Matched.{extent_words}
use Rattle.register_audit.proofs.Places.{extent_in, missed_with, misses_by}
use Rattle.register_audit.proofs.decision.first_met.Goals as goal

pub meets-requires-clause-words : goal.meets-requires-clause-words
meets-requires-clause-words c =
    let registers = c.args.registers.now in
    let place = c.loop-number.number in
    extent_words registers place _ (extent_in registers c.args.extents.now c.requires.extents place nowhere c.loop-number-test.true)

pub returns-then-meets : goal.returns-then-meets
returns-then-meets c =
    let registers = c.args.registers.now in
    let place = c.loop-number.number in
    record {
      inside = c.loop-number-test.true;
      is_extent = extent_in registers c.args.extents.now c.requires.extents place nowhere c.loop-number-test.true;
      met = c.meets.ensures.0 c.if-meets.true;
      missed = c.loop-number.invariant;
    }

pub loop-number-preserved : goal.loop-number-preserved
loop-number-preserved c =
    let registers = c.args.registers.now in
    let place = c.loop-number.number in
    let is = extent_in registers c.args.extents.now c.requires.extents place nowhere c.loop-number-test.true in
    missed_with registers c.args.access.now place c.loop-number.invariant
    (misses_by registers c.args.access.now place _ is (λ m. both_ways c.meets.result c.if-meets.false (c.meets.ensures.1 m)))

pub returns : goal.returns
returns c = λ place inside. c.loop-number.invariant place (omega (arith, c.loop-number-test.false, inside))
