-- Entry by entry, until one has a byte of the access.
use Rattle.std.proofs.Common.{arith}
use Rattle.std.proofs.lemmas.Bool.{both_ways}
use Rattle.pmp_match.specs.Tor.{nowhere}
use Rattle.pmp_match.proofs.Matched.{extent_words}
use Rattle.register_audit.proofs.Places.{allow_all, allow_met, allow_missed, allow_past, extent_in, misses_by}
use Rattle.register_audit.proofs.Same.{through, back}
use Rattle.register_audit.proofs.decision.allow.Goals as goal

pub loop-place-init : goal.loop-place-init
loop-place-init c = allow_all c.args.registers.now c.args.access.now

pub meets-requires-clause-words : goal.meets-requires-clause-words
meets-requires-clause-words c =
    let registers = c.args.registers.now in
    let place = c.loop-place.place in
    extent_words registers place _ (extent_in registers c.args.extents.now c.requires.extents place nowhere c.loop-place-test.true)

pub returns-then-meets : goal.returns-then-meets
returns-then-meets c =
    let registers = c.args.registers.now in
    let place = c.loop-place.place in
    let is = extent_in registers c.args.extents.now c.requires.extents place nowhere c.loop-place-test.true in
    let met = allow_met registers c.args.access.now place _ c.loop-place-test.true is (c.meets.ensures.0 c.if-meets.true) in
    through c.grants.ensures (back (through c.loop-place.invariant met))

pub loop-place-preserved : goal.loop-place-preserved
loop-place-preserved c =
    let registers = c.args.registers.now in
    let place = c.loop-place.place in
    let is = extent_in registers c.args.extents.now c.requires.extents place nowhere c.loop-place-test.true in
    let missed = misses_by registers c.args.access.now place _ is (λ m. both_ways c.meets.result c.if-meets.false (c.meets.ensures.1 m)) in
    through c.loop-place.invariant (allow_missed registers c.args.access.now place missed)

pub returns : goal.returns
returns c =
    let past = allow_past c.args.registers.now c.args.access.now c.loop-place.place (omega (arith, c.loop-place-test.false)) in
    rw (c.holds.ensures, c.default_perm.ensures) (back (through c.loop-place.invariant past))
