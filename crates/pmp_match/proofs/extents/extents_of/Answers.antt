-- One entry more behind the first ones.
use Rattle.std.proofs.Common.{◌∙◌, ◌<◌, length, arith}
use Rattle.std.proofs.lemmas.List.{length-set}
use Rattle.pmp_match.proofs.Matched.{next_from, one_defined}
use Rattle.pmp_match.proofs.extents.extents_of.Goals as goal

pub loop-place-preserved : goal.loop-place-preserved
loop-place-preserved c =
    let registers = c.args.registers.now in
    let place = c.loop-place.place in
    let inside : place < length c.loop-place.extents = omega (arith, c.loop-place.invariant.room, c.loop-place-test.true) in
    record {
      room = length-set c.loop-place.extents place c.extent_at.result ∙ c.loop-place.invariant.room;
      each = next_from registers place c.loop-place.extents c.extent_at.result inside c.loop-place.invariant.each c.extent_at.ensures;
      below = one_defined registers place c.loop-place.invariant.below c.in_default.ensures.none;
    }
