use Rattle.std.proofs.Common.{[], ◌∷◌, length, ap, length-append, arith}
use Rattle.pmp_encoding.specs.Lists.{done}
use Rattle.planner_for_c.proofs.Pairs.{one_below, place_entry, place_off}
use Rattle.planner_for_c.proofs.judge.entries_of.Goals as goal
use Rattle.planner_for_c.proofs.judge.entries_of.Goals.{in-Some, in_default}

pub loop-place-init : goal.loop-place-init
loop-place-init c = record {
  list = rw c.new-entries.ensures done;
  few = omega (arith, ap length c.new-entries.ensures);
  below = λ i less. absurd (omega arith);
}

pub loop-place-preserved : goal.loop-place-preserved
loop-place-preserved c =
    let registers = c.args.registers.now in
    let place = c.loop-place.place in
    let clean = rw c.byte_of-cfg.ensures at c.in_ok-found.ensures.faultless in
    let meaning = rw c.byte_of-cfg.ensures at c.in_ok-found.ensures.meaning in
    let below = one_below registers place c.loop-place.invariant.below clean in
    elim c.match-found.branch [
      | in-Some w ↦ rw (w.entries-is, w.push.ensures.items) (record {
        list = place_entry registers place c.loop-place.entries.items c.loop-place.invariant.list w.in-Some.entry (rw w.in-Some.is at meaning);
        few = omega (arith, c.loop-place.invariant.few, length-append c.loop-place.entries.items (w.in-Some.entry ∷ []));
        below = below;
      })
      | in_default w ↦ rw w.entries-is (record {
        list = place_off registers place c.loop-place.entries.items c.loop-place.invariant.list (rw w.in_default.is at meaning);
        few = omega (arith, c.loop-place.invariant.few);
        below = below;
      })
    ]
