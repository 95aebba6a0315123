use Rattle.std.proofs.Common.{◌≡◌, ◌+◌, ◌-◌, ◌^◌, ◌<◌, arith, pow_pos}
use Rattle.permission_map.proofs.PointSets.{halves, stepped_front, stepped_inside, stepped_rest, stepped_room}
use Rattle.permission_map.specs.declared.points.Point.{Point}
use Rattle.permission_map.proofs.points.before_within.Goals as goal

pub loop-left-preserved : goal.loop-left-preserved
loop-left-preserved c =
    let inv = c.loop-left.invariant in
    let points = c.args.points.now in
    let low = c.loop-left.low in
    let step = c.step_of-step.result in
    let moved = c.past.result in
    let is : step ≡ 2 ^ (c.loop-left.left - 1) = c.step_of-step.ensures in
    let double : 2 ^ c.loop-left.left ≡ 2 ^ (c.loop-left.left - 1) + 2 ^ (c.loop-left.left - 1) = halves c.loop-left.left c.loop-left-test.true in
    let some : 0 < step = omega (arith, is, pow_pos (c.loop-left.left - 1)) in
    let any : Point = record { number = 0 } in
    record {
      most = omega (arith, inv.most);
      inside = stepped_inside points c.args.page low step moved any inv.inside c.past.ensures.before c.past.ensures.behind;
      room = omega (arith, is, stepped_room low step moved (2 ^ c.args.bits) c.past.ensures.bit (omega (arith, inv.room, is, double)));
      front = stepped_front points c.args.page low step moved c.requires.points some c.past.ensures.before c.past.ensures.behind inv.front;
      rest = λ k d more less.
          stepped_rest points c.args.page low step moved c.requires.points some c.past.ensures.before c.past.ensures.behind
          (λ k d more less. inv.rest k d (omega (arith, is, double, more)) less) k d (omega (arith, is, more)) less;
    }
