use Rattle.std.proofs.Common.{refl, arith}
use Rattle.device_tree.proofs.ExtentParts.{here_step}
use Rattle.device_tree.proofs.ways.step_to_parent.Goals as goal

pub returns-in-Some : goal.returns-in-Some
returns-in-Some c =
    let parent = c.in-Some.ensures.some in
    here_step c.args.windows.now c.loop-window.window-index c.loop-window.len c.args.address _ _ c.in-Some.step c.loop-window-test.true refl
    c.loop-window.invariant.some c.loop-window.invariant.none c.in-Some.ensures.here parent.0 parent.1 c.min.result
    (omega (arith, c.min.ensures)) (omega (arith, c.min.ensures)) (omega (arith, c.min.ensures, c.loop-window.invariant.some, c.in-Some.ensures.here.some))
