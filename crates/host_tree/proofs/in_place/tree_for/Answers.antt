use Rattle.std.proofs.Common.{◌<◌, ◌∙◌, inr, length, arith}
use Rattle.host_tree.specs.Platforms.{portion_in, reserved_in}
use Rattle.host_tree.proofs.Rooms.{lacks}
use Rattle.host_tree.proofs.in_place.tree_for.Goals as goal

-- the second tree, with no free bytes, is longer than the place
pub returns-clause-room : goal.returns-clause-room
returns-clause-room c = λ longer.
    let platform = c.args.platform.now in
    lacks platform.harts c.as_slice.result.now (portion_in platform).ranges c.as_slice-3.result.now (reserved_in platform c.args.pool) c.args.place.now
    (length c.in_ok-shorter.shorter.items) 0 (c.as_slice.ensures.value ∙ c.in-Ok.ensures.ok) (c.as_slice-3.ensures.value ∙ c.in-Ok-reserved_in.ensures.ok)
    c.in_ok-shorter.ensures.size longer

-- the first, with free bytes, was longer
pub returns-clause-free : goal.returns-clause-free
returns-clause-free c =
    let platform = c.args.platform.now in
    let longer : length c.args.place.now < length c.in_ok-tree.tree.items = omega (arith, c.if-len-place.false, c.len.ensures) in
    let needs = c.in_ok-tree.ensures.size in
    inr (
      c.in_ok-shorter.ensures.free,
      lacks platform.harts c.as_slice.result.now (portion_in platform).ranges c.as_slice-2.result.now (reserved_in platform c.args.pool) c.args.place.now
          (length c.in_ok-tree.tree.items) 4096 (c.as_slice.ensures.value ∙ c.in-Ok.ensures.ok)
          (c.as_slice-2.ensures.value ∙ c.in-Ok-reserved_in.ensures.ok) needs longer,
    )
