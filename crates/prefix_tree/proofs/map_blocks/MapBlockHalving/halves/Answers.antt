use Rattle.std.proofs.Common.{◌-◌, ◌<◌, ap, sym, ◌∙◌, arith}
use Rattle.permission_map.specs.Runs.{view_of_runs}
use Rattle.prefix_tree.specs.Joined.{one_perm}
use Rattle.prefix_tree.proofs.Canonical.{split_high, lower_runs, upper_runs, runs_halved}
use Rattle.prefix_tree.proofs.Halved.{rest_from}
use Rattle.prefix_tree.proofs.map_blocks.MapBlockHalving.halves.Goals as goal

pub overflow_sub-height : goal.overflow_sub-height
overflow_sub-height c =
    omega (arith, split_high (view_of_runs c.self.inside.runs.now) c.self.inside.height c.self.inside.first (ap one_perm c.self.view_is ∙ c.requires))

pub invariant_of-lower : goal.invariant_of-lower
invariant_of-lower c =
    let some : 0 < c.self.inside.height = split_high (view_of_runs c.self.inside.runs.now) c.self.inside.height c.self.inside.first
    (ap one_perm c.self.view_is ∙ c.requires) in
    rw (c.begun_before-begun.ensures.count, c.pages_of.ensures)
    (lower_runs c.self.inside.runs.now c.self.inside.height (c.self.inside.height - 1) c.self.inside.first (omega arith) c.self.invariant)

pub invariant_of-upper : goal.invariant_of-upper
invariant_of-upper c =
    let some : 0 < c.self.inside.height = split_high (view_of_runs c.self.inside.runs.now) c.self.inside.height c.self.inside.first
    (ap one_perm c.self.view_is ∙ c.requires) in
    rw (rest_from c.ended_before.result c.self.inside.runs.now, c.ended_before.ensures, c.pages_of.ensures)
    (upper_runs c.self.inside.runs.now c.self.inside.height (c.self.inside.height - 1) c.self.inside.first (omega arith) c.self.invariant)

pub returns : goal.returns
returns c =
    let some : 0 < c.self.inside.height = split_high (view_of_runs c.self.inside.runs.now) c.self.inside.height c.self.inside.first
    (ap one_perm c.self.view_is ∙ c.requires) in
    sym c.self.view_is
    ∙ rw (rest_from c.ended_before.result c.self.inside.runs.now, c.begun_before-begun.ensures.count, c.ended_before.ensures, c.pages_of.ensures)
    (runs_halved c.self.inside.runs.now c.self.inside.height (c.self.inside.height - 1) c.self.inside.first (omega arith) c.self.invariant
    (ap one_perm c.self.view_is ∙ c.requires))
