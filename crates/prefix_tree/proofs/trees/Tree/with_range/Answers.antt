use Rattle.std.proofs.Common.{◌+◌, ◌∙◌, arith}
use Rattle.permission_map.specs.Views.{overwritten}
use Rattle.prefix_tree.specs.Trees.{view_of_tree}
use Rattle.prefix_tree.specs.Shapes.{shape_of}
use Rattle.prefix_tree.proofs.Meant.{own_means, one_canonical, means_along}
use Rattle.prefix_tree.proofs.Overwritten.{overwritten_none}
use Rattle.prefix_tree.proofs.RunCount.{runs_in-length}
use Rattle.prefix_tree.proofs.RunsExist.{runs_exist}
use Rattle.prefix_tree.proofs.trees.Tree.with_range.Goals as goal

pub returns-then-run_count-gt-MOST_RUNS-clause-too_many : goal.returns-then-run_count-gt-MOST_RUNS-clause-too_many
returns-then-run_count-gt-MOST_RUNS-clause-too_many c = λ same.
    let own = own_means (shape_of c.self.inside.root) c.self.invariant.fits in
    let means = rw c.self.view_is at (c.in-Ok.ensures.means (view_of_tree (shape_of c.self.inside.root)) own) in
    let view = overwritten (view_of_tree c.args.self.now) c.args.first c.args.count c.args.perm in
    let runs = runs_exist view in
    let count = runs_in-length view (shape_of c.in-Ok.root) runs.0 means runs.1.are_runs runs.1.view_is in
    (omega arith, (runs.0, runs.1, omega (arith, c.run_count.ensures)))

pub returns-clause-means : goal.returns-clause-means
returns-clause-means c =
    let own = own_means (shape_of c.self.inside.root) c.self.invariant.fits in
    rw c.self.view_is at (c.in-Ok.ensures.means (view_of_tree (shape_of c.self.inside.root)) own)

pub returns-clause-nothing : goal.returns-clause-nothing
returns-clause-nothing c = λ none.
    let view = view_of_tree (shape_of c.self.inside.root) in
    let own = own_means (shape_of c.self.inside.root) c.self.invariant.fits in
    let means = c.in-Ok.ensures.means view own in
    let kept =
    means_along (overwritten view c.args.first c.args.count c.args.perm) view 44 0 (shape_of c.in-Ok.root)
    (λ i h. overwritten_none view c.args.first c.args.count c.args.perm (0 + i) none) means in
    one_canonical view 44 0 (shape_of c.in-Ok.root) (shape_of c.self.inside.root) c.in-Ok.ensures.canonical c.self.invariant.canonical kept own ∙ c.self.view_is

pub returns-clause-few : goal.returns-clause-few
returns-clause-few c = λ runs are.
    let own = own_means (shape_of c.self.inside.root) c.self.invariant.fits in
    let means = rw c.self.view_is at (c.in-Ok.ensures.means (view_of_tree (shape_of c.self.inside.root)) own) in
    let count =
    runs_in-length (overwritten (view_of_tree c.args.self.now) c.args.first c.args.count c.args.perm)
    (shape_of c.in-Ok.root) runs means are.are_runs are.view_is in
    omega (arith, c.run_count.ensures)
