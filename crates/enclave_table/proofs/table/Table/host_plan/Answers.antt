use Rattle.std.proofs.Common.{ℕ, ◌∙◌, ◌+◌, ◌≤◌, ◌<◌, ◌^◌, ap, refl, List, length, Err, arith}
use Rattle.permission_map.specs.declared.runs.Run.{Run}
use Rattle.prefix_tree.specs.RunsOf.{AreRunsOf}
use Rattle.enclave_table.proofs.FewRuns.{host_with_few}
use Rattle.pmp_match.specs.Meaning.{View}
use Rattle.enclave_table.specs.Views.{host_view}
use Rattle.permission_map.specs.Views.{SameView, overwritten}
use Rattle.prefix_tree.specs.Trees.{PermTree, view_of_tree}
use Rattle.enclave_table.proofs.SameViews.{tree_overwritten, tree_view, fewest_same}
use Rattle.enclave_table.proofs.table.Table.host_plan.Goals as goal

pub returns-clause-means : goal.returns-clause-means
returns-clause-means c =
    tree_overwritten (host_view c.args.self.now.table) c.host_tree.result.now c.in-Ok.tree c.args.pages.first c.args.pages.count c.args.perm
    c.host_tree.ensures.means c.in-Ok.ensures.means

pub returns-clause-fewest : goal.returns-clause-fewest
returns-clause-fewest c =
    let view : View = overwritten (host_view c.args.self.now.table) c.args.pages.first c.args.pages.count c.args.perm in
    let own : View = view_of_tree c.in-Ok.tree in
    let same : SameView own view =
    tree_view view c.in-Ok.tree
    (tree_overwritten (host_view c.args.self.now.table) c.host_tree.result.now c.in-Ok.tree c.args.pages.first c.args.pages.count c.args.perm
    c.host_tree.ensures.means c.in-Ok.ensures.means) in
    fewest_same own view c.in_ok-plan.plan.entries same c.in_ok-plan.ensures.fewest

pub unreachable-requires : goal.unreachable-requires
unreachable-requires c =
    let tree : PermTree = c.host_tree.result.now in
    let first : ℕ = c.args.pages.first in
    let count : ℕ = c.args.pages.count in
    let new : View = overwritten (view_of_tree tree) first count c.args.perm in
    let many : (first + count ≤ 2 ^ 44) × ((runs : List Run) × AreRunsOf new runs × (4096 < length runs)) =
    c.with_range.ensures.too_many (c.in-Err-TooManyRanges.is ∙ ap Err c.in-Err-TooManyRanges.field-0-is) in
    let few : length many.1.0 ≤ 260 =
    host_with_few c.args.self.now.table (view_of_tree tree) new first count c.args.perm many.1.0 c.cite_invariant.ensures.table
    (tree_view (host_view c.args.self.now.table) tree c.host_tree.ensures.means) (λ page small. refl) many.1.1 in
    omega (arith, many.1.2, few)
