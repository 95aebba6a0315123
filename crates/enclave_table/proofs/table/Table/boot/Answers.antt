use Rattle.std.proofs.Common.{◌≡◌, ◌∙◌, ◌≤◌, ◌<◌, sym, ap, subst, List, Option, length, arith}
use Rattle.pmp_encoding.specs.Limits.{limit_number}
use Rattle.pmp_match.specs.Meaning.{View, Needs}
use Rattle.permission_map.specs.Runs.{view_of_runs}
use Rattle.prefix_tree.specs.Trees.{TreeMeans, view_of_tree}
use Rattle.permission_map.specs.Views.{SameView}
use Rattle.pmp_encoding.specs.declared.region.Entry.{Entry}
use Rattle.enclave_table.specs.Views.{host_view}
use Rattle.enclave_table.specs.Tables.{IsKept, IsHostTree}
use Rattle.enclave_table.specs.Fewest.{IsListOf}
use Rattle.enclave_table.specs.Boot.{opening_table}
use Rattle.enclave_table.specs.declared.enclave.Enclave.{Enclave}
use Rattle.enclave_table.proofs.SameViews.{tree_same, tree_view, fewest_same, needs_of}
use Rattle.enclave_table.proofs.Booted.{opening_view, opening_kept}
use Rattle.enclave_table.proofs.table.Table.boot.Goals as goal

pub returns-then-needed-number-clause-fault : goal.returns-then-needed-number-clause-fault
returns-then-needed-number-clause-fault c =
    let view : View = host_view (opening_table c.args.platform) in
    let own : View = view_of_tree c.in-Ok-build.tree in
    let means : TreeMeans view c.in-Ok-build.tree =
    tree_same (view_of_runs c.in-Ok.map) view c.in-Ok-build.tree (opening_view c.args.platform (view_of_runs c.in-Ok.map) c.in-Ok.ensures.view)
    c.in-Ok-build.ensures.means in
    let needs : Needs view (length c.in-Ok-plan.plan.entries) = needs_of view c.in-Ok-plan.plan.entries
    (fewest_same own view c.in-Ok-plan.plan.entries (tree_view view c.in-Ok-build.tree means) c.in-Ok-plan.ensures.fewest) in
    let more : limit_number c.args.platform.limit < length c.in-Ok-plan.plan.entries = omega
    (arith, c.if-needed-number.true, c.number.ensures.value, c.needed.ensures, ap limit_number c.limit.ensures) in
    let is : c.from.result ≡ length c.in-Ok-plan.plan.entries = c.from.ensures ∙ c.needed-then-needed-number.ensures in
    (rw is needs, rw is more)

pub invariant_of-result : goal.invariant_of-result
invariant_of-result c =
    let view : View = host_view (opening_table c.args.platform) in
    let own : View = view_of_tree c.in-Ok-build.tree in
    let means : TreeMeans view c.in-Ok-build.tree =
    tree_same (view_of_runs c.in-Ok.map) view c.in-Ok-build.tree (opening_view c.args.platform (view_of_runs c.in-Ok.map) c.in-Ok.ensures.view)
    c.in-Ok-build.ensures.means in
    let same : SameView own view = tree_view view c.in-Ok-build.tree means in
    let entries : List Entry = c.in-Ok-plan.plan.entries in
    let is : c.of-list.result ≡ entries = c.of-list.ensures in
    let room : length entries ≤ limit_number c.args.platform.limit = omega
    (arith, c.if-needed-number.false, c.number.ensures.value, ap limit_number c.limit.ensures, c.needed.ensures) in
    let planned : IsListOf c.args.platform.limit view entries =
    record { fewest = fewest_same own view entries same c.in-Ok-plan.ensures.fewest; room = room } in
    let host : IsListOf c.args.platform.limit view c.of-list.result = rw is planned in
    let K : List (Option Enclave) → Type 0 = λ es.
    IsKept (record { table = record { layout = c.args.platform; enclaves = es }; host_list = c.of-list.result; lists = c.in-Ok-no_lists.lists.items }) in
    let T : List (Option Enclave) → Type 0 = λ es. IsHostTree (record { layout = c.args.platform; enclaves = es }) c.in-Ok-build.tree in (
      subst K (sym c.in-Ok-no_enclaves.ensures) (opening_kept c.args.platform c.of-list.result c.in-Ok-no_lists.lists.items c.cite_invariant.ensures host
          c.in-Ok-no_lists.ensures),
      subst T (sym c.in-Ok-no_enclaves.ensures) (record { means = means; canonical = c.in-Ok-build.ensures.canonical }),
    )

pub returns-clause-fits : goal.returns-clause-fits
returns-clause-fits c =
    let view : View = host_view (opening_table c.args.platform) in
    let own : View = view_of_tree c.in-Ok-build.tree in
    let means : TreeMeans view c.in-Ok-build.tree =
    tree_same (view_of_runs c.in-Ok.map) view c.in-Ok-build.tree (opening_view c.args.platform (view_of_runs c.in-Ok.map) c.in-Ok.ensures.view)
    c.in-Ok-build.ensures.means in
    let entries : List Entry = c.in-Ok-plan.plan.entries in
    let room : length entries ≤ limit_number c.args.platform.limit = omega
    (arith, c.if-needed-number.false, c.number.ensures.value, ap limit_number c.limit.ensures, c.needed.ensures) in
    (length entries, needs_of view entries (fewest_same own view entries (tree_view view c.in-Ok-build.tree means) c.in-Ok-plan.ensures.fewest), room)
