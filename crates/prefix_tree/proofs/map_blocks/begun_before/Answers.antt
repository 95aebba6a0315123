use Rattle.std.proofs.Common.{nat_lt, rules, sym}
use Rattle.std.proofs.lemmas.List.Sorted.{IsPartitionPoint-from_clause, IsPartitionedBy-ltb}
use Rattle.pmp_encoding.specs.declared.perm.Perm.TheVariants.{NoAccess}
use Rattle.permission_map.specs.declared.runs.Run.{Run}
use Rattle.permission_map.proofs.Searched.{firsts_rise}
use Rattle.prefix_tree.proofs.Searched.{point_counts}
use Rattle.prefix_tree.proofs.map_blocks.begun_before.Goals as goal

pub returns-then-runs-gt-FEW-clause-count : goal.returns-then-runs-gt-FEW-clause-count
returns-then-runs-gt-FEW-clause-count c =
    let passes = λ (run : Run). nat_lt run.first c.args.page in
    let point = IsPartitionPoint-from_clause passes _ _ c.partition_point.ensures.partitioned
    (IsPartitionedBy-ltb (λ (run : Run). run.first) c.args.runs.now c.args.page (firsts_rise 0 NoAccess c.args.runs.now c.requires))
    (λ a r q k. search rules) in
    sym (point_counts passes c.args.runs.now c.partition_point.result c.partition_point.ensures.bound point)
