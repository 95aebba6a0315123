use Rattle.std.proofs.Common.{◌≡◌, nat_le, rules, true, false}
use Rattle.std.proofs.lemmas.Bool.{leb-true, leb-false}
use Rattle.std.proofs.lemmas.List.Sorted.{IsPartitionPoint-from_clause, IsPartitionedBy-leb}
use Rattle.pmp_encoding.specs.declared.perm.Perm.TheVariants.{NoAccess}
use Rattle.permission_map.specs.declared.runs.Run.{Run}
use Rattle.permission_map.proofs.Searched.{firsts_rise, point_front, point_rest}
use Rattle.permission_map.proofs.search.begun.Goals as goal

pub returns-clause-front : goal.returns-clause-front
returns-clause-front c =
    let parted = IsPartitionedBy-leb (λ (run : Run). run.first) c.args.runs.now c.args.page (firsts_rise 0 NoAccess c.args.runs.now c.requires) in
    let point = IsPartitionPoint-from_clause (λ (run : Run). nat_le (run.first) c.args.page) _ _ c.partition_point.ensures.partitioned parted
    (λ a r q k. search rules) in
    λ k d h. leb-true _ _ (point_front (λ run. nat_le (run.first) c.args.page ≡ true)
    (λ run. nat_le (run.first) c.args.page ≡ false) c.args.runs.now c.partition_point.result c.partition_point.ensures.bound point k d h)

pub returns-clause-rest : goal.returns-clause-rest
returns-clause-rest c =
    let parted = IsPartitionedBy-leb (λ (run : Run). run.first) c.args.runs.now c.args.page (firsts_rise 0 NoAccess c.args.runs.now c.requires) in
    let point = IsPartitionPoint-from_clause (λ (run : Run). nat_le (run.first) c.args.page) _ _ c.partition_point.ensures.partitioned parted
    (λ a r q k. search rules) in
    λ k d h. leb-false _ _ (point_rest (λ run. nat_le (run.first) c.args.page ≡ true)
    (λ run. nat_le (run.first) c.args.page ≡ false) c.args.runs.now c.partition_point.result c.partition_point.ensures.bound point k d h)
