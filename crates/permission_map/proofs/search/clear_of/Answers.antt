use Rattle.std.proofs.Common.{◌≡◌, nat_lt, rules, true, false}
use Rattle.std.proofs.lemmas.Bool.{ltb-true, ltb-false}
use Rattle.std.proofs.lemmas.List.Sorted.{IsPartitionPoint-from_clause, IsPartitionedBy-ltb}
use Rattle.pmp_encoding.specs.declared.perm.Perm.TheVariants.{NoAccess}
use Rattle.permission_map.specs.declared.runs.Run.{Run}
use Rattle.permission_map.specs.Runs.{end_of}
use Rattle.permission_map.proofs.Searched.{ends_rise, point_front, point_rest}
use Rattle.permission_map.proofs.search.clear_of.Goals as goal

pub returns-clause-front : goal.returns-clause-front
returns-clause-front c =
    let parted = IsPartitionedBy-ltb end_of c.args.runs.now c.args.first (ends_rise 0 NoAccess c.args.runs.now c.requires) in
    let point = IsPartitionPoint-from_clause (λ (run : Run). nat_lt (end_of run) c.args.first) _ _ c.partition_point.ensures.partitioned parted
    (λ a r q k. search rules) in
    λ k d h. ltb-true _ _ (point_front (λ run. nat_lt (end_of run) c.args.first ≡ true)
    (λ run. nat_lt (end_of run) c.args.first ≡ false) c.args.runs.now c.partition_point.result c.partition_point.ensures.bound point k d h)

pub returns-clause-rest : goal.returns-clause-rest
returns-clause-rest c =
    let parted = IsPartitionedBy-ltb end_of c.args.runs.now c.args.first (ends_rise 0 NoAccess c.args.runs.now c.requires) in
    let point = IsPartitionPoint-from_clause (λ (run : Run). nat_lt (end_of run) c.args.first) _ _ c.partition_point.ensures.partitioned parted
    (λ a r q k. search rules) in
    λ k d h. ltb-false _ _ (point_rest (λ run. nat_lt (end_of run) c.args.first ≡ true)
    (λ run. nat_lt (end_of run) c.args.first ≡ false) c.args.runs.now c.partition_point.result c.partition_point.ensures.bound point k d h)
