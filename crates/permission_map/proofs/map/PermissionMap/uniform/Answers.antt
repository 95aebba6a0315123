use Rattle.std.proofs.Common.{◌^◌, arith}
use Rattle.pmp_encoding.proofs.Multiples.{power_order}
use Rattle.permission_map.specs.Search.{IsNext}
use Rattle.permission_map.proofs.Searched.{begins_inside, ends_inside}
use Rattle.permission_map.proofs.map.PermissionMap.uniform.Goals as goal
use Rattle.permission_map.proofs.map.PermissionMap.uniform.Goals.{then-run-first-via-then-run-first, then-run-first-via-else-run-first+then-run-end-2}

pub pages_of-requires : goal.pages_of-requires
pages_of-requires c = power_order c.args.log2 44 (omega arith)

pub returns-then-run-first-clause-none : goal.returns-then-run-first-clause-none
returns-then-run-first-clause-none c =
    let runs = c.args.self.now in
    let is_next : IsNext c.args.self.now c.args.first c.in-Some.run' = c.in-Some.ensures in
    elim c.then-run-first.branch [
      | then-run-first-via-then-run-first w ↦ begins_inside runs c.args.first (2 ^ c.args.log2) c.in-Some.run' is_next w.if-run-first.true (omega arith)
      | then-run-first-via-else-run-first+then-run-end-2 w ↦ ends_inside runs c.args.first (2 ^ c.args.log2) c.in-Some.run' is_next w.if-run-first.false
          (omega arith)
    ]
