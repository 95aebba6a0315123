use Rattle.pmp_match.specs.Meaning.{View}
use Rattle.enclave_table.specs.Views.{host_view}
use Rattle.permission_map.specs.Views.{overwritten}
use Rattle.enclave_table.specs.Fewest.{IsWant}
use Rattle.enclave_table.proofs.Refused.{handed_on}
use Rattle.enclave_table.proofs.table.Table.host_with.Goals as goal

pub returns-clause-list : goal.returns-clause-list
returns-clause-list c =
    let view : View = overwritten (host_view c.args.self.now.table) c.args.pages.first c.args.pages.count c.args.perm in
    rw c.limit.ensures at c.in_ok-list.ensures.list view c.in-Ok.ensures.fewest

pub returns-in_err-list-clause-want : goal.returns-in_err-list-clause-want
returns-in_err-list-clause-want c =
    let view : View = overwritten (host_view c.args.self.now.table) c.args.pages.first c.args.pages.count c.args.perm in
    handed_on c.from_residual.result c.in_err-list.field-0.0 (IsWant c.args.self.now.table.layout.limit view) c.from_residual.ensures.1
    (rw c.limit.ensures at c.in_err-list.ensures.want view c.in-Ok.ensures.fewest)
