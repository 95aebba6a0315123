use Rattle.std.proofs.lemmas.Result.{err_from_is_err_and}
use Rattle.device_tree.specs.Pieces.{parts_of}
use Rattle.device_tree.specs.declared.kinds.Place.TheVariants.{BelowRoot}
use Rattle.device_tree.specs.Windows.{path_of, same}
use Rattle.host_tree.specs.declared.fault.MakeFault.TheVariants.{NotUnderstood}
use Rattle.host_tree.specs.HostTrees.{portion_of}
use Rattle.host_tree.proofs.OneHost.{child}
use Rattle.host_tree.proofs.Refused.{child_refused, head_refused}
use Rattle.host_tree.proofs.root.put_child.Goals as goal

pub returns-in-Ok-put_nodes-clause-ok : goal.returns-in-Ok-put_nodes-clause-ok
returns-in-Ok-put_nodes-clause-ok c =
    let head = c.args.head.now in
    let own = c.in_ok-put_head.ensures.put in
    let inner = c.in-Ok.ensures.ok in
    child (portion_of c.args.share.now) BelowRoot c.args.cells.now same head.name.now (parts_of head.properties.now) (parts_of head.inner.now)
    (parts_of c.in-Ok-put_nodes.behind.now) c.args.writer.now c.put_head.new.writer c.put_nodes.new.writer own.0 own.1 own.2
    c.in-Ok.inner.cells inner.0 c.in-Ok.inner.place (path_of c.in-Ok.inner.way) inner.1 inner.2 inner.3 inner.4 c.in-Ok-put_nodes.ensures.ok

pub returns-in_err-put_head-clause-refused : goal.returns-in_err-put_head-clause-refused
returns-in_err-put_head-clause-refused c =
    let head = c.args.head.now in
    let p = err_from_is_err_and c.from_residual.result c.from_residual.ensures.1 in
    rw (p.1, p.2) (λ own children rest is e none later. head_refused BelowRoot c.args.cells.now same head.name.now own children later
    (parts_of head.properties.now) is _ c.in_err-put_head.ensures.refused)

pub returns-in-Err-clause-refused : goal.returns-in-Err-clause-refused
returns-in-Err-clause-refused c = λ own children rest is e none later.
    let head = c.args.head.now in
    head_refused BelowRoot c.args.cells.now same head.name.now own children later (parts_of head.properties.now) is (NotUnderstood c.in-Err.reason)
    c.in-Err.ensures.refused

pub returns-clause-refused : goal.returns-clause-refused
returns-clause-refused c = λ own children rest is e none later.
    let head = c.args.head.now in
    let inner = c.in-Ok.ensures.ok in
    child_refused BelowRoot c.args.cells.now same head.name.now own children later (parts_of head.properties.now) is
    c.in-Ok.inner.cells inner.0 c.in-Ok.inner.place (path_of c.in-Ok.inner.way) inner.1 inner.2 inner.3 inner.4 c.in-Err-put_nodes.fault
    (c.in-Err-put_nodes.ensures.refused children rest e none)
