use Rattle.std.proofs.Common.{◌∷◌, ◌++◌, [], refl, arith}
use Rattle.device_tree.specs.Pieces.{ends, parts_of}
use Rattle.device_tree.specs.Nodes.{Nodes, node, parts_of_nodes}
use Rattle.device_tree.proofs.OneTree.{ends_begins_none}
use Rattle.device_tree.specs.Windows.{path_of}
use Rattle.host_tree.specs.declared.fault.MakeFault.TheVariants.{NotUnderstood}
use Rattle.host_tree.specs.HostTrees.{portion_of}
use Rattle.host_tree.proofs.OneHost.{child, finish, next, start}
use Rattle.host_tree.proofs.Refused.{at_front, child_refused, head_refused, none_passed, one_passed, put_refused}
use Rattle.host_tree.proofs.walk.+put_nodes.Goals as goal

pub nodes-init : goal.nodes-init
nodes-init t c = record {
  len = omega (arith);
  whole = start (λ (x : Nodes). x) (portion_of c.args.share.now) c.args.place c.args.bus.0.now (path_of c.args.bus.1.now) (parts_of c.args.pieces.now)
      c.args.writer.now;
  passed = none_passed c.args.place c.args.bus.0.now (path_of c.args.bus.1.now) [] (parts_of c.args.pieces.now);
}

pub nodes-preserved : goal.nodes-preserved
nodes-preserved t c =
    let head = c.in-Some.head in
    let parts = c.in-Some.ensures.parts in
    let own = c.in-Ok.ensures.put in
    let inner = c.in-Ok-inner_of.ensures.ok in
    let host = portion_of c.args.share.now in
    let cells = c.args.bus.0.now in
    let way = path_of c.args.bus.1.now in
    let one = child host c.args.place cells way head.name.now (parts_of head.properties.now) (parts_of head.inner.now)
    (parts_of c.in-Ok-put_nodes.behind.now) c.nodes.writer c.put_head.new.writer c.put_nodes.new.writer own.0 own.1 own.2
    c.in-Ok-inner_of.inner.cells inner.0 c.in-Ok-inner_of.inner.place (path_of c.in-Ok-inner_of.inner.way) inner.1 inner.2 inner.3 inner.4
    c.in-Ok-put_nodes.ensures.ok in
    record {
      len = omega (arith, c.nodes.invariant.len, c.in-Some.ensures.shorter, c.in-Ok-put_nodes.ensures.len, c.after_end-rest.ensures.len);
      whole = next (λ (x : Nodes). x) host c.args.place cells way (parts_of c.args.pieces.now) (parts_of c.nodes.rest.now) c.args.writer.now c.nodes.writer
          c.nodes.invariant.whole head.name.now parts.0 (parts_of head.inner.now) (parts_of head.properties.now) parts.1 parts.2 parts.3
          (λ made inside more. refl) (parts_of c.in-Ok-put_nodes.behind.now) c.put_nodes.new.writer c.put_end.new.writer one c.in-Ok-put_end.ensures.put
          (parts_of c.after_end-rest.result.now) c.after_end-rest.ensures.parts;
      passed = one_passed c.args.place cells way [] (parts_of c.args.pieces.now) (parts_of c.nodes.rest.now) c.nodes.invariant.passed
          head.name.now parts.0 (parts_of head.inner.now) parts.1 parts.3 (parts_of c.in-Ok-put_nodes.behind.now)
          (λ children rest e none. (c.in-Ok-put_nodes.ensures.ok children rest e none).0)
          (parts_of c.after_end-rest.result.now) c.after_end-rest.ensures.parts;
    }

pub nodes-preserved-in-Ok-put_end : goal.nodes-preserved-in-Ok-put_end
nodes-preserved-in-Ok-put_end t c =
    let head = c.in-Some.head in
    let parts = c.in-Some.ensures.parts in
    let own = c.in-Ok.ensures.put in
    let inner = c.in-Ok-inner_of.ensures.ok in
    let host = portion_of c.args.share.now in
    let cells = c.args.bus.0.now in
    let way = path_of c.args.bus.1.now in
    let one = child host c.args.place cells way head.name.now (parts_of head.properties.now) (parts_of head.inner.now)
    (parts_of c.in-Ok-put_nodes.behind.now) c.nodes.writer c.put_head.new.writer c.put_nodes.new.writer own.0 own.1 own.2
    c.in-Ok-inner_of.inner.cells inner.0 c.in-Ok-inner_of.inner.place (path_of c.in-Ok-inner_of.inner.way) inner.1 inner.2 inner.3 inner.4
    c.in-Ok-put_nodes.ensures.ok in
    record {
      len = omega (arith, c.nodes.invariant.len, c.in-Some.ensures.shorter, c.in-Ok-put_nodes.ensures.len, c.after_end-rest.ensures.len);
      whole = next (λ (x : Nodes). x) host c.args.place cells way (parts_of c.args.pieces.now) (parts_of c.nodes.rest.now) c.args.writer.now c.nodes.writer
          c.nodes.invariant.whole head.name.now parts.0 (parts_of head.inner.now) (parts_of head.properties.now) parts.1 parts.2 parts.3
          (λ made inside more. refl) (parts_of c.in-Ok-put_nodes.behind.now) c.put_nodes.new.writer c.put_end.new.writer one c.in-Ok-put_end.ensures.put
          (parts_of c.after_end-rest.result.now) c.after_end-rest.ensures.parts;
      passed = one_passed c.args.place cells way [] (parts_of c.args.pieces.now) (parts_of c.nodes.rest.now) c.nodes.invariant.passed
          head.name.now parts.0 (parts_of head.inner.now) parts.1 parts.3 (parts_of c.in-Ok-put_nodes.behind.now)
          (λ children rest e none. (c.in-Ok-put_nodes.ensures.ok children rest e none).0)
          (parts_of c.after_end-rest.result.now) c.after_end-rest.ensures.parts;
    }

pub returns-clause-ok : goal.returns-clause-ok
returns-clause-ok t c = finish (portion_of c.args.share.now) c.args.place c.args.bus.0.now (path_of c.args.bus.1.now) (parts_of c.args.pieces.now)
    (parts_of c.nodes.rest.now)
    c.args.writer.now c.nodes.writer c.nodes.invariant.whole c.in_default.ensures.parts

pub returns-in-Err-clause-refused : goal.returns-in-Err-clause-refused
returns-in-Err-clause-refused t c =
    let head = c.in-Some.head in
    let parts = c.in-Some.ensures.parts in
    let cells = c.args.bus.0.now in
    let way = path_of c.args.bus.1.now in
    at_front c.args.place cells way [] (parts_of c.args.pieces.now) (parts_of c.nodes.rest.now) c.nodes.invariant.passed
    head.name.now parts.0 (parts_of head.inner.now) parts.1 parts.3 c.in-Err.fault
    (λ children later behind e none. head_refused c.args.place cells way head.name.now parts.0 children later (parts_of head.properties.now) parts.2
    c.in-Err.fault c.in-Err.ensures.refused)

pub returns-in-Err-inner_of-clause-refused : goal.returns-in-Err-inner_of-clause-refused
returns-in-Err-inner_of-clause-refused t c =
    let head = c.in-Some.head in
    let parts = c.in-Some.ensures.parts in
    let cells = c.args.bus.0.now in
    let way = path_of c.args.bus.1.now in
    at_front c.args.place cells way [] (parts_of c.args.pieces.now) (parts_of c.nodes.rest.now) c.nodes.invariant.passed
    head.name.now parts.0 (parts_of head.inner.now) parts.1 parts.3 (NotUnderstood c.in-Err-inner_of.reason)
    (λ children later behind e none. head_refused c.args.place cells way head.name.now parts.0 children later (parts_of head.properties.now) parts.2
    (NotUnderstood c.in-Err-inner_of.reason) c.in-Err-inner_of.ensures.refused)

pub returns-in-Err-put_nodes-clause-refused : goal.returns-in-Err-put_nodes-clause-refused
returns-in-Err-put_nodes-clause-refused t c =
    let head = c.in-Some.head in
    let parts = c.in-Some.ensures.parts in
    let inner = c.in-Ok-inner_of.ensures.ok in
    let cells = c.args.bus.0.now in
    let way = path_of c.args.bus.1.now in
    let fault = c.in-Err-put_nodes.fault in
    at_front c.args.place cells way [] (parts_of c.args.pieces.now) (parts_of c.nodes.rest.now) c.nodes.invariant.passed
    head.name.now parts.0 (parts_of head.inner.now) parts.1 parts.3 fault
    (λ children later behind e none. child_refused c.args.place cells way head.name.now parts.0 children later (parts_of head.properties.now) parts.2
    c.in-Ok-inner_of.inner.cells inner.0 c.in-Ok-inner_of.inner.place (path_of c.in-Ok-inner_of.inner.way) inner.1 inner.2 inner.3 inner.4 fault
    (c.in-Err-put_nodes.ensures.refused children (ends ∷ (parts_of_nodes later ++ behind)) e (ends_begins_none _)))

pub returns-in-Err-put_end-clause-refused : goal.returns-in-Err-put_end-clause-refused
returns-in-Err-put_end-clause-refused t c =
    let head = c.in-Some.head in
    let parts = c.in-Some.ensures.parts in
    let cells = c.args.bus.0.now in
    let way = path_of c.args.bus.1.now in
    let fault = c.in-Err-put_end.fault in
    at_front c.args.place cells way [] (parts_of c.args.pieces.now) (parts_of c.nodes.rest.now) c.nodes.invariant.passed
    head.name.now parts.0 (parts_of head.inner.now) parts.1 parts.3 fault
    (λ children later behind e none. put_refused c.args.place cells way [] (node head.name.now parts.0 children later) fault
    c.in-Err-put_end.ensures.refused)
