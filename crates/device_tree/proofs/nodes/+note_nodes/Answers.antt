use Rattle.std.proofs.Common.{arith}
use Rattle.device_tree.specs.Pieces.{parts_of}
use Rattle.device_tree.specs.Windows.{path_of}
use Rattle.device_tree.specs.Meaning.{said_of}
use Rattle.device_tree.specs.declared.board_fault.BoardReason.TheVariants.{BadRows}
use Rattle.device_tree.proofs.OneNode.{finish, next, start}
use Rattle.device_tree.proofs.NoRanges.{at_child, at_first, none_passed, one_passed}
use Rattle.device_tree.proofs.nodes.+note_nodes.Goals as goal

pub nodes-init : goal.nodes-init
nodes-init t c = record {
  len = omega (arith);
  passed = none_passed c.args.place c.args.bus.0.now (path_of c.args.bus.1.now) c.args.pieces.now;
  whole = start c.args.place c.args.bus.0.now (path_of c.args.bus.1.now) (parts_of c.args.pieces.now) (said_of c.args.found.now.items);
}

pub nodes-preserved-in-Ok-note_nodes : goal.nodes-preserved-in-Ok-note_nodes
nodes-preserved-in-Ok-note_nodes t c =
    let head = c.in-Some.head in
    let parts = c.in-Some.ensures.parts in
    let pieces = c.in-Some.ensures.pieces in
    let own = c.in-Ok.ensures.noted in
    let inner = c.in-Ok-inner_of.ensures.ok in
    let behind = c.in-Ok-note_nodes.behind.now in
    let cells = c.in-Ok-inner_of.inner.cells in
    record {
      len = omega (arith, c.nodes.invariant.len, c.in-Some.ensures.shorter, c.in-Ok-note_nodes.ensures.len, c.after_end-rest.ensures.len);
      passed = one_passed c.args.place c.args.bus.0.now (path_of c.args.bus.1.now) c.args.pieces.now c.nodes.rest.now c.nodes.invariant.passed
          pieces.0 head.properties.now head.inner.now pieces.1 head.name.now parts.0 parts.1 parts.3
          cells c.in-Ok-inner_of.inner.place (path_of c.in-Ok-inner_of.inner.way) behind (said_of c.note_head.new.found.items)
          (said_of c.note_nodes.new.found.items) c.in-Ok-note_nodes.ensures.ok c.in-Ok-note_nodes.ensures.behind
          c.after_end-rest.result.now c.after_end-rest.ensures.parts c.after_end-rest.ensures.pieces;
      whole = next c.args.place c.args.bus.0.now (path_of c.args.bus.1.now) (parts_of c.args.pieces.now) (parts_of c.nodes.rest.now)
          (said_of c.args.found.now.items) (said_of c.nodes.found.items) c.nodes.invariant.whole
          head.name.now parts.0 (parts_of head.inner.now) (parts_of head.properties.now) parts.1 parts.2 parts.3
          own.0 (said_of c.note_head.new.found.items) own.1 own.2
          cells inner.0 c.in-Ok-inner_of.inner.place (path_of c.in-Ok-inner_of.inner.way) inner.1 inner.2 inner.3 inner.4
          (parts_of c.in-Ok-note_nodes.behind.now) (said_of c.note_nodes.new.found.items) c.in-Ok-note_nodes.ensures.ok
          (parts_of c.after_end-rest.result.now) c.after_end-rest.ensures.parts;
    }

pub nodes-preserved : goal.nodes-preserved
nodes-preserved t c =
    let head = c.in-Some.head in
    let parts = c.in-Some.ensures.parts in
    let pieces = c.in-Some.ensures.pieces in
    let own = c.in-Ok.ensures.noted in
    let inner = c.in-Ok-inner_of.ensures.ok in
    let behind = c.in-Ok-note_nodes.behind.now in
    let cells = c.in-Ok-inner_of.inner.cells in
    record {
      len = omega (arith, c.nodes.invariant.len, c.in-Some.ensures.shorter, c.in-Ok-note_nodes.ensures.len, c.after_end-rest.ensures.len);
      passed = one_passed c.args.place c.args.bus.0.now (path_of c.args.bus.1.now) c.args.pieces.now c.nodes.rest.now c.nodes.invariant.passed
          pieces.0 head.properties.now head.inner.now pieces.1 head.name.now parts.0 parts.1 parts.3
          cells c.in-Ok-inner_of.inner.place (path_of c.in-Ok-inner_of.inner.way) behind (said_of c.note_head.new.found.items)
          (said_of c.note_nodes.new.found.items) c.in-Ok-note_nodes.ensures.ok c.in-Ok-note_nodes.ensures.behind
          c.after_end-rest.result.now c.after_end-rest.ensures.parts c.after_end-rest.ensures.pieces;
      whole = next c.args.place c.args.bus.0.now (path_of c.args.bus.1.now) (parts_of c.args.pieces.now) (parts_of c.nodes.rest.now)
          (said_of c.args.found.now.items) (said_of c.nodes.found.items) c.nodes.invariant.whole
          head.name.now parts.0 (parts_of head.inner.now) (parts_of head.properties.now) parts.1 parts.2 parts.3
          own.0 (said_of c.note_head.new.found.items) own.1 own.2
          cells inner.0 c.in-Ok-inner_of.inner.place (path_of c.in-Ok-inner_of.inner.way) inner.1 inner.2 inner.3 inner.4
          (parts_of c.in-Ok-note_nodes.behind.now) (said_of c.note_nodes.new.found.items) c.in-Ok-note_nodes.ensures.ok
          (parts_of c.after_end-rest.result.now) c.after_end-rest.ensures.parts;
    }

pub returns-clause-ok : goal.returns-clause-ok
returns-clause-ok t c = finish c.args.place c.args.bus.0.now (path_of c.args.bus.1.now) (parts_of c.args.pieces.now) (parts_of c.nodes.rest.now)
    (said_of c.args.found.now.items) (said_of c.nodes.found.items) c.nodes.invariant.whole c.in_default.ensures.parts

pub returns-clause-behind : goal.returns-clause-behind
returns-clause-behind t c = c.nodes.invariant.passed.0

pub returns-in-Err-clause-refused : goal.returns-in-Err-clause-refused
returns-in-Err-clause-refused t c =
    let head = c.in-Some.head in
    let parts = c.in-Some.ensures.parts in
    let pieces = c.in-Some.ensures.pieces in
    at_first c.args.place c.args.bus.0.now (path_of c.args.bus.1.now) c.args.pieces.now c.nodes.rest.now c.nodes.invariant.passed
    pieces.0 head.properties.now head.inner.now pieces.1 head.name.now parts.0 (parts_of head.properties.now) parts.1 parts.2 parts.3
    (BadRows c.in-Err.fault) head.offset c.in-Err.ensures.refused pieces.2

pub returns-in-Err-inner_of-clause-refused : goal.returns-in-Err-inner_of-clause-refused
returns-in-Err-inner_of-clause-refused t c =
    let head = c.in-Some.head in
    let parts = c.in-Some.ensures.parts in
    let pieces = c.in-Some.ensures.pieces in
    at_first c.args.place c.args.bus.0.now (path_of c.args.bus.1.now) c.args.pieces.now c.nodes.rest.now c.nodes.invariant.passed
    pieces.0 head.properties.now head.inner.now pieces.1 head.name.now parts.0 (parts_of head.properties.now) parts.1 parts.2 parts.3
    c.in-Err-inner_of.reason head.offset c.in-Err-inner_of.ensures.refused pieces.2

pub returns-in-Err-note_nodes-clause-refused : goal.returns-in-Err-note_nodes-clause-refused
returns-in-Err-note_nodes-clause-refused t c =
    let head = c.in-Some.head in
    let parts = c.in-Some.ensures.parts in
    let pieces = c.in-Some.ensures.pieces in
    let inner = c.in-Ok-inner_of.ensures.ok in
    let fault = c.in-Err-note_nodes.fault in
    at_child c.args.place c.args.bus.0.now (path_of c.args.bus.1.now) c.args.pieces.now c.nodes.rest.now c.nodes.invariant.passed
    pieces.0 head.properties.now head.inner.now pieces.1 head.name.now parts.0 (parts_of head.properties.now) parts.1 parts.2 parts.3
    c.in-Ok-inner_of.inner.cells inner.0 c.in-Ok-inner_of.inner.place (path_of c.in-Ok-inner_of.inner.way) inner.1 inner.2 inner.3 inner.4
    fault.reason fault.offset c.in-Err-note_nodes.ensures.refused
