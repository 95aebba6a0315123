use Rattle.std.proofs.Common.{◌≡◌, ◌∷◌, ◌++◌, ◌∙◌, sym, true, false}
use Rattle.std.proofs.lemmas.Result.{err_from_is_err_and}
use Rattle.std.specs.Prelude.{bytes_eq, codes}
use Rattle.device_tree.specs.Pieces.{ends, parts_of}
use Rattle.device_tree.specs.Nodes.{node, parts_of_nodes}
use Rattle.device_tree.proofs.OneTree.{ends_begins_none}
use Rattle.device_tree.specs.declared.kinds.Place.TheVariants.{BelowRoot}
use Rattle.device_tree.specs.Windows.{same}
use Rattle.host_tree.specs.HostTrees.{portion_of}
use Rattle.host_tree.specs.Ranges.{range_nodes, with_ranges}
use Rattle.host_tree.proofs.OneHost.{at_end, at_node, next, start}
use Rattle.host_tree.proofs.Refused.{at_front, later_refused, none_passed, one_passed, put_refused, range_refused, ranged}
use Rattle.host_tree.proofs.Ranged.{ends_there, goes_on}
use Rattle.host_tree.proofs.root.put_children.Goals as goal

pub nodes-init : goal.nodes-init
nodes-init c = record {
  whole = start (with_ranges c.args.cells.now c.args.ranges.now) (portion_of c.args.share.now) BelowRoot c.args.cells.now same (parts_of
      c.args.pieces.now) c.args.writer.now;
  passed = none_passed BelowRoot c.args.cells.now same c.args.ranges.now (parts_of c.args.pieces.now);
}

pub nodes-preserved : goal.nodes-preserved
nodes-preserved c =
    let head = c.in-Some.head in
    let parts = c.in-Some.ensures.parts in
    let cells = c.args.cells.now in
    let ranges = c.args.ranges.now in
    let other : bytes_eq head.name.now (codes "reserved-memory") ≡ false = sym c.is_parent.ensures ∙ c.if-is_parent.false in
    record {
      whole = next (with_ranges cells ranges) (portion_of c.args.share.now) BelowRoot cells same (parts_of c.args.pieces.now) (parts_of c.nodes.rest.now)
          c.args.writer.now c.nodes.writer c.nodes.invariant.whole head.name.now parts.0 (parts_of head.inner.now) (parts_of head.properties.now)
          parts.1 parts.2 parts.3 (goes_on cells ranges head.name.now other) (parts_of c.in-Ok.behind.now) c.put_child.new.writer c.put_end.new.writer
          c.in-Ok.ensures.ok c.in-Ok-put_end.ensures.put (parts_of c.after_end-rest.result.now) c.after_end-rest.ensures.parts;
      passed = one_passed BelowRoot cells same ranges (parts_of c.args.pieces.now) (parts_of c.nodes.rest.now) c.nodes.invariant.passed
          head.name.now parts.0 (parts_of head.inner.now) parts.1 parts.3 (parts_of c.in-Ok.behind.now)
          (λ children rest e none. (c.in-Ok.ensures.ok parts.0 children rest parts.2 e none).0)
          (parts_of c.after_end-rest.result.now) c.after_end-rest.ensures.parts;
    }

pub returns-in_default-clause-ok : goal.returns-in_default-clause-ok
returns-in_default-clause-ok c = λ nodes behind e none.
    let done = at_end (with_ranges c.args.cells.now c.args.ranges.now) (portion_of c.args.share.now) BelowRoot c.args.cells.now same (parts_of
    c.args.pieces.now)
    (parts_of c.nodes.rest.now) c.args.writer.now c.nodes.writer c.put_parent.new.writer c.nodes.invariant.whole c.in_default.ensures.parts
    c.in_ok-put_parent.ensures.written nodes behind e none in
    (done.1, done.2, done.3)

pub returns-then-is_parent-clause-ok : goal.returns-then-is_parent-clause-ok
returns-then-is_parent-clause-ok c = λ nodes behind e none.
    let head = c.in-Some.head in
    let parts = c.in-Some.ensures.parts in
    let cells = c.args.cells.now in
    let ranges = c.args.ranges.now in
    let yes : bytes_eq head.name.now (codes "reserved-memory") ≡ true = sym c.is_parent.ensures ∙ c.if-is_parent.true in
    at_node (with_ranges cells ranges) (portion_of c.args.share.now) BelowRoot cells same (parts_of c.args.pieces.now) (parts_of c.nodes.rest.now)
    c.args.writer.now c.nodes.writer c.nodes.invariant.whole head.name.now parts.0 (parts_of head.inner.now) (parts_of head.properties.now)
    parts.1 parts.2 parts.3 (parts_of_nodes (range_nodes cells ranges)) (ends_there cells ranges head.name.now yes) (parts_of c.in-Ok.behind.now)
    c.put_child.new.writer c.put_last.new.writer c.in-Ok.ensures.ok c.in_ok-put_last.ensures.ok nodes behind e none

pub returns-in_err-put_parent-clause-refused : goal.returns-in_err-put_parent-clause-refused
returns-in_err-put_parent-clause-refused c =
    let p = err_from_is_err_and c.from_residual.result c.from_residual.ensures.1 in
    rw (p.1, p.2) (λ nodes behind e none. range_refused BelowRoot c.args.cells.now same c.args.ranges.now nodes _ c.in_err-put_parent.ensures.refused)

pub returns-in-Err-clause-refused : goal.returns-in-Err-clause-refused
returns-in-Err-clause-refused c =
    let head = c.in-Some.head in
    let parts = c.in-Some.ensures.parts in
    let cells = c.args.cells.now in
    let ranges = c.args.ranges.now in
    let fault = c.in-Err.fault in
    at_front BelowRoot cells same ranges (parts_of c.args.pieces.now) (parts_of c.nodes.rest.now) c.nodes.invariant.passed
    head.name.now parts.0 (parts_of head.inner.now) parts.1 parts.3 fault
    (λ children later behind e none. ranged BelowRoot cells same ranges (node head.name.now parts.0 children later) fault
    (c.in-Err.ensures.refused parts.0 children (ends ∷ (parts_of_nodes later ++ behind)) parts.2 e (ends_begins_none _) later))

pub returns-in_err-put_last-clause-refused : goal.returns-in_err-put_last-clause-refused
returns-in_err-put_last-clause-refused c =
    let head = c.in-Some.head in
    let parts = c.in-Some.ensures.parts in
    let cells = c.args.cells.now in
    let ranges = c.args.ranges.now in
    let p = err_from_is_err_and c.from_residual-in_err-put_last.result c.from_residual-in_err-put_last.ensures.1 in
    rw (p.1, p.2) (at_front BelowRoot cells same ranges (parts_of c.args.pieces.now) (parts_of c.nodes.rest.now) c.nodes.invariant.passed
    head.name.now parts.0 (parts_of head.inner.now) parts.1 parts.3 _
    (λ children later behind e none. later_refused BelowRoot cells same ranges head.name.now parts.0 children later _
    (c.in_err-put_last.ensures.refused later behind
    (c.in-Ok.ensures.ok parts.0 children (ends ∷ (parts_of_nodes later ++ behind)) parts.2 e (ends_begins_none _)).0 none)))

pub returns-in-Err-put_end-clause-refused : goal.returns-in-Err-put_end-clause-refused
returns-in-Err-put_end-clause-refused c =
    let head = c.in-Some.head in
    let parts = c.in-Some.ensures.parts in
    let cells = c.args.cells.now in
    let ranges = c.args.ranges.now in
    let fault = c.in-Err-put_end.fault in
    at_front BelowRoot cells same ranges (parts_of c.args.pieces.now) (parts_of c.nodes.rest.now) c.nodes.invariant.passed
    head.name.now parts.0 (parts_of head.inner.now) parts.1 parts.3 fault
    (λ children later behind e none. put_refused BelowRoot cells same ranges (node head.name.now parts.0 children later) fault
    c.in-Err-put_end.ensures.refused)
