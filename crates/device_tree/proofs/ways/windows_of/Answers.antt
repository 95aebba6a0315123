use Rattle.std.proofs.Common.{◌≡◌, ◌+◌, ◌*◌, ◌≤◌, ◌<◌, ◌∙◌, ap, subst, ℕ, List, [], append-nil, drop, length, length-drop, arith}
use Rattle.std.proofs.lemmas.List.{drop_all}
use Rattle.device_tree.specs.declared.ways.Window.{Window}
use Rattle.device_tree.specs.Cells.{number_of}
use Rattle.device_tree.specs.Windows.{AreWindows, window_len}
use Rattle.device_tree.proofs.OneByOne.{and_window}
use Rattle.device_tree.proofs.Uneven.{none_long, one_more_of, uneven}
use Rattle.device_tree.proofs.ways.windows_of.Goals.{then-len-eq0-via-then-len-eq0, then-len-eq0-via-else-len-eq0+then-ranges-at}
use Rattle.device_tree.proofs.ways.windows_of.Goals as goal

pub windows-preserved : goal.windows-preserved
windows-preserved c =
    let cells = c.args.cells.now in
    let outer = c.args.outer in
    let bytes = c.args.ranges.now in
    let at = c.windows.at in
    let w = c.in-Some.window in
    let here = c.after.ensures in
    let long : window_len cells outer ≤ length (drop at bytes) = omega (arith, c.if-ranges-at.false, length-drop at bytes) in
    let some : 0 < window_len cells outer = omega (arith, c.if-len-eq0.false) in
    let child : w.child ≡ number_of cells.address (drop at bytes) = c.in-Some.ensures.child ∙ ap (λ (x : List ℕ). number_of cells.address x) here in
    let parent : w.parent ≡ number_of outer (drop (4 * cells.address) (drop at bytes)) =
    c.in-Some.ensures.parent ∙ ap (λ (x : List ℕ). number_of outer (drop (4 * cells.address) x)) here in
    let size : w.size ≡ number_of cells.size (drop (4 * (cells.address + outer)) (drop at bytes)) =
    c.in-Some.ensures.size ∙ ap (λ (x : List ℕ). number_of cells.size (drop (4 * (cells.address + outer)) x)) here in
    record {
      within = omega (arith, long, length-drop at bytes);
      even = one_more_of c.windows.windows.items _ w at (window_len cells outer) c.in-Ok.ensures.items c.windows.invariant.even;
      whole = rw (c.in-Ok.ensures.items) (and_window cells outer bytes at c.windows.windows.items w some long child parent size c.windows.invariant.whole);
    }

pub returns-then-len-eq0-clause-refused : goal.returns-then-len-eq0-clause-refused
returns-then-len-eq0-clause-refused c =
    let len = window_len c.args.cells.now c.args.outer in
    let some = c.windows-test.true in
    elim c.then-len-eq0.branch [
      | then-len-eq0-via-then-len-eq0 w ↦ none_long len c.args.ranges.now (omega (arith, w.if-len-eq0.true)) (omega (arith, some))
      | then-len-eq0-via-else-len-eq0+then-ranges-at w ↦ uneven (length c.windows.windows.items) c.windows.at len c.args.ranges.now c.windows.invariant.even
          some (omega (arith, w.if-ranges-at.true))
    ]

pub returns-clause-ok : goal.returns-clause-ok
returns-clause-ok c = subst (λ (x : List Window). AreWindows c.args.cells.now c.args.outer c.args.ranges.now x) (append-nil c.windows.windows.items)
    (c.windows.invariant.whole [] (drop_all c.windows.at c.args.ranges.now (omega (arith, c.windows-test.false))))
