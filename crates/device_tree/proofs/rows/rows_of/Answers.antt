use Rattle.std.proofs.Common.{◌≡◌, ◌≤◌, ◌<◌, ◌*◌, ◌∙◌, ap, ℕ, List, [], append-nil, drop, length, length-drop, subst, arith}
use Rattle.std.proofs.lemmas.Grind.{common_steps}
use Rattle.device_tree.specs.Cells.{AreRows, number_of, row_len}
use Rattle.device_tree.specs.declared.rows.Extent.{Extent}
use Rattle.device_tree.proofs.OneByOne.{and_row}
use Rattle.device_tree.proofs.Uneven.{none_long, one_more_of, uneven}
use Rattle.device_tree.proofs.rows.rows_of.Goals.{then-len-eq0-via-then-len-eq0, then-len-eq0-via-else-len-eq0+then-bytes-at}
use Rattle.device_tree.proofs.rows.rows_of.Goals as goal

none_left : (n : ℕ) (xs : List ℕ) → length xs ≤ n → drop n xs ≡ []
none_left n xs h = grind (arith, common_steps)

pub rows-preserved : goal.rows-preserved
rows-preserved c =
    let cells = c.args.cells.now in
    let bytes = c.args.bytes.now in
    let at = c.rows.at in
    let len = c.row_len-len.ensures in
    let here = c.after.ensures in
    let some : 0 < row_len cells = omega (arith, c.if-len-eq0.false, len) in
    let long : row_len cells ≤ length (drop at bytes) = omega (arith, c.if-bytes-at.false, len, length-drop at bytes) in
    let base = c.in-Some.ensures.0 ∙ ap (λ (x : List ℕ). number_of cells.address x) here in
    let size = c.in-Some.ensures.1 ∙ ap (λ (x : List ℕ). number_of cells.size (drop (4 * cells.address) x)) here in
    record {
      within = omega (arith, c.if-bytes-at.false, c.rows.invariant.within);
      even = rw len (one_more_of c.rows.rows.items _ c.in-Some.row at (row_len cells) c.in-Ok.ensures.items c.rows.invariant.even);
      whole = rw (len, c.in-Ok.ensures.items) (and_row cells bytes at c.rows.rows.items c.in-Some.row some long base size c.rows.invariant.whole);
    }

pub returns-then-len-eq0-clause-refused : goal.returns-then-len-eq0-clause-refused
returns-then-len-eq0-clause-refused c =
    let len = row_len c.args.cells.now in
    let some = c.rows-test.true in
    elim c.then-len-eq0.branch [
      | then-len-eq0-via-then-len-eq0 w ↦ none_long len c.args.bytes.now (omega (arith, w.if-len-eq0.true, c.row_len-len.ensures)) (omega (arith, some))
      | then-len-eq0-via-else-len-eq0+then-bytes-at w ↦ uneven (length c.rows.rows.items) c.rows.at len c.args.bytes.now c.rows.invariant.even some
          (omega (arith, w.if-bytes-at.true, c.row_len-len.ensures))
    ]

pub returns-clause-ok : goal.returns-clause-ok
returns-clause-ok c = subst (λ (x : List Extent). AreRows c.args.cells.now c.args.bytes.now x) (append-nil c.rows.rows.items)
    (c.rows.invariant.whole [] (none_left c.rows.at c.args.bytes.now (omega (arith, c.rows-test.false))))
