use Rattle.std.proofs.Common.{◌≡◌, ◌∙◌, ap, sym, refl, subst, List, [], ◌++◌, append-nil, append_assoc, drop, arith}
use Rattle.std.proofs.lemmas.List.{drop_all}
use Rattle.device_tree.specs.declared.rows.Extent.{Extent}
use Rattle.device_tree.specs.Windows.{path_of}
use Rattle.device_tree.specs.Meaning.{AreRanges, Range, said_of}
use Rattle.device_tree.proofs.OneByOne.{and_ranges}
use Rattle.device_tree.proofs.registers.note_rows.Goals as goal

pub loop-row-preserved : goal.loop-row-preserved
loop-row-preserved c =
    let before = c.loop-row.invariant.whole in
    let own = c.in-Ok.ensures.noted in
    record {
      whole = (
        before.0 ++ own.0,
        and_ranges (path_of c.args.way.now) c.args.node.0 c.args.node.1.now c.args.rows.now c.loop-row.row-index _ _ c.loop-row-test.true refl
            before.0 own.0 before.1 own.1,
        own.2 ∙ ap (λ (x : List Range). x ++ own.0) before.2 ∙ append_assoc (said_of c.args.found.now.items) before.0 own.0,
      );
    }

pub returns-clause-noted : goal.returns-clause-noted
returns-clause-noted c =
    let before = c.loop-row.invariant.whole in
    let way = path_of c.args.way.now in
    let none : drop c.loop-row.row-index c.args.rows.now ≡ [] = drop_all c.loop-row.row-index c.args.rows.now (omega (arith, c.loop-row-test.false)) in
    let end : AreRanges way c.args.node.0 c.args.node.1.now (drop c.loop-row.row-index c.args.rows.now) [] =
    subst (λ (x : List Extent). AreRanges way c.args.node.0 c.args.node.1.now x []) (sym none) refl in (
      before.0,
      subst (λ (x : List Range). AreRanges way c.args.node.0 c.args.node.1.now c.args.rows.now x) (append-nil before.0) (before.1 [] end),
      before.2,
    )
