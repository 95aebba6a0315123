use Rattle.std.proofs.Common.{◌∙◌, [], ◌∷◌, ◌++◌, ap, length, length-append, arith}
use Rattle.plan_certificate.proofs.ChainSpelled.{leaf_held, no_leaves}
use Rattle.plan_certificate.proofs.pieces.hold_leaves.Goals as goal

pub loop-left-preserved : goal.loop-left-preserved
loop-left-preserved c =
    let l = c.loop-left in
    let leaf = c.as_slice-bytes.ensures ∙ ap (λ b. 0 ∷ b ∷ []) c.bits.ensures.value in
    record {
      room = omega (
        arith,
        l.invariant.room,
        c.loop-left-test.true,
        ap length c.hold.ensures,
        length-append l.piece.items c.as_slice-bytes.result.now,
        ap length
            c.as_slice-bytes.ensures,
      );
      held = leaf_held _ _ l.piece.items _ _ c.loop-left-test.true (c.hold.ensures ∙ ap (λ x. l.piece.items ++ x) leaf) l.invariant.held;
    }

pub returns : goal.returns
returns c = no_leaves _ _ _ _ c.loop-left-test.false c.loop-left.invariant.held
