use Rattle.std.proofs.Common.{◌∙◌, [], ◌∷◌, ◌++◌, ap, sym, length, length-append, arith}
use Rattle.plan_certificate.proofs.ChainSpelled.{front_is, held_down, held_up, fits_more, leaves_more, no_heads, no_tails, placed_next, tails_down, tails_up}
use Rattle.plan_certificate.proofs.pieces.hold_heads.Goals as goal
use Rattle.plan_certificate.proofs.pieces.hold_heads.Goals.{then-goes_up, else-goes_up}

pub loop-rest-preserved : goal.loop-rest-preserved
loop-rest-preserved c =
    let l = c.loop-rest in
    let i = l.invariant in
    let some = c.loop-rest-test.true in
    let front = front_is c.args.costs.now l.next _ _ _ c.as_slice.ensures c.front_of-front.ensures.bytes c.costs_of.ensures.costs in
    let leaf = c.as_slice-bytes.ensures ∙ ap (λ b. 0 ∷ b ∷ []) c.bits.ensures.value in
    elim c.if-goes_up.branch [
      | then-goes_up w ↦ rw (w.piece-is, w.behind-is, c.smaller-smaller.ensures) (record {
        place = placed_next l.rest some i.place;
        most = omega (arith, i.most);
        from = omega (arith, i.from);
        counted = omega (arith, i.counted, some);
        room = omega (
          arith,
          i.room,
          some,
          ap length c.hold.ensures,
          length-append l.piece.items c.as_slice.result.now,
          ap length c.as_slice.ensures,
          c.front_of-front.ensures.size,
          ap length w.hold-then-goes_up.ensures,
          length-append c.hold.new.piece.items c.as_slice-bytes.result.now,
          ap length
              c.as_slice-bytes.ensures,
        );
        held = held_up _ _ l.rest c.args.chain.before l.piece.items c.hold.new.piece.items _ _ some (sym c.goes_up.ensures ∙ w.if-goes_up.true)
            (c.hold.ensures ∙ ap (λ x. l.piece.items ++ x) front) (w.hold-then-goes_up.ensures ∙ ap (λ x. c.hold.new.piece.items ++ x) leaf) i.held;
        tails = λ b. tails_up l.rest b _ _ some (sym c.goes_up.ensures ∙ w.if-goes_up.true) (i.tails b);
        few = omega (arith, i.few, some);
        fits = fits_more _ _ _ i.fits c.costs_of.ensures.fits;
      })
      | else-goes_up w ↦ rw (w.piece-is, w.behind-is, c.smaller-smaller.ensures) (record {
        place = placed_next l.rest some i.place;
        most = omega (arith, i.most);
        from = omega (arith, i.from);
        counted = omega (arith, i.counted, some);
        room = omega (
          arith,
          i.room,
          some,
          ap length c.hold.ensures,
          length-append l.piece.items c.as_slice.result.now,
          ap length c.as_slice.ensures,
          c.front_of-front.ensures.size,
        );
        held = held_down _ _ l.rest c.args.chain.before l.piece.items _ _ some (sym c.goes_up.ensures ∙ w.if-goes_up.false)
            (c.hold.ensures ∙ ap (λ x. l.piece.items ++ x) front) i.held;
        tails = λ b. tails_down l.rest b _ _ _ some (sym c.goes_up.ensures ∙ w.if-goes_up.false) (leaves_more l.behind b) (i.tails b);
        few = omega (arith, i.few, some);
        fits = fits_more _ _ _ i.fits c.costs_of.ensures.fits;
      })
    ]

pub returns-clause-held : goal.returns-clause-held
returns-clause-held c = no_heads _ _ _ _ _ _ _ c.loop-rest-test.false c.loop-rest.invariant.held

pub returns-clause-fits : goal.returns-clause-fits
returns-clause-fits c = λ m from to. c.loop-rest.invariant.fits m from (omega (arith, c.loop-rest.invariant.counted, c.loop-rest-test.false, to))

pub returns-clause-tails : goal.returns-clause-tails
returns-clause-tails c = λ b. no_tails _ _ b _ _ c.loop-rest-test.false (c.loop-rest.invariant.tails b)
