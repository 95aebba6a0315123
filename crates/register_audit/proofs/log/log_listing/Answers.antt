use Rattle.std.proofs.Common.{◌∙◌, ◌+◌, ◌++◌, ◌∷◌, [], ap, append_assoc, arith, length-append, sym}
use Rattle.text_lines.specs.Lines.{raw_lines}
use Rattle.register_audit.specs.RegisterListings.{sets_next}
use Rattle.register_audit.proofs.Followed.{agreed_yes, set_by_more, set_pairs, set_width}
use Rattle.register_audit.proofs.log.log_listing.Goals as goal

pub loop-rest-preserved : goal.loop-rest-preserved
loop-rest-preserved c =
    let f = c.loop-rest.invariant.followed in
    let raw = c.split_line.result.0.now in
    let rest = c.split_line.result.1.now in
    record {
      followed = (
        f.0 ++ raw ∷ [],
        f.1 ∙ ap (λ x. f.0 ++ x) c.split_line.ensures.lines ∙ sym (append_assoc f.0 (raw ∷ []) (raw_lines rest)),
        length-append f.0 (raw ∷ []) ∙ ap (λ n. n + 1) f.2,
        rw c.of-listing.ensures (set_by_more (sets_next c.args.xlen) _ c.loop-rest.listing 1 (c.loop-rest.number + 1) f.0 raw c.in-Ok.setting f.3
            (omega (arith, f.2)) (agreed_yes c.loop-rest.listing c.in-Ok.setting _ (sym c.in-Ok.ensures.value)
            (sym c.agrees.ensures ∙ c.if-not-agrees.false))),
      );
      width = ap (λ x. x.registers.xlen) c.of-listing.ensures ∙ (set_width c.loop-rest.listing (c.loop-rest.number + 1) c.in-Ok.setting
          ∙ c.loop-rest.invariant.width);
      few = omega (
        arith,
        set_pairs c.loop-rest.listing (c.loop-rest.number + 1) c.in-Ok.setting,
        ap (λ x. x.pairs) c.of-listing.ensures,
        c.loop-rest.invariant.few,
      );
      counted = omega (arith, c.loop-rest.invariant.counted, c.split_line.ensures.shorter);
    }
