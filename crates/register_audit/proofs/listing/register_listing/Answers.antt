use Rattle.std.proofs.Common.{◌≡◌, ◌∙◌, ◌+◌, ◌++◌, ◌∷◌, [], Some, ap, append_assoc, append-nil, arith, length, length-append, sym}
use Rattle.text_lines.specs.WholeTexts.{left_of}
use Rattle.text_lines.specs.Lines.{raw_lines}
use Rattle.register_audit.specs.Lines.{raw_sets}
use Rattle.register_audit.specs.RegisterListings.{sets_alone}
use Rattle.register_audit.proofs.Followed.{agreed_yes, set_by_more, set_pairs, set_width, short_sets}
use Rattle.register_audit.proofs.listing.register_listing.Goals as goal

pub loop-lines-preserved : goal.loop-lines-preserved
loop-lines-preserved c =
    let f = c.loop-lines.invariant.followed in
    let first = rw c.if-branch.true at c.in_ok-next_line.ensures.next in
    let sets : raw_sets c.args.xlen first.0 ≡ Some c.in-Ok.setting = short_sets c.args.xlen first.0 c.line.result.now first.1.short
    (c.line.ensures ∙ first.1.text) ∙ sym c.in-Ok.ensures.value in
    record {
      followed = (
        f.0 ++ first.0 ∷ [],
        f.1 ∙ ap (λ x. f.0 ++ x) first.1.lines ∙ sym (append_assoc f.0 (first.0 ∷ []) (raw_lines (left_of c.next_line.new.lines c.next_line.new.rest.now))),
        length-append f.0 (first.0 ∷ []) ∙ ap (λ n. n + 1) f.2 ∙ sym first.1.number,
        rw c.of-listing.ensures (set_by_more (sets_alone c.args.xlen) _ c.loop-lines.listing 1 c.number-number.result f.0 first.0 c.in-Ok.setting f.3
            (omega (arith, f.2, first.1.number, c.number-number.ensures)) (agreed_yes c.loop-lines.listing c.in-Ok.setting _ sets
            (sym c.agrees.ensures ∙ c.if-not-agrees.false))),
      );
      came = c.in_ok-next_line.ensures.came ∙ c.loop-lines.invariant.came;
      width = ap (λ x. x.registers.xlen) c.of-listing.ensures ∙ (set_width c.loop-lines.listing c.number-number.result c.in-Ok.setting
          ∙ c.loop-lines.invariant.width);
      counted = c.number-number.ensures;
      few = omega (
        arith,
        set_pairs c.loop-lines.listing c.number-number.result c.in-Ok.setting,
        ap (λ x. x.pairs) c.of-listing.ensures,
        c.loop-lines.invariant.few,
        first.1.number,
      );
      limit = c.in_ok-next_line.ensures.limit ∙ c.loop-lines.invariant.limit;
    }

pub returns-clause-lines : goal.returns-clause-lines
returns-clause-lines c =
    let f = c.loop-lines.invariant.followed in
    let none = rw c.if-branch.false at c.in_ok-next_line.ensures.next in
    c.loop-lines.invariant.counted ∙ sym f.2 ∙ ap length (sym (append-nil f.0) ∙ ap (λ x. f.0 ++ raw_lines x) (sym none) ∙ sym f.1)
