use Rattle.std.proofs.Common.{⊎_elim, List, Err, ◌≡◌, ◌∙◌, ◌+◌, ◌∷◌, ◌++◌, [], ap, refl, append_assoc, append-nil, sym, subst, arith, length, length-append}
use Rattle.std.proofs.lemmas.Bool.{cases_lt}
use Rattle.permission_map.specs.declared.runs.Run.{Run}
use Rattle.text_lines.specs.WholeTexts.{left_of}
use Rattle.text_lines.specs.Lines.{raw_lines}
use Rattle.map_text.specs.MapFile.{IsUnknown, Leads, Makes, MakesFirst, MakesTooMany, raw_says, start, line}
use Rattle.text_lines.proofs.InputLines.{raw_lines-are}
use Rattle.map_text.proofs.Followed.{fault_at, long_says, short_says}
use Rattle.map_text.proofs.Growing.{grows}
use Rattle.map_text.proofs.map_file.map_of.Goals as goal

pub lines-init : goal.lines-init
lines-init c = record {
  followed = (
    [],
    ap (λ p. raw_lines (p ++ c.args.bytes.now)) (sym c.with_limit-lines.ensures.pending),
    sym c.with_limit-lines.ensures.number,
    rw
        c.new-map.ensures start,
  );
  grown = λ some. absurd (omega (arith, ap length c.new-map.ensures, some));
  came = omega (arith, c.with_limit-lines.ensures.came);
  limit = c.with_limit-lines.ensures.limit;
}

pub returns-in-Err-clause-unknown : goal.returns-in-Err-clause-unknown
returns-in-Err-clause-unknown c = λ n e.
    let f = c.lines.invariant.followed in
    let long = c.in-Err.ensures.next in
    let number : c.in-Err.number ≡ n = cc in
    fault_at c.args.bytes.now n IsUnknown f.0 long.0 long.1 _ c.lines.map f.1 long.2.lines (ap (λ k. k + 1) f.2 ∙ sym long.2.number ∙ number) f.3
    (long_says long.0 long.2.long)

pub returns-in-Err-NotUnderstood-clause-unknown : goal.returns-in-Err-NotUnderstood-clause-unknown
returns-in-Err-NotUnderstood-clause-unknown c = λ n e.
    let f = c.lines.invariant.followed in
    let first = rw c.in-Ok-true.field-0-test at c.in-Ok-true.ensures.next in
    let says = short_says first.0 c.line.result.now first.1.short (c.line.ensures ∙ first.1.text) in
    let number : c.number.result ≡ n = cc in
    fault_at c.args.bytes.now n IsUnknown f.0 first.0 _ _ c.lines.map f.1 first.1.lines
    (ap (λ k. k + 1) f.2 ∙ sym first.1.number ∙ sym c.number.ensures ∙ number) f.3
    (says ∙ c.in-Err-NotUnderstood.ensures.unknown (ap (λ e. Err e) c.in-Err-NotUnderstood.field-0-is))

pub returns-in-Err-TooManyRanges-clause-many : goal.returns-in-Err-TooManyRanges-clause-many
returns-in-Err-TooManyRanges-clause-many c = λ _.
    let f = c.lines.invariant.followed in
    let first = rw c.in-Ok-true.field-0-test at c.in-Ok-true.ensures.next in
    let says = short_says first.0 c.line.result.now first.1.short (c.line.ensures ∙ first.1.text) in
    let many = c.in-Err-TooManyRanges.ensures.many (ap (λ e. Err e) c.in-Err-TooManyRanges.field-0-is) in
    (_, fault_at c.args.bytes.now _ MakesTooMany f.0 first.0 _ _ c.lines.map f.1 first.1.lines refl f.3 (subst (MakesTooMany c.lines.map) (sym says) many))

pub returns-in-Err-Memory-clause-memory : goal.returns-in-Err-Memory-clause-memory
returns-in-Err-Memory-clause-memory c = λ _.
    let f = c.lines.invariant.followed in
    let first = rw c.in-Ok-true.field-0-test at c.in-Ok-true.ensures.next in
    let says = short_says first.0 c.line.result.now first.1.short (c.line.ensures ∙ first.1.text) in
    let more = c.in-Err-Memory.ensures.memory (ap (λ e. Err e) c.in-Err-Memory.field-0-is) in
    (_, fault_at c.args.bytes.now _ MakesFirst f.0 first.0 _ _ c.lines.map f.1 first.1.lines refl f.3 (subst (MakesFirst c.lines.map) (sym says) more))

pub returns-in_default-clause-memory : goal.returns-in_default-clause-memory
returns-in_default-clause-memory c = λ _. c.lines.invariant.grown c.in_default.ensures.memory

pub returns-clause-made : goal.returns-clause-made
returns-clause-made c =
    let f = c.lines.invariant.followed in
    let none = rw c.in-Ok-false.field-0-test at c.in-Ok-false.ensures.next in
    let M : List Run → Type 0 = Makes c.args.bytes.now in
    let own : Makes c.args.bytes.now c.lines.map =
    record {
      lines = f.0;
      are_lines = rw (f.1 ∙ ap (λ x. f.0 ++ raw_lines x) none ∙ append-nil f.0) at (raw_lines-are c.args.bytes.now);
      made = f.3;
    } in
    subst M (sym c.in-Ok-finish.ensures.map) own

pub lines-preserved : goal.lines-preserved
lines-preserved c =
    let f = c.lines.invariant.followed in
    let first = rw c.in-Ok-true.field-0-test at c.in-Ok-true.ensures.next in
    let says = short_says first.0 c.line.result.now first.1.short (c.line.ensures ∙ first.1.text) in
    let leads : Leads (raw_says first.0) c.lines.map c.follow.new.map = subst (λ s. Leads s c.lines.map c.follow.new.map) (sym says) c.in-Ok.ensures.said in
    record {
      followed = (
        f.0 ++ first.0 ∷ [],
        f.1 ∙ ap (λ x. f.0 ++ x) first.1.lines ∙ sym (append_assoc f.0 (first.0 ∷ []) (raw_lines (left_of c.next_line.new.lines c.next_line.new.rest.now))),
        length-append f.0 (first.0 ∷ []) ∙ ap (λ n. n + 1) f.2 ∙ sym first.1.number,
        line first.0 f.3 leads,
      );
      grown = λ some.
          ⊎_elim (λ had. c.lines.invariant.grown had)
          (λ none. (_, fault_at c.args.bytes.now _ MakesFirst f.0 first.0 _ _ c.lines.map f.1 first.1.lines refl f.3 (grows _ _ _ none some leads)))
          (cases_lt 0 (length c.lines.map));
      came = c.in-Ok-true.ensures.came ∙ c.lines.invariant.came;
      limit = c.in-Ok-true.ensures.limit ∙ c.lines.invariant.limit;
    }
