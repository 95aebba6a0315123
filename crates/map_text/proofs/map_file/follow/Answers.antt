use Rattle.std.proofs.Common.{ℕ, Some, ◌≡◌, ◌∙◌, ◌<◌, ◌≤◌, ap, sym, arith, length}
use Rattle.map_text.specs.MapFile.{line_says}
use Rattle.map_text.proofs.map_file.follow.Goals as goal

at_most : (n : ℕ) → (4096 < n → ⊥) → n ≤ 4096
at_most n h = omega arith

pub returns-in-Ok-set_range-clause-said : goal.returns-in-Ok-set_range-clause-said
returns-in-Ok-set_range-clause-said c =
    let says : line_says c.args.line.now ≡ Some (Some c.in-Some.setting) = sym c.in-Ok.ensures.value ∙ ap (λ said. Some said) c.in-Some.is in
    let inside = rw c.in-Some.is at c.in-Ok.ensures.inside in
    let done = c.in-Ok-set_range.ensures.sets.done in
    rw says (record {
      overwritten = done;
      most = at_most (length c.set_range.new.self)
          (λ many. let e = c.in-Ok-set_range.ensures.sets.too_many.1 (inside, (c.set_range.new.self, done, many)) in cc);
    })
