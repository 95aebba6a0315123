-- A page more is that page after the bytes so far.
use Rattle.std.proofs.Common.{◌≡◌, ◌∷◌, ◌++◌, [], ◌∙◌, List, ℕ, ap, sym, append_assoc, append-nil}
use Rattle.std.specs.List.{concat}
use Rattle.std.proofs.lemmas.List.Folds.{concat-append}
use Rattle.measurement.specs.Measured.{layout_bytes}
use Rattle.measurement.proofs.measure.Measure.page.Goals as goal

longer : (start : List ℕ) (pages : List (List ℕ)) (page : List ℕ) → start ++ concat (pages ++ page ∷ []) ≡ start ++ concat pages ++ page
longer start pages page =
    ap (λ xs. start ++ xs) (concat-append pages (page ∷ []) ∙ ap (λ xs. concat pages ++ xs) (append-nil page)) ∙ sym (append_assoc start (concat pages) page)

pub returns : goal.returns
returns c = λ layout pages held. rw (longer (layout_bytes layout) pages c.args.page.now) (c.update.ensures _ held)
