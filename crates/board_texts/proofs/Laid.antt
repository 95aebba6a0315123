-- A layer is laid on a view range by range.
use Rattle.std.proofs.Common.{◌≡◌, ℕ, Bool, true, false, cond, ◌&&◌, ◌||◌, not, ap, refl, List, [], ◌∷◌, ◌∙◌}
use Rattle.pmp_encoding.specs.declared.perm.Perm.{Perm}
use Rattle.pmp_encoding.specs.declared.pages.PageRange.{PageRange}
use Rattle.pmp_encoding.specs.Views.{SameView, in_range}
use Rattle.device_tree.specs.Meaning.{Range}
use Rattle.board_texts.specs.declared.view.Layer.{Layer}
use Rattle.board_texts.specs.Views.{covers, is_covered, laid, perm_of}

cases : (c r n : Bool) (p v : Perm) → cond (r && n) p (cond ((c || false) && n) p v) ≡ cond ((c || r) && n) p v
cases true true true p v = refl
cases true true false p v = refl
cases true false true p v = refl
cases true false false p v = refl
cases false true true p v = refl
cases false true false p v = refl
cases false false true p v = refl
cases false false false p v = refl

pub laid_next :
    (layer : Layer) (kept : PageRange) (x : Range) (xs : List Range) (old new whole : ℕ → Perm) → SameView new (laid layer kept (x ∷ []) old)
    → SameView (laid layer kept (x ∷ xs) old) whole → SameView (laid layer kept xs new) whole
laid_next layer kept x xs old new whole set so_far = λ page inside.
    ap (λ (v : Perm). cond (is_covered layer xs page && not (in_range kept.first kept.count page)) (perm_of layer) v) (set page inside)
    ∙ (cases (covers layer page x) (is_covered layer xs page) (not (in_range kept.first kept.count page)) (perm_of layer) (old page)
    ∙ so_far page inside)
