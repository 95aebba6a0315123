-- Stretches one after another.
use Rattle.std.proofs.Common.{◌≡◌, ◌∙◌, ℕ, List, [], ◌∷◌, ◌++◌, sym, refl}
use Rattle.pmp_encoding.specs.declared.extent.Extent.{Extent}
use Rattle.pmp_encoding.specs.Views.{View}
use Rattle.map_table.specs.declared.stretch.Stretch.{Stretch}
use Rattle.map_table.specs.Stretches.{AreStretches, IsStretch}

pub one_more :
    (view : View) (extents : List Extent) (from to : ℕ) (ss : List Stretch) (s : Stretch) → AreStretches view extents from ss to → s.first ≡ to
    → IsStretch view extents s
    → AreStretches view extents from (ss ++ s ∷ []) s.end
one_more view extents from to [] s are begins is = (begins ∙ sym are, is, refl)
one_more view extents from to (x ∷ ss) s are begins is = (are.0, are.1, one_more view extents x.end to ss s are.2 begins is)
