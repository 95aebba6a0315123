-- An access at a multiple of its size, by its test.
use Rattle.std.proofs.Common.{◌≡◌, ◌∙◌, ◌%◌, ◌==◌, Bool, true, false, sym}
use Rattle.std.proofs.lemmas.Bool.{eqb-true, eqb-false}
use Rattle.pmp_match.specs.declared.access.Access.{Access}
use Rattle.pmp_match.specs.Accesses.{IsAligned}

pub aligned : (a : Access) (test : Bool) → test ≡ (a.address % a.size == 0) → test ≡ true → IsAligned a
aligned a test is so = eqb-true _ _ (sym is ∙ so)

pub not_aligned : (a : Access) (test : Bool) → test ≡ (a.address % a.size == 0) → test ≡ false → ¬ IsAligned a
not_aligned a test is so = eqb-false _ _ (sym is ∙ so)
