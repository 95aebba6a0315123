use Rattle.std.proofs.Common.{◌∙◌, ap, refl, Some}
use Rattle.context_switch.proofs.Fresh.{saved_everywhere, saved_only}
use Rattle.context_switch.proofs.contexts.Contexts.new.Goals as goal

pub returns-clause-saved : goal.returns-clause-saved
returns-clause-saved c = λ hart world below known. saved_everywhere _ c.new-zeros.result refl refl hart world below known ∙ ap Some c.new-zeros.ensures

pub returns-clause-zero : goal.returns-clause-zero
returns-clause-zero c = λ who file is. saved_only _ c.new-zeros.result refl refl who file is ∙ c.new-zeros.ensures
