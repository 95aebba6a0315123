-- Each of the three choices is the one that is passed on.
use Rattle.std.proofs.Common.{sym, ◌∙◌}
use Rattle.entry_planner.proofs.Choices.{first_handed, kept_handed, none_handed}
use Rattle.entry_planner.proofs.placement.halves_perm.Goals as goal

pub returns-then-contains : goal.returns-then-contains
returns-then-contains c = λ low high are. kept_handed low high c.args.cost c.args.inherited are (sym c.contains.ensures ∙ c.if-contains.true)

pub returns-in-Some : goal.returns-in-Some
returns-in-Some c =
    λ low high are. first_handed low high c.args.cost c.args.inherited c.in-Some.perm are
    (sym c.contains.ensures ∙ c.if-contains.false) c.in-Some.ensures.some c.in-Some.ensures.first

pub returns-in-None : goal.returns-in-None
returns-in-None c = λ low high are. none_handed low high c.args.cost c.args.inherited are c.in-None.ensures.none
