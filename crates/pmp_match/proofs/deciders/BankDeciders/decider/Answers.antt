use Rattle.std.proofs.Common.{subst, sym, ◌∙◌, ap}
use Rattle.pmp_match.specs.Deciders.{DecidesIn, found_from}
use Rattle.pmp_match.proofs.FirstFound.{first_found}
use Rattle.pmp_match.proofs.deciders.BankDeciders.decider.Goals as goal

pub returns : goal.returns
returns c = λ entries list.
    subst (λ found. DecidesIn entries c.args.access.now found) (sym (c.first_of.ensures
    ∙ ap (λ extents. found_from 0 extents c.args.access.now) (c.extents.ensures entries list))) (first_found entries c.args.access.now)
