use Rattle.std.proofs.Common.{◌++◌, ◌∙◌, ℕ, List, append_assoc, ap}
use Rattle.host_tree.proofs.Fronts.{two_joined}
use Rattle.host_tree.proofs.header.put_header.Goals as goal

pub returns-clause-put : goal.returns-clause-put
returns-clause-put c = two_joined c.args.out.now.items _ _ _ _ c.in_ok-put_first.ensures.put c.in_ok-put_others.ensures.put
    ∙ ap (λ (x : List ℕ). c.args.out.now.items ++ x) (simp append_assoc)
