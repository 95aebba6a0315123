use Rattle.std.proofs.Common.{ℕ, List, [], ◌∷◌, ◌++◌, subst, sym, arith}
use Rattle.device_tree.specs.Pieces.{ends}
use Rattle.host_tree.specs.Written.{SpellsFront}
use Rattle.host_tree.proofs.Fronts.{and_part}
use Rattle.host_tree.proofs.Sizes.{parts_more}
use Rattle.host_tree.proofs.writer.TreeWriter.end_node.Goals as goal

pub returns-clause-put : goal.returns-clause-put
returns-clause-put c = λ parts h. record {
  spelt = λ more.
      let names = c.args.self.now.names.items ++ more in
      let added = c.in_ok-put_end.ensures.put in
      subst (λ (x : List ℕ). SpellsFront names x (parts ++ ends ∷ [])) (sym added.1)
      (and_part names c.args.self.now.block.items added.0 parts ends (h.spelt more) (λ rest. added.2 names rest));
  size = omega (arith, c.in_ok-put_end.ensures.size, h.size, parts_more parts ends);
}
