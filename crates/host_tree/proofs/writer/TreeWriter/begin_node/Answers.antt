use Rattle.std.proofs.Common.{ℕ, List, [], ◌∷◌, ◌++◌, subst, sym, arith}
use Rattle.device_tree.specs.Pieces.{begins}
use Rattle.host_tree.specs.Written.{SpellsFront}
use Rattle.std.proofs.lemmas.Result.{err_from_is_err_and}
use Rattle.host_tree.proofs.WriteFaults.{begin_no_memory}
use Rattle.host_tree.proofs.Fronts.{and_part}
use Rattle.host_tree.proofs.Sizes.{parts_more}
use Rattle.host_tree.proofs.writer.TreeWriter.begin_node.Goals as goal

pub returns-clause-put : goal.returns-clause-put
returns-clause-put c = λ parts h. record {
  spelt = λ more.
      let names = c.args.self.now.names.items ++ more in
      let added = c.in_ok-put_begin.ensures.put in
      subst (λ (x : List ℕ). SpellsFront names x (parts ++ begins c.args.name.now ∷ [])) (sym added.1)
      (and_part names c.args.self.now.block.items added.0 parts (begins c.args.name.now) (h.spelt more) (λ rest. added.2 names rest));
  size = omega (arith, c.in_ok-put_begin.ensures.size, h.size, parts_more parts (begins c.args.name.now));
}

pub returns-in_err-put_begin-clause-refused : goal.returns-in_err-put_begin-clause-refused
returns-in_err-put_begin-clause-refused c =
    let p = err_from_is_err_and c.from_residual.result c.from_residual.ensures.1 in
    rw (p.1, p.2) (begin_no_memory c.args.name.now _ c.in_err-put_begin.ensures.refused)
