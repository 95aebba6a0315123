use Rattle.std.proofs.Common.{◌≡◌, ℕ, List, [], ◌∷◌, ◌++◌, ◌∙◌, append_assoc, subst, sym, ap, arith}
use Rattle.device_tree.specs.Pieces.{has}
use Rattle.host_tree.specs.Written.{SpellsFront, setting}
use Rattle.std.proofs.lemmas.Result.{err_from_is_err_and}
use Rattle.host_tree.proofs.WriteFaults.{property_no_memory, property_refused}
use Rattle.host_tree.proofs.Fronts.{and_part}
use Rattle.host_tree.proofs.Sizes.{parts_more}
use Rattle.host_tree.proofs.Texts.{name_stays}
use Rattle.host_tree.proofs.writer.TreeWriter.property.Goals as goal

pub returns-clause-put : goal.returns-clause-put
returns-clause-put c = λ parts h. record {
  spelt = λ more.
      let name = c.args.name.now in
      let value = c.args.value.now in
      let place = c.in_ok-place.ensures.put in
      let added = c.in_ok-put_property.ensures.put in
      let names = c.place_of.new.names.items ++ more in
      let same : names ≡ c.args.self.now.names.items ++ (place.1 ++ more) =
      ap (λ (x : List ℕ). x ++ more) place.2 ∙ append_assoc c.args.self.now.names.items place.1 more in
      let was : SpellsFront names c.args.self.now.block.items parts =
      subst (λ (x : List ℕ). SpellsFront x c.args.self.now.block.items parts) (sym same) (h.spelt (place.1 ++ more)) in
      subst (λ (x : List ℕ). SpellsFront names x (parts ++ has (setting name value) ∷ [])) (sym added.1)
      (and_part names c.args.self.now.block.items added.0 parts (has (setting name value)) was
      (λ rest. added.2 names rest name (name_stays c.place_of.new.names.items more name c.in_ok-place.place place.0)));
  size =
      let more = parts_more parts (has (setting c.args.name.now c.args.value.now)) in
      omega (arith, c.in_ok-put_property.ensures.size, c.in_ok-place.ensures.size, h.size, more);
}

pub returns-in_err-place-clause-refused : goal.returns-in_err-place-clause-refused
returns-in_err-place-clause-refused c =
    let p = err_from_is_err_and c.from_residual.result c.from_residual.ensures.1 in
    rw (p.1, p.2) (property_no_memory c.args.self.now c.args.name.now c.args.value.now _ c.in_err-place.ensures.refused)

pub returns-in_err-put_property-clause-refused : goal.returns-in_err-put_property-clause-refused
returns-in_err-put_property-clause-refused c =
    let p = err_from_is_err_and c.from_residual-in_err-put_property.result c.from_residual-in_err-put_property.ensures.1 in
    rw (p.1, p.2) (property_refused c.args.self.now c.args.name.now c.args.value.now c.in_ok-place.place _
    c.in_ok-place.ensures.inside c.in_err-put_property.ensures.refused)
