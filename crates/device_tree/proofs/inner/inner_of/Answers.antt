use Rattle.std.proofs.Common.{◌∙◌, ap, subst, ℕ, List, Option}
use Rattle.device_tree.specs.Pieces.{parts_of}
use Rattle.device_tree.specs.Properties.{value_in}
use Rattle.device_tree.specs.BoardRefusals.{IsWayFault, of_cells, of_way}
use Rattle.device_tree.proofs.inner.inner_of.Goals as goal

pub returns-in_default-clause-refused : goal.returns-in_default-clause-refused
returns-in_default-clause-refused c = of_cells c.in_default.ensures

pub returns-in-Err-clause-refused : goal.returns-in-Err-clause-refused
returns-in-Err-clause-refused c =
    let P = parts_of c.args.properties.now in
    let cells = c.in-Some.cells in
    let ranges = c.value_of-ranges.ensures ∙ ap (λ (n : List ℕ). value_in n P) c.as_slice.ensures in
    of_way cells c.in-Err.fault c.in-Some.ensures
    (subst (λ (x : Option (List ℕ)). IsWayFault x cells c.args.bus.0.now.address c.in-Err.fault) ranges c.in-Err.ensures.refused)
