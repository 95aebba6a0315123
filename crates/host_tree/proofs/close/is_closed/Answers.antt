use Rattle.std.proofs.Common.{◌≡◌, ◌∙◌, ap, subst, ℕ, List, Option, codes}
use Rattle.std.proofs.lemmas.Result.{err_from_is_err_and}
use Rattle.device_tree.specs.Pieces.{Part, parts_of}
use Rattle.device_tree.specs.declared.board_fault.BoardReason.TheVariants.{BadRows}
use Rattle.device_tree.specs.Properties.{value_in}
use Rattle.device_tree.specs.Meaning.{live_kind}
use Rattle.device_tree.specs.BoardRefusals.{IsNodeFault, IsOwnFault, of_registers}
use Rattle.device_tree.specs.declared.cells.Cells.{Cells}
use Rattle.device_tree.specs.declared.kinds.Kind.{Kind}
use Rattle.device_tree.specs.declared.kinds.Place.{Place}
use Rattle.device_tree.specs.declared.rows.RowFault.{RowFault}
use Rattle.host_tree.proofs.close.is_closed.Goals as goal

-- what is wrong with the registers of a node
of_own : (place : Place) (cells : Cells) (P : List Part) (kind : Option Kind) (reg : Option (List ℕ)) (fault : RowFault)
    → kind ≡ live_kind place P → reg ≡ value_in (codes "reg") P → IsOwnFault kind reg cells fault → IsNodeFault place cells P (BadRows fault)
of_own place cells P kind reg fault kind_is reg_is wrong = of_registers fault
    (subst (λ (x : Option Kind). IsOwnFault x (value_in (codes "reg") P) cells fault) kind_is
    (subst (λ (x : Option (List ℕ)). IsOwnFault kind x cells fault) reg_is wrong))

pub returns-in_err-rows-clause-refused : goal.returns-in_err-rows-clause-refused
returns-in_err-rows-clause-refused c =
    let Q = parts_of c.args.properties.now in
    let reg = c.value_of-reg.ensures ∙ ap (λ (n : List ℕ). value_in n Q) c.as_slice.ensures in
    let p = err_from_is_err_and c.from_residual.result c.from_residual.ensures.1 in
    rw (p.1, p.2) (
    let why = c.in_err-rows.ensures.refused in
    (BadRows why.0, why.1, of_own c.args.place c.args.bus.0.now Q _ _ why.0 c.kind_of-kind.ensures reg why.2))
