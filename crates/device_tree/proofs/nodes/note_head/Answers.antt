use Rattle.std.proofs.Common.{◌∙◌, ap, ℕ, List}
use Rattle.std.proofs.lemmas.Result.{IfErr-weaker}
use Rattle.device_tree.specs.Pieces.{parts_of}
use Rattle.device_tree.specs.declared.board_fault.BoardReason.TheVariants.{BadRows}
use Rattle.device_tree.specs.Properties.{value_in}
use Rattle.device_tree.specs.BoardRefusals.{IsNodeFault}
use Rattle.device_tree.proofs.NoRanges.{of_own}
use Rattle.device_tree.proofs.nodes.note_head.Goals as goal

pub returns-clause-refused : goal.returns-clause-refused
returns-clause-refused c =
    let P = parts_of c.args.head.now.properties.now in
    let reg = c.value_of-reg.ensures ∙ ap (λ (n : List ℕ). value_in n P) c.as_slice.ensures in
    IfErr-weaker c.note_own.result _ (λ fault. IsNodeFault c.args.place c.args.bus.0.now P (BadRows fault))
    (λ fault w. of_own c.args.place c.args.bus.0.now P _ _ fault c.kind_of.ensures reg w) c.note_own.ensures.refused
