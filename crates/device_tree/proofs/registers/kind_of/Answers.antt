use Rattle.std.proofs.Common.{◌∙◌, sym, ap, ap₂, ℕ, List}
use Rattle.device_tree.specs.Pieces.{parts_of}
use Rattle.device_tree.specs.Properties.{value_in}
use Rattle.device_tree.specs.Meaning.{is_there, is_value}
use Rattle.device_tree.proofs.Live.{live, same_machine}
use Rattle.device_tree.proofs.registers.kind_of.Goals as goal

pub returns : goal.returns
returns c =
    let P = parts_of c.args.properties.now in
    let device_type = c.value_of-device_type.ensures ∙ ap (λ (n : List ℕ). value_in n P) c.as_slice.ensures in
    c.kind_by.ensures ∙ live c.args.place P _ _ _ _ (sym c.is_okay.ensures ∙ c.if-not-is_okay.false)
    (c.is_value-is_hart.ensures ∙ ap₂ is_value c.as_slice-2.ensures device_type)
    (c.is_value-is_memory.ensures ∙ ap₂ is_value c.as_slice-3.ensures device_type)
    (c.is_there-is_unmapped.ensures ∙ ap is_there (c.value_of.ensures ∙ ap (λ (n : List ℕ). value_in n P) c.as_slice-4.ensures))
    (same_machine _ _ _ _ _ _ _ c.is_machine-is_machine.ensures
    (c.value_of-3.ensures ∙ ap (λ (n : List ℕ). value_in n P) c.as_slice-6.ensures)
    (c.value_of-4.ensures ∙ ap (λ (n : List ℕ). value_in n P) c.as_slice-7.ensures)
    (c.is_there-delegates.ensures ∙ ap is_there (c.value_of-2.ensures ∙ ap (λ (n : List ℕ). value_in n P) c.as_slice-5.ensures)))
