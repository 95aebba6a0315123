use Rattle.std.proofs.Common.{◌∙◌, ap, ℕ, List}
use Rattle.device_tree.specs.MachineDevices.{has_text}
use Rattle.device_tree.proofs.Either.{first_is, second_is}
use Rattle.device_tree.proofs.machine_devices.is_andes.Goals as goal

pub returns-then-has_text : goal.returns-then-has_text
returns-then-has_text c = first_is _ _ _ (c.has_text.ensures ∙ ap (λ (n : List ℕ). has_text n c.args.bytes.now) c.as_slice.ensures) c.if-has_text.true

pub returns : goal.returns
returns c = second_is _ _ _ _ (c.has_text.ensures ∙ ap (λ (n : List ℕ). has_text n c.args.bytes.now) c.as_slice.ensures) c.if-has_text.false
    (c.has_text-2.ensures ∙ ap (λ (n : List ℕ). has_text n c.args.bytes.now) c.as_slice-2.ensures)
