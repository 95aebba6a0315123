use Rattle.std.proofs.Common.{◌∙◌, ap, Bool}
use Rattle.std.specs.Prelude.{Ok}
use Rattle.device_tree.specs.Meaning.{said_of}
use Rattle.board_texts.proofs.Files.{file_is, rule_is}
use Rattle.board_texts.proofs.platform.platform_of_map.Goals as goal

pub returns-in-Err-clause-refused : goal.returns-in-Err-clause-refused
returns-in-Err-clause-refused c = rule_is _ (said_of c.args.board.1.now) c.args.board.0.now _ _ _ _ (c.as_slice.ensures.value ∙ c.in-Ok.ensures)
    (c.as_slice-2.ensures.value ∙ c.in-Ok-devices_of.ensures) c.harts_used-harts.ensures c.in-Err.ensures.refused

pub returns-in-Ok-true-clause-file : goal.returns-in-Ok-true-clause-file
returns-in-Ok-true-clause-file c = file_is _ _ (said_of c.args.board.1.now) c.args.board.0.now _ _ _ _ _ _
    (c.as_slice.ensures.value ∙ c.in-Ok.ensures) (c.as_slice-4.ensures.value ∙ c.in-Ok.ensures)
    (c.as_slice-2.ensures.value ∙ c.in-Ok-devices_of.ensures) (c.as_slice-5.ensures.value ∙ c.in-Ok-devices_of.ensures) c.harts_used-harts.ensures
    (c.from.ensures ∙ c.harts_used-harts.ensures)
    (rw c.as_slice-3.ensures.value at c.in-Ok-true.ensures (ap (λ (b : Bool). Ok b) c.in-Ok-true.field-0-test)) c.in-Ok-builds.ensures.ok
