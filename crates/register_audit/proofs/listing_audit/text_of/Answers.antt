use Rattle.std.proofs.Common.{◌∙◌, sym}
use Rattle.permission_map.specs.Runs.{view_of_runs}
use Rattle.register_audit.proofs.Answered.{extents_given}
use Rattle.register_audit.proofs.listing_audit.text_of.Goals as goal

pub differences_of-requires : goal.differences_of-requires
differences_of-requires c =
    extents_given c.args.mode (view_of_runs c.args.map.now) c.args.registers.now c.args.all c.args.verdict.now c.requires
    (sym c.is_each.ensures ∙ c.if-is_each.true)
