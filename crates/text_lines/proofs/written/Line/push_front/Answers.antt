use Rattle.std.proofs.Common.{◌∙◌, ◌++◌, ◌≤◌, length, take, ap, ap₂, arith}
use Rattle.text_lines.proofs.Buffered.{take-read}
use Rattle.text_lines.proofs.written.Line.push_front.Goals as goal

pub returns-clause-items : goal.returns-clause-items
returns-clause-items c =
    let text = c.copy_from_slice.new.self in
    let few : c.args.len ≤ length text = omega (arith, c.copy_from_slice.ensures.len, c.copy_from_slice.auto.self, c.requires.few) in
    take-read c.self.inside.bytes text _ c.self.inside.len c.args.len (omega arith) few
    ∙ ap₂ ◌++◌ c.self.view_is (ap (take c.args.len) c.copy_from_slice.ensures.after)
