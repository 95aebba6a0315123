use Rattle.std.proofs.Common.{◌≡◌, ◌∙◌, ◌++◌, ◌≤◌, length, take, ap, ap₂, arith}
use Rattle.std.proofs.Math.Seq.{take-take}
use Rattle.text_lines.proofs.Buffered.{take-read}
use Rattle.text_lines.proofs.held_bytes.HeldBytes.push_front.Goals as goal

pub returns : goal.returns
returns c =
    let all = c.deref_mut.result.now in
    let text = c.copy_from_slice-2.new.self in
    let held : take c.self.inside.len all ≡ c.args.self.now = ap (take c.self.inside.len) c.deref_mut.ensures.value ∙ c.self.view_is in
    let few : c.args.len ≤ length text = omega (arith, c.copy_from_slice-2.ensures.len, c.copy_from_slice-2.auto.self, c.requires.few) in
    let front : take c.args.len text ≡ take c.args.len c.args.text.now = ap (take c.args.len)
    (c.copy_from_slice-2.ensures.after ∙ c.copy_from_slice.ensures.after) ∙ take-take c.args.len _ c.args.text.now c.requires.few in
    take-read all text _ c.self.inside.len c.args.len (omega arith) few ∙ ap₂ ◌++◌ held front
