use Rattle.std.proofs.Common.{◌≡◌, ◌∙◌, ◌++◌, ◌≤◌, length, take, ap, ap₂, arith}
use Rattle.text_lines.proofs.Buffered.{take-read}
use Rattle.text_lines.proofs.held_bytes.HeldBytes.push_digits.Goals as goal

pub returns : goal.returns
returns c =
    let all = c.deref_mut.result.now in
    let text = c.copy_from_slice.new.self in
    let held : take c.self.inside.len all ≡ c.args.self.now = ap (take c.self.inside.len) c.deref_mut.ensures.value ∙ c.self.view_is in
    let few : c.args.count ≤ length text = omega (arith, c.copy_from_slice.ensures.len, c.copy_from_slice.auto.self, c.requires.few) in
    take-read all text _ c.self.inside.len c.args.count (omega arith) few ∙ ap₂ ◌++◌ held (ap (take c.args.count) c.copy_from_slice.ensures.after)
