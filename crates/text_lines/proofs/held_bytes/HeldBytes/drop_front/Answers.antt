use Rattle.std.proofs.Common.{◌≡◌, ◌-◌, ◌≤◌, ◌∙◌, length, take, drop, ap, arith, length-take}
use Rattle.text_lines.proofs.Buffered.{take-moved}
use Rattle.text_lines.proofs.held_bytes.HeldBytes.drop_front.Goals as goal

pub returns : goal.returns
returns c =
    let all = c.deref_mut.result.now in
    let len = c.self.inside.len in
    let held : take len all ≡ c.args.self.now = ap (take len) c.deref_mut.ensures.value ∙ c.self.view_is in
    let order : c.args.count ≤ len = omega (arith, c.requires, ap length held, length-take len all) in
    ap (take (len - c.args.count)) c.copy_within.ensures.after ∙ take-moved all c.args.count len order (omega (arith, c.self.invariant))
    ∙ ap (drop c.args.count) held
