use Rattle.std.proofs.Common.{◌≡◌, ◌∙◌, ◌++◌, ◌+◌, length, length-append, length-take-le, take, ap, sym, arith}
use Rattle.text_lines.proofs.WordDigits.{stored_front}
use Rattle.text_lines.proofs.written.Line.push_lanes.Goals as goal

pub returns-clause-items : goal.returns-clause-items
returns-clause-items c =
    let held : length c.args.self.now ≡ c.self.inside.len = sym (ap length c.self.view_is)
    ∙ length-take-le c.self.inside.len c.self.inside.bytes (omega arith) in
    let long : length c.args.lanes ≡ 16 = omega arith in
    stored_front c.self.inside.bytes c.args.lanes c.self.inside.len c.args.len long c.requires.few (omega (arith, held, c.requires.room))
    ∙ ap (λ l. l ++ take c.args.len c.args.lanes) c.self.view_is

pub returns-clause-len : goal.returns-clause-len
returns-clause-len c =
    let long : length c.args.lanes ≡ 16 = omega arith in
    ap length (returns-clause-items c) ∙ length-append c.args.self.now (take c.args.len c.args.lanes)
    ∙ ap (λ n. length c.args.self.now + n) (length-take-le c.args.len c.args.lanes (omega (arith, long, c.requires.few)))
