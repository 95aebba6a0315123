use Rattle.std.proofs.Common.{◌≡◌, ◌∙◌, ◌++◌, ap, append_assoc, codes}
use Rattle.text_lines.specs.Written.{hex}
use Rattle.map_table.proofs.names.push_address.Goals as goal

pub returns-clause-items : goal.returns-clause-items
returns-clause-items c =
    let front : c.push_text.new.line ≡ c.args.line.now ++ codes "0x" = c.push_text.ensures.items in
    let back : c.push_hex.new.line ≡ c.push_text.new.line ++ hex 16 c.args.address = c.push_hex.ensures.items in
    back ∙ ap (λ l. l ++ hex 16 c.args.address) front ∙ append_assoc c.args.line.now (codes "0x") (hex 16 c.args.address)
