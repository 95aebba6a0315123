use Rattle.std.proofs.Common.{◌≡◌, ◌-◌, ◌++◌, codes}
use Rattle.map_table.specs.Names.{address_text}
use Rattle.map_table.proofs.Pieces.{two}
use Rattle.map_table.proofs.names.push_range.Goals as goal

pub returns-clause-items : goal.returns-clause-items
returns-clause-items c =
    let line = c.args.line.now in
    let begin = address_text c.args.begin in
    let last = address_text (c.args.end - 1) in
    let to : c.push_text.new.line ≡ line ++ (begin ++ codes " to ") = two _ _ _ _ _ c.push_address.ensures.items c.push_text.ensures.items in
    let range : c.push_address-2.new.line ≡ line ++ (begin ++ codes " to " ++ last) =
    two _ _ _ _ _ to (rw c.saturating_sub.ensures at c.push_address-2.ensures.items) in
    let comma : c.push_text-2.new.line ≡ line ++ (begin ++ codes " to " ++ last ++ codes ", ") = two _ _ _ _ _ range c.push_text-2.ensures.items in
    two _ _ _ _ _ comma (rw c.word.ensures.value at (rw c.as_bytes.ensures.value at c.push_text-3.ensures.items))
