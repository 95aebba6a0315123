use Rattle.std.proofs.Common.{◌≡◌, ◌∙◌, ◌++◌, codes, decimal, pos, take, to_z, w64, ap, sym}
use Rattle.std.proofs.lemmas.Int.{to_z-of_z}
use Rattle.text_lines.specs.Written.{hex}
use Rattle.hart_trace.proofs.ReplyTexts.{called_zero}
use Rattle.hart_trace.proofs.lines.push_call.Goals as goal

pub returns-then-used-lt10 : goal.returns-then-used-lt10
returns-then-used-lt10 c =
    let first : c.push_lanes.new.self ≡ take 16 c.short_call.result.0 = rw c.requires at c.push_lanes.ensures.items in
    let zero : c.args.status ≡ pos 0 = sym (to_z-of_z w64 c.args.status c.ranges.status) ∙ ap (λ n. to_z w64 n) c.if-status-eq0.true in
    c.push_lanes-then-used-lt10.ensures.items
    ∙ ap (λ l. l ++ take 15 c.short_call.result.1) first
    ∙ c.short_call.ensures
    ∙ ap (λ l. l ++ hex 16 c.args.value ++ codes " " ++ decimal c.args.world ++ codes " " ++ decimal c.args.used ++ codes "\n") (called_zero c.args.status zero)
