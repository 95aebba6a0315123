use Rattle.std.proofs.Common.{◌≡◌, ◌∙◌, ◌++◌, codes, decimal, ap, rules, sym}
use Rattle.std.specs.Fmt.{signed_decimal}
use Rattle.text_lines.specs.Written.{hex}
use Rattle.hart_trace.specs.Texts.{reply_text}
use Rattle.hart_trace.proofs.ReplyTexts.{loaded, called}
use Rattle.hart_trace.proofs.lines.push_reply.Goals as goal

pub returns-in-Loaded-clause-text : goal.returns-in-Loaded-clause-text
returns-in-Loaded-clause-text c = λ some n.
    let behind = rw c.requires at c.push_word_line.ensures.items in
    ap (λ l. decimal n ++ l) behind ∙ loaded n _ ∙ ap (reply_text n) (sym c.in-Loaded.is)

pub returns-in-Call-clause-text : goal.returns-in-Call-clause-text
returns-in-Call-clause-text c = λ some n.
    let behind : c.push_call.new.line
    ≡ codes " call " ++ signed_decimal c.in-Call.status ++ codes " 0x" ++ hex 16 c.in-Call.value ++ codes " " ++ decimal c.in-Call.world ++ codes " "
    ++ decimal c.in-Call.used ++ codes "\n"
    = search rules in
    ap (λ l. decimal n ++ l) behind ∙ called n c.in-Call.status c.in-Call.value c.in-Call.world c.in-Call.used ∙ ap (reply_text n) (sym c.in-Call.is)
