-- The text of replies.
use Rattle.std.specs.Prelude.{ℕ, ◌+◌, List, [], ◌∷◌, ◌++◌, codes, decimal}
use Rattle.std.specs.Fmt.{signed_decimal}
use Rattle.pmp_match.specs.Causes.{cause_number}
use Rattle.text_lines.specs.Written.{hex}
use Rattle.hart_trace.specs.declared.reply.Reply.{Reply}
use Rattle.hart_trace.specs.declared.reply.Reply.TheVariants.{Done, Loaded, Fault, Call, Irq}
use Rattle.hart_trace.specs.declared.reply.Reply.TheVariants.{NoMemory}

-- the line of the n-th event's reply; a reply that is out of memory has none
abbrev pub reply_text : ℕ → Reply → List ℕ
reply_text n Done = decimal n ++ codes " ok\n"
reply_text n (Loaded value) = decimal n ++ codes " ok 0x" ++ hex 16 value ++ codes "\n"
reply_text n (Fault cause) = decimal n ++ codes " fault " ++ decimal (cause_number cause)
    ++ codes "\n"
reply_text n (Call status value world used) = decimal n ++ codes " call " ++ signed_decimal status
    ++ codes " 0x" ++ hex 16 value ++ codes " " ++ decimal world ++ codes " " ++ decimal used
    ++ codes "\n"
reply_text n (Irq world used) = decimal n ++ codes " irq " ++ decimal world ++ codes " "
    ++ decimal used ++ codes "\n"
reply_text n NoMemory = []

-- the lines of replies, numbered from n on
abbrev pub lines_from : ℕ → List Reply → List ℕ
lines_from n [] = []
lines_from n (reply ∷ replies) = reply_text n reply ++ lines_from (n + 1) replies

-- the text of replies, numbered from 1
abbrev pub report_text : List Reply → List ℕ
report_text replies = lines_from 1 replies
