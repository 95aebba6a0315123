-- The pieces come one after the other.
use Rattle.std.proofs.Common.{◌∙◌, ◌++◌, ap, ap₂, codes, decimal}
use Rattle.map_text.specs.Texts.{register_text}
use Rattle.pmp_encoding.specs.Widths.{word_number}
use Rattle.map_table.proofs.c_writes.shared_read.Goals as goal

pub returns : goal.returns
returns c =
    let xlen = c.args.xlen in
    let begin = c.push_text.ensures.items ∙ ap₂ (λ l t. l ++ t) c.new-line.ensures c.shared_read_begin.ensures.text in
    let number = c.push_decimal.ensures.items ∙ ap₂ (λ l n. l ++ decimal n) begin (c.word_number.ensures ∙ ap (word_number xlen) c.word_of.ensures.value) in
    let mask = c.push_text-2.ensures.items ∙ ap (λ l. l ++ codes "\" : \"=r\"(kept));\n    kept &= 0x") number in
    let bits = c.push_register.ensures.items ∙ ap₂ (λ l v. l ++ register_text xlen v) mask c.kept_bits.ensures in
    c.push_text-3.ensures.items ∙ ap (λ l. l ++ codes ";\n") bits
