use Rattle.std.proofs.Common.{◌∙◌, ap, sym, true≢false}
use Rattle.text_lines.specs.Numbers.{number_of}
use Rattle.command_line.proofs.Monitors.{not_pages}
use Rattle.command_line.specs.Given.{flags_of, values_of}
use Rattle.command_line.proofs.monitor.monitor_in.Goals as goal

pub returns-then-not-are_whole_pages-clause-fault :
    goal.returns-then-not-are_whole_pages-clause-fault
returns-then-not-are_whole_pages-clause-fault c =
    let of_base = sym (ap number_of c.as_bytes.ensures.value) ∙ sym c.in-Some-number.ensures in
    let of_size = sym (ap number_of c.as_bytes-2.ensures.value) ∙ sym c.in-Some-number-2.ensures in
    not_pages (values_of c.args.given.now) (flags_of c.args.given.now) _ _ _ _ (sym c.in-Some.ensures) (sym c.in-Some-word_in.ensures) of_base
    of_size
    (λ pages. true≢false (sym (c.are_whole_pages.ensures.1 pages) ∙ c.if-not-are_whole_pages.true))
