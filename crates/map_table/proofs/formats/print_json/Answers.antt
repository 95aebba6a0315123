use Rattle.std.proofs.Common.{map, None, refl, subst, arith}
use Rattle.std.proofs.lemmas.List.{length-map}
use Rattle.std.proofs.lemmas.Result.{err_from_is_err_and}
use Rattle.text_lines.specs.Writings.{Breaks, TakesAll, writing}
use Rattle.map_table.specs.JsonTexts.{json_text}
use Rattle.map_table.proofs.formats.print_json.Goals as goal

pub returns-in_err-print_object : goal.returns-in_err-print_object
returns-in_err-print_object g c =
    let entries = map g.E.ListedEntry.listed c.args.entries.now in
    let len = length-map c.args.entries.now g.E.ListedEntry.listed in
    rw (err_from_is_err_and c.from_residual.result c.from_residual.ensures.1).1 (
      json_text c.args.name.now c.args.xlen c.args.limit c.args.first None entries c.printed_word_count-count.result,
      record {
        words = c.printed_word_count-count.result;
        fits = λ h. c.printed_word_count-count.ensures.fits (omega (arith, h, len));
        too_many = λ h. c.printed_word_count-count.ensures.too_many (omega (arith, h, len));
        lines = refl;
      },
      subst (λ name. Breaks (json_text name c.args.xlen c.args.limit c.args.first None entries c.printed_word_count-count.result)
          (writing g.W.Sink.contents g.W.Sink.failures g.W.Sink.stalls c.args.out.now c.print_object.new.out)) c.as_bytes.ensures.value
          c.in_err-print_object.ensures,
    )

pub returns : goal.returns
returns g c =
    let entries = map g.E.ListedEntry.listed c.args.entries.now in
    let len = length-map c.args.entries.now g.E.ListedEntry.listed in (
      json_text c.args.name.now c.args.xlen c.args.limit c.args.first None entries c.printed_word_count-count.result,
      record {
        words = c.printed_word_count-count.result;
        fits = λ h. c.printed_word_count-count.ensures.fits (omega (arith, h, len));
        too_many = λ h. c.printed_word_count-count.ensures.too_many (omega (arith, h, len));
        lines = refl;
      },
      subst
          (λ name. TakesAll (json_text name c.args.xlen c.args.limit c.args.first None entries c.printed_word_count-count.result)
          (writing g.W.Sink.contents g.W.Sink.failures g.W.Sink.stalls c.args.out.now c.print_object.new.out)) c.as_bytes.ensures.value
          c.in_ok-print_object.ensures,
    )
