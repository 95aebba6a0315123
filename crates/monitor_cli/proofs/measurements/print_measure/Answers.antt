use Rattle.std.proofs.Common.{[], ◌∙◌, refl}
use Rattle.std.proofs.lemmas.Result.{err_from_is_err_and}
use Rattle.text_lines.proofs.Writings.{takes_none}
use Rattle.map_text.specs.Texts.{measure_text}
use Rattle.monitor_cli.specs.Measurements.{absent, live}
use Rattle.monitor_cli.proofs.measurements.print_measure.Goals as goal

pub returns-in_default : goal.returns-in_default
returns-in_default g c = ([], absent (c.in_default.ensures.none refl), takes_none g.W.Sink.contents g.W.Sink.failures g.W.Sink.stalls _)

pub returns : goal.returns
returns g c = (
  measure_text c.args.id c.in-Some.digest,
  live c.in-Some.digest c.in-Some.ensures.some,
  rw (c.as_slice.ensures.value ∙ c.measure_line-line.ensures) at c.in_ok-write_whole.ensures,
)

pub returns-in_err-write_whole : goal.returns-in_err-write_whole
returns-in_err-write_whole g c =
    rw (err_from_is_err_and c.from_residual.result c.from_residual.ensures.1).1 (
      measure_text c.args.id c.in-Some.digest,
      live c.in-Some.digest c.in-Some.ensures.some,
      rw (c.as_slice.ensures.value ∙ c.measure_line-line.ensures) at c.in_err-write_whole.ensures,
    )
