use Rattle.library_tests.proofs.Known.{known}
use Rattle.library_tests.proofs.firmware.serve_life.Goals as goal

-- the theorem, for the run that was served
pub returns : goal.returns
returns g c = known c.firmware_law.ensures (g.R.Source.remaining c.args.source.now) (g.R.Source.remaining c.serve_traps-served.new.source)
    (g.W.Sink.contents c.args.sink.now) (g.W.Sink.contents c.serve_traps-served.new.sink) c.serve_traps-served.result c.serve_traps-served.ensures.all
