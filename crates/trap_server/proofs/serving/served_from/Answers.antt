use Rattle.trap_server.proofs.ServedFrom.{served_by}
use Rattle.trap_server.proofs.serving.served_from.Goals as goal

pub returns : goal.returns
returns g c =
    served_by g.R.Read.remaining g.W.Write.contents c.args.from c.args.to c.new-source.result c.serve_traps.new.source c.new-sink.result c.serve_traps.new.sink
    c.serve_traps.result c.new-source.ensures.inner c.new-source.ensures.failures c.new-sink.ensures.inner
    c.new-sink.ensures.failures c.new-sink.ensures.stalls c.serve_traps.ensures.all c.serve_traps.ensures.at_end c.serve_traps.ensures.early
    c.serve_traps.ensures.reads c.serve_traps.ensures.writes
