use Rattle.std.proofs.Common.{◌≡◌, List, ℕ, Ok, Option}
use Rattle.trap_server.specs.Sets.{bare}
use Rattle.trap_server.specs.Answered.{AreAwake}
use Rattle.trap_server.specs.Boot.{Boots}
use Rattle.trap_server.proofs.Looped.{Progress}
use Rattle.trap_server.proofs.trap_loop.serve_booted.Given as goal

abbrev pub invariant-loop-count : goal.invariant-loop-count
invariant-loop-count g l = record {
  progress : (before held : Option (List ℕ))
      → Boots (Ok l.fn.core) before (g.R.Source.remaining l.fn.source) held (g.W.Sink.contents l.fn.sink)
      → Progress l._count (bare l.core) before (g.R.Source.remaining l.source) held (g.W.Sink.contents l.sink);
  harts : l.harts ≡ (bare l.core).table.layout.harts;
  quiet : AreAwake (bare l.core);
  reads : g.R.Source.failures l.source ≡ g.R.Source.failures l.fn.source;
  writes : (g.W.Sink.failures l.sink ≡ g.W.Sink.failures l.fn.sink) × (g.W.Sink.stalls l.sink ≡ g.W.Sink.stalls l.fn.sink);
}
