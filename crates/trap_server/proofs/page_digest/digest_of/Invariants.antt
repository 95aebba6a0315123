use Rattle.std.proofs.Common.{◌≡◌, ℕ, List}
use Rattle.std.specs.Io.KnownBytes.{Appends, Consumes}
use Rattle.measurement.specs.Progress.{HasMeasured}
use Rattle.measurement.specs.Digests.{layout_of}
use Rattle.trap_server.specs.PageDigest.{ArePages, question_bytes}
use Rattle.trap_server.proofs.page_digest.digest_of.Given as goal

abbrev pub invariant-loop-i : goal.invariant-loop-i
invariant-loop-i g l = record {
  pages : (read : List ℕ) × (pages : List (List ℕ)) × ArePages l.first l.i read pages
      × Consumes (g.R.Source.remaining l.fn.source) (g.R.Source.remaining l.source) read × HasMeasured l.measure (layout_of l.fn.parts) pages;
  written : Appends (g.W.Sink.contents l.fn.sink) (g.W.Sink.contents l.sink) (question_bytes l.first l.count);
  well : (g.W.Sink.failures l.sink ≡ g.W.Sink.failures l.fn.sink) × (g.W.Sink.stalls l.sink ≡ g.W.Sink.stalls l.fn.sink);
  failures : g.R.Source.failures l.source ≡ g.R.Source.failures l.fn.source;
}
