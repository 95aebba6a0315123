use Rattle.std.proofs.Common.{◌≡◌, ◌<◌, ◌∙◌, Bool, ◌^◌, ◌-◌, arith, inl, inr, [], None, Ok, ap, sym, subst, refl}
use Rattle.std.proofs.KnownBytes.{Appends-nil, Consumes-nil}
use Rattle.trap_server.specs.Sets.{bare}
use Rattle.trap_server.specs.Answered.{AreAwake}
use Rattle.trap_server.specs.Traps.{ReadsTrap}
use Rattle.trap_server.proofs.Looped.{answer_stops, begins, goes_on, next_refused, ran, read_stops, trap_stops, with_none}
use Rattle.trap_server.proofs.Served.{frame_after, frame_reads, read_after, read_at, trap_writes, write_after}
use Rattle.trap_server.proofs.trap_loop.serve_booted.Goals as goal

pub returns-in-Err-clause-early : goal.returns-in-Err-clause-early
returns-in-Err-clause-early g c = λ begun held booted.
    let w = c.in-Err.ensures.bytes in
    let known = with_none (bare c.args.core.now) None c.others.result c.none-changes.result w.1
    c.none-changes.ensures.first c.none-changes.ensures.second c.none-changes.ensures.third w.2 in
    inl (answer_stops c.in-Err.fault (bare c.args.core.now) booted.0 booted.1 w.1 w.3.0 c.harts-harts.result c.others.result
    begun (g.R.Source.remaining c.args.source.now) held
    (g.W.Sink.contents c.args.sink.now) (g.W.Sink.contents c.write_answer.new.sink) booted.2 booted.3 booted.4 booted.5 booted.6
    c.harts-harts.ensures.value
    c.others.ensures w.0 known w.3.1 w.3.2)

pub loop-count-init : goal.loop-count-init
loop-count-init g c =
    let w = c.in-Ok.ensures.bytes in
    let known = with_none (bare c.args.core.now) None c.others.result c.none-changes.result w.0
    c.none-changes.ensures.first c.none-changes.ensures.second c.none-changes.ensures.third w.1 in
    record {
      progress = λ begun held booted. begins (bare c.args.core.now) booted.0 booted.1 w.0 c.harts-harts.result
          c.others.result
          begun (g.R.Source.remaining c.args.source.now) held
          (g.W.Sink.contents c.args.sink.now) (g.W.Sink.contents c.write_answer.new.sink) booted.2 booted.3 booted.4 booted.5
          booted.6 booted.7
          c.harts-harts.ensures.value c.others.ensures known w.2;
      harts = c.harts-harts.ensures.value;
      quiet = subst AreAwake (sym c.requires.1) (λ hart known. refl);
      reads = refl;
      writes = c.in-Ok.ensures.writes;
    }

pub returns-then-not-is_there-clause-all : goal.returns-then-not-is_there-clause-all
returns-then-not-is_there-clause-all g c = λ begun held booted.
    let before = g.R.Source.remaining c.loop-count.source in
    let after = g.R.Source.remaining c.read_trap.new.source in
    let read = subst (λ r. ReadsTrap (Ok r) c.read_trap.new.trap c.harts-harts.result before after) c.if-not-is_there.true c.in-Ok-read_trap.ensures.trap in
    ran c.loop-count._count (bare c.loop-count.core) begun before after
    held (g.W.Sink.contents c.loop-count.sink) (g.W.Sink.contents c.loop-count.sink) []
    [] (c.loop-count.invariant.progress begun held booted) read.0 (Appends-nil _)

pub returns-in-Err-read_trap-clause-early : goal.returns-in-Err-read_trap-clause-early
returns-in-Err-read_trap-clause-early g c = λ begun held booted.
    read_stops c.end.result c.in-Err-read_trap.fault c.loop-count._count (bare c.loop-count.core) c.read_trap.new.trap
    c.harts-harts.result begun (g.R.Source.remaining c.loop-count.source) (g.R.Source.remaining c.read_trap.new.source)
    held (g.W.Sink.contents c.loop-count.sink) (g.W.Sink.contents c.end.new.sink) (c.loop-count.invariant.progress begun held booted)
    c.loop-count.invariant.harts
    c.in-Err-read_trap.ensures.trap c.end.ensures.last

pub returns-in-Err-serve_trap-clause-early : goal.returns-in-Err-serve_trap-clause-early
returns-in-Err-serve_trap-clause-early g c = λ begun held booted.
    let before = g.R.Source.remaining c.loop-count.source in
    let mid = g.R.Source.remaining c.read_trap.new.source in
    let read = subst (λ r. ReadsTrap (Ok r) c.read_trap.new.trap c.harts-harts.result before mid) c.if-not-is_there.false c.in-Ok-read_trap.ensures.trap in
    trap_stops c.in-Err-serve_trap.fault c.loop-count._count (bare c.loop-count.core)
    (bare c.serve_trap.new.core) c.read_trap.new.trap c.harts-harts.result read.0 begun before mid
    (g.R.Source.remaining c.serve_trap.new.source) held (g.W.Sink.contents c.loop-count.sink)
    (g.W.Sink.contents c.serve_trap.new.sink) (c.loop-count.invariant.progress begun held booted) c.loop-count.invariant.harts read.1 read.2 read.3
    c.in-Err-serve_trap.ensures.served

pub serve_trap-requires-clause-hart : goal.serve_trap-requires-clause-hart
serve_trap-requires-clause-hart g c =
    let before = g.R.Source.remaining c.loop-count.source in
    let mid = g.R.Source.remaining c.read_trap.new.source in
    let read = subst (λ r. ReadsTrap (Ok r) c.read_trap.new.trap c.harts-harts.result before mid) c.if-not-is_there.false c.in-Ok-read_trap.ensures.trap in
    subst (λ n. c.read_trap.new.trap.hart < n) c.loop-count.invariant.harts read.2.known

pub loop-count-preserved : goal.loop-count-preserved
loop-count-preserved g c =
    let before = g.R.Source.remaining c.loop-count.source in
    let mid = g.R.Source.remaining c.read_trap.new.source in
    let read = subst (λ r. ReadsTrap (Ok r) c.read_trap.new.trap c.harts-harts.result before mid) c.if-not-is_there.false c.in-Ok-read_trap.ensures.trap in
    let s = c.in-Ok-serve_trap.ensures.served in
    record {
      progress = λ begun held booted. goes_on c.loop-count._count (bare c.loop-count.core) (bare c.serve_trap.new.core)
          c.read_trap.new.trap read.0 c.harts-harts.result begun before mid
          (g.R.Source.remaining c.serve_trap.new.source)
          held (g.W.Sink.contents c.loop-count.sink)
          (g.W.Sink.contents c.serve_trap.new.sink) (c.loop-count.invariant.progress begun held booted) read.1 read.2 c.loop-count.invariant.harts read.3 s;
      harts = c.loop-count.invariant.harts ∙ ap (λ l. l.harts) (sym s.7);
      quiet = s.6;
      reads = c.in-Ok-serve_trap.ensures.reads ∙ (c.in-Ok-read_trap.ensures.failures ∙ c.loop-count.invariant.reads);
      writes = (c.in-Ok-serve_trap.ensures.writes.0 ∙ c.loop-count.invariant.writes.0, c.in-Ok-serve_trap.ensures.writes.1 ∙ c.loop-count.invariant.writes.1);
    }

pub returns-clause-early : goal.returns-clause-early
returns-clause-early g c = λ begun held booted.
    let before = g.R.Source.remaining c.loop-count.source in
    let n = c.loop-count._count in
    let last : n ≡ 2 ^ 64 - 1 = omega (arith, c.loop-count-test.false, c.loop-count.auto._count-end) in
    next_refused c.refuse.result n (bare c.loop-count.core) begun before before
    held (g.W.Sink.contents c.loop-count.sink) (g.W.Sink.contents c.refuse.new.sink) [] (c.loop-count.invariant.progress begun held booted)
    (Consumes-nil _)
    (inr (last, refl)) c.refuse.ensures.last

pub returns-then-not-is_there-clause-reads : goal.returns-then-not-is_there-clause-reads
returns-then-not-is_there-clause-reads g c = c.in-Ok-read_trap.ensures.failures ∙ c.loop-count.invariant.reads

pub returns-in-Err-read_trap-clause-reads : goal.returns-in-Err-read_trap-clause-reads
returns-in-Err-read_trap-clause-reads g c =
    c.end.ensures.reads _ _ (frame_after c.in-Err-read_trap.fault _ _ _ c.loop-count.invariant.reads
    (frame_reads Bool c.in-Err-read_trap.fault _ _ c.in-Err-read_trap.ensures.failures))

pub returns-in-Err-read_trap-clause-writes : goal.returns-in-Err-read_trap-clause-writes
returns-in-Err-read_trap-clause-writes g c =
    c.end.ensures.writes _ _ (trap_writes c.in-Err-read_trap.fault c.read_trap.new.trap c.harts-harts.result _ _ _ _ _ _ c.in-Err-read_trap.ensures.trap
    c.loop-count.invariant.writes)

pub returns-in-Err-serve_trap-clause-reads : goal.returns-in-Err-serve_trap-clause-reads
returns-in-Err-serve_trap-clause-reads g c = read_after c.in-Err-serve_trap.fault _ _ _
    (c.in-Ok-read_trap.ensures.failures ∙ c.loop-count.invariant.reads) c.in-Err-serve_trap.ensures.reads

pub returns-in-Err-serve_trap-clause-writes : goal.returns-in-Err-serve_trap-clause-writes
returns-in-Err-serve_trap-clause-writes g c = write_after c.in-Err-serve_trap.fault _ _ _ _ _ _ c.loop-count.invariant.writes c.in-Err-serve_trap.ensures.writes

pub returns-clause-reads : goal.returns-clause-reads
returns-clause-reads g c = read_at c.refuse.result _ _ c.loop-count.invariant.reads (c.refuse.ensures.reads _)

pub returns-clause-writes : goal.returns-clause-writes
returns-clause-writes g c = write_after c.refuse.result _ _ _ _ _ _ c.loop-count.invariant.writes c.refuse.ensures.writes
