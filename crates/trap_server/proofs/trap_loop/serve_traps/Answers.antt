use Rattle.std.proofs.Common.{inl}
use Rattle.trap_server.proofs.Served.{reads_then, writes_then}
use Rattle.trap_server.proofs.trap_loop.serve_traps.Goals as goal

pub returns-in-Err-clause-early : goal.returns-in-Err-clause-early
returns-in-Err-clause-early g c = inl c.in-Err.ensures.boots

pub serve_booted-requires : goal.serve_booted-requires
serve_booted-requires g c =
    let b = c.in-Ok.ensures.boots in
    (b.0, b.4)

pub returns-clause-all : goal.returns-clause-all
returns-clause-all g c = c.serve_booted.ensures.all _ _ c.in-Ok.ensures.boots

pub returns-clause-early : goal.returns-clause-early
returns-clause-early g c = c.serve_booted.ensures.early _ _ c.in-Ok.ensures.boots

pub returns-clause-reads : goal.returns-clause-reads
returns-clause-reads g c = reads_then c.serve_booted.result _ _ _ c.in-Ok.ensures.reads c.serve_booted.ensures.reads

pub returns-clause-writes : goal.returns-clause-writes
returns-clause-writes g c = writes_then c.serve_booted.result _ _ _ _ _ _ c.in-Ok.ensures.writes c.serve_booted.ensures.writes
