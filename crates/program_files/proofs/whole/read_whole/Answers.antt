use Rattle.std.proofs.Common.{◌≡◌, ◌++◌, take, length, length-append, length-take, arith}
use Rattle.std.proofs.KnownBytes.{Consumes-trans}
use Rattle.program_files.proofs.whole.read_whole.Goals as goal

-- the bytes that came before, and the piece for which there was no room
pub returns-in_default-append-clause-memory : goal.returns-in_default-append-clause-memory
returns-in_default-append-clause-memory g c = λ e.
    let old = c.loop-piece.bytes.items in
    let new = take c.in-Ok.n c.read.new.buf in
    let counted : length new ≡ c.in-Ok.n = omega (arith, length-take c.in-Ok.n c.read.new.buf, c.in-Ok.ensures.bound) in
    let all = length-append old new in
    (old ++ new, Consumes-trans _ _ _ _ _ c.loop-piece.invariant.read c.in-Ok.ensures.bytes.0, omega (arith, all, counted, c.if-n-eq0.false))
