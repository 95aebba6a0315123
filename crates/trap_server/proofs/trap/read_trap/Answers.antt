use Rattle.std.proofs.Common.{◌≡◌, arith, inl, length}
use Rattle.trap_server.proofs.Read.{whole}
use Rattle.trap_server.proofs.trap.read_trap.Goals as goal

pub returns-clause-trap : goal.returns-clause-trap
returns-clause-trap g c =
    let size : length c.read_whole.new.buffer ≡ 96 = omega (arith, c.in-Ok.ensures.bytes.0, c.told-frame) in (
      c.read_whole.new.buffer,
      size,
      c.trap_in.ensures.trap c.if-not-trap_in.false,
      whole c.in-Ok.n c.read_whole.new.buffer _ _ (omega (arith, size, c.if-n-lt-TRAP_BYTES.false)) c.in-Ok.ensures.bytes.1,
    )

pub returns-then-not-trap_in-clause-trap : goal.returns-then-not-trap_in-clause-trap
returns-then-not-trap_in-clause-trap g c =
    let size : length c.read_whole.new.buffer ≡ 96 = omega (arith, c.in-Ok.ensures.bytes.0, c.told-frame) in (
      c.read_whole.new.buffer,
      inl (size, c.trap_in.ensures.none c.if-not-trap_in.true),
      whole c.in-Ok.n c.read_whole.new.buffer _ _ (omega (arith, size, c.if-n-lt-TRAP_BYTES.false)) c.in-Ok.ensures.bytes.1,
    )
