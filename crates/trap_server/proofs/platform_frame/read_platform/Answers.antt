use Rattle.std.proofs.Common.{arith}
use Rattle.trap_server.proofs.Read.{reads_platform, whole}
use Rattle.trap_server.proofs.platform_frame.read_platform.Goals as goal

pub returns-clause-platform : goal.returns-clause-platform
returns-clause-platform g c =
    let size = c.in-Ok.ensures.bytes.0 in
    reads_platform c.platform_in.result c.read_whole.new.buffer _ _ size c.platform_in.ensures.some c.platform_in.ensures.none
    (whole c.in-Ok.n c.read_whole.new.buffer _ _ (omega (arith, size, c.if-n-lt-PLATFORM_BYTES.false)) c.in-Ok.ensures.bytes.1)
