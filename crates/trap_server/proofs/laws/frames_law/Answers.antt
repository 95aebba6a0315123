use Rattle.trap_server.proofs.FramesTold.{frames_tell}
use Rattle.trap_server.proofs.laws.frames_law.Goals as goal

pub returns : goal.returns
returns c = frames_tell
