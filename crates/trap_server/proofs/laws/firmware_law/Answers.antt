use Rattle.trap_server.proofs.Firmware.{firmware_kept}
use Rattle.trap_server.proofs.laws.firmware_law.Goals as goal

pub returns : goal.returns
returns c = firmware_kept
