-- What the prover finds by itself, written down for the edits that break it.
use Rattle.std.proofs.Common.{rules}
use Rattle.permission_map.proofs.map.PermissionMap.get.Goals as goal

pub returns-in_default : goal.returns-in_default
returns-in_default c = search rules
