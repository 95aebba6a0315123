-- What the prover finds by itself, written down for the edits that break it.
use Rattle.std.proofs.Common.{rules}
use Rattle.permission_map.proofs.map.PermissionMap.next_run.Goals as goal

pub returns : goal.returns
returns c = search rules
