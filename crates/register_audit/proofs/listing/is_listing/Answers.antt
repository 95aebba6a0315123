use Rattle.std.proofs.Common.{ap, sym}
use Rattle.std.specs.Option.{is_some}
use Rattle.register_audit.proofs.Followed.{unlisted}
use Rattle.register_audit.proofs.listing.is_listing.Goals as goal

pub returns-in-Ok : goal.returns-in-Ok
returns-in-Ok c = ap is_some (sym c.in-Ok.ensures.listing)

pub returns-in-Err : goal.returns-in-Err
returns-in-Err c = ap is_some (sym (unlisted c.args.xlen c.args.bytes.now _ c.in-Err.ensures.unknown))
