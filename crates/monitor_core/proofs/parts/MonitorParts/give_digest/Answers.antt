use Rattle.std.proofs.Common.{sym, subst}
use Rattle.monitor_core.specs.Parts.{HoldsTogether}
use Rattle.monitor_core.proofs.Digested.{whole_digested}
use Rattle.monitor_core.proofs.parts.MonitorParts.give_digest.Goals as goal

pub returns-clause-whole : goal.returns-clause-whole
returns-clause-whole c =
    let old = c.args.self.now in
    let live = c.requires.live in
    subst (λ kept. HoldsTogether kept old.worlds old.marked) (sym (c.give_digest.ensures live.0 live.1))
    (whole_digested old.table old.worlds old.marked c.args.id live.0 c.args.digest.now live.1 c.requires.whole)
