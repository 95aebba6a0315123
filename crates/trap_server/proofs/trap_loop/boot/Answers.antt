use Rattle.std.proofs.Common.{subst}
use Rattle.trap_server.specs.Boot.{Boots}
use Rattle.trap_server.proofs.Looped.{booted}
use Rattle.trap_server.proofs.trap_loop.boot.Goals as goal

pub returns-in-Ok-clause-boots : goal.returns-in-Ok-clause-boots
returns-in-Ok-clause-boots g c =
    let before = g.R.Source.remaining c.args.source.now in
    let after = g.R.Source.remaining c.platform_in.new.source in
    let holds = g.W.Sink.contents c.boot_on.new.sink in
    let first = c.in-Ok.ensures.first in
    subst (λ held. Boots c.boot_on.result before after held holds) first.1
    (booted c.boot_on.result c.in-Ok.platform.value first.0.0 before after _ _ first.0.1 first.0.2 first.0.3 c.boot_on.ensures.boots)
