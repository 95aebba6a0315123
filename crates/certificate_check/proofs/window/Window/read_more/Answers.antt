use Rattle.std.proofs.Common.{◌∙◌, ap, arith, rules, sym}
use Rattle.certificate_check.specs.Windows.{counted}
use Rattle.certificate_check.proofs.Windows.{came_behind, counts_soundly}
use Rattle.certificate_check.proofs.window.Window.read_more.Goals as goal

pub returns-in-Ok-clause-reads : goal.returns-in-Ok-clause-reads
returns-in-Ok-clause-reads g c =
    let read = c.in-Ok.ensures.read.1 in
    came_behind _ _ read.0 (search rules) (c.count.ensures.buffer ∙ read.3) read.2
    (c.count.ensures.came ∙ ap (counted c.args.self.now.came) (sym read.1)) c.count.ensures.most
    (counts_soundly _ _ (search rules) c.in-Ok.ensures.failures c.count.ensures.few c.count.ensures.many (omega (arith, c.count.ensures.came)))
