use Rattle.std.proofs.Common.{refl}
use Rattle.certificate_check.proofs.Windows.{empty_when, part_refused}
use Rattle.certificate_check.proofs.window.Window.is_done.Goals as goal

pub returns : goal.returns
returns g c =
    part_refused _ _ 1 _ c.hold.ensures.reads c.hold.ensures.enough (λ later which.
    (refl, empty_when c.hold.new.self.buffer later c.is_empty.result (rw c.held.ensures.value at c.is_empty.ensures) which))
