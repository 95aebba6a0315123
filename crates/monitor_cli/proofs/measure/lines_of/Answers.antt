use Rattle.std.proofs.Common.{ℕ, ◌≡◌, List, IfOk, subst}
use Rattle.monitor_cli.specs.Measure.{digest_text}
use Rattle.monitor_cli.proofs.measure.lines_of.Goals as goal

pub returns : goal.returns
returns c =
    subst (λ (digest : List ℕ). IfOk c.text_of.result (λ text. text.items ≡ digest_text digest)) c.enclave_digest.ensures c.text_of.ensures
