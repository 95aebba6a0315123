-- It has each byte, and lets the access through.
use Rattle.register_audit.proofs.decision.grants.Goals as goal

pub returns-then-contains : goal.returns-then-contains
returns-then-contains c = (
  (λ yes. (c.contains.ensures.0 c.if-contains.true, c.lets_through.ensures.0 yes)),
  (λ both. c.lets_through.ensures.1 both.1),
)
