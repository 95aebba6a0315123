-- A frame that is of no trap.
use Rattle.std.proofs.Common.{◌≡◌, ℕ, List, sym, subst}
use Rattle.trap_server.specs.declared.trap.TrapEvent.{TrapEvent}
use Rattle.trap_server.specs.declared.trap.Trap.{Trap}
use Rattle.trap_server.specs.Words.{word_at}
use Rattle.trap_server.specs.Traps.{IsTagOf, IsTrapFrame}

-- its first word is the tag of nothing that happened
pub no_event : (bytes : List ℕ) (harts tag : ℕ) → tag ≡ word_at bytes 0 → ((event : TrapEvent) → IsTagOf event tag → ⊥) → (trap : Trap)
    → IsTrapFrame bytes harts trap → ⊥
no_event bytes harts tag is none trap frame = none trap.event (subst (IsTagOf trap.event) (sym is) frame.tag)
