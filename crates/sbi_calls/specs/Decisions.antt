-- The firmware's decision at a trap.
use Rattle.std.specs.Prelude.{◌≡◌, ℕ, Bool}
use Rattle.sbi_decode.specs.declared.world.World.{World}
use Rattle.sbi_calls.specs.declared.caller.Caller.{Caller}
use Rattle.sbi_calls.specs.declared.decision.Decision.{Decision}
use Rattle.sbi_calls.specs.declared.decision.Decision.TheVariants.{GoOn, Tick, ToHandler, Host}
use Rattle.sbi_calls.specs.declared.decision.Decision.TheVariants.{EnclaveCall, EnclaveStop}
use Rattle.sbi_calls.specs.declared.decision.Decision.TheVariants.{EnclaveTick}
use Rattle.sbi_calls.specs.declared.harts.HartState.{HartState}
use Rattle.sbi_calls.specs.declared.harts.HartState.TheVariants.{StartPending, Stopped}
use Rattle.sbi_calls.specs.declared.harts.Harts.{Harts}
use Rattle.sbi_calls.specs.declared.host_call.HostCall.{HostCall}
use Rattle.sbi_calls.specs.declared.outcome.Outcome.TheVariants.{StartHart, StopHart}
use Rattle.sbi_calls.specs.declared.owner.TrapOwner.{TrapOwner}
use Rattle.sbi_calls.specs.declared.owner.TrapOwner.TheVariants.{OtherHart, HostTimer}
use Rattle.sbi_calls.specs.declared.owner.TrapOwner.TheVariants.{HostHandler, EnclaveTimer}
use Rattle.sbi_calls.specs.declared.owner.TrapOwner.TheVariants as owners
use Rattle.sbi_calls.specs.Dispatch.{IsStart, outcome_of}
use Rattle.sbi_calls.specs.Harts.{begun, state_of, with_state}
use Rattle.sbi_calls.specs.Named.{NamesBoard}
use Rattle.sbi_calls.specs.Owners.{owner_of}
use Rattle.sbi_calls.specs.StartAddresses.{IsExecutable}
use Rattle.sbi_calls.specs.declared.bank_words.BankWords.{BankWords}

-- the decision by the source of a trap: only the host's calls are decoded as such
abbrev pub decision_of : TrapOwner → HostCall → Caller → Harts → Bool → Decision
decision_of OtherHart call caller harts executable = GoOn
decision_of HostTimer call caller harts executable = Tick
decision_of owners.HostCall call caller harts executable =
    Host (outcome_of call caller harts executable)
decision_of HostHandler call caller harts executable = ToHandler
decision_of owners.EnclaveCall call caller harts executable = EnclaveCall
decision_of EnclaveTimer call caller harts executable = EnclaveTick
decision_of owners.EnclaveStop call caller harts executable = EnclaveStop

-- the decision is the outcome of a host's call
abbrev pub IsOfHost : Decision → Type 0
IsOfHost (Host outcome) = Unit {0}
IsOfHost _ = ⊥

-- each hart that a decision names is on the board, and a hart that it starts is stopped
abbrev pub DecidesBoard : Harts → Decision → Type 0
DecidesBoard harts (Host outcome) = NamesBoard harts outcome
DecidesBoard harts _ = Unit {0}

-- the state of a hart after a decision at a trap of `self` (SBI, chapter 9): `self` begins if it
-- was started, another hart is started, or `self` stops; nothing else changes a state
abbrev pub state_after : Decision → ℕ → Harts → ℕ → HartState
state_after GoOn self harts hart = with_state harts self (begun (state_of harts self)) hart
state_after (Host (StartHart started address opaque)) self harts hart =
    with_state harts started StartPending hart
state_after (Host StopHart) self harts hart = with_state harts self Stopped hart
state_after _ self harts hart = state_of harts hart

-- the decision at a trap of this cause in a world, on the caller's hart with these entries, and the
-- states of the harts before and after
pub record Decides (world : World) (cause : ℕ) (call : HostCall) (caller : Caller)
    (bank : BankWords) (before after : Harts) (decision : Decision) : Type 0 where
  pub start : (executable : Bool) → IsExecutable bank call.a1 executable
      → decision ≡ decision_of (owner_of world cause) call caller before executable
  -- entries matter only when a hart is started
  pub others : ¬ IsStart call → (executable : Bool)
      → decision ≡ decision_of (owner_of world cause) call caller before executable
  pub there : DecidesBoard before decision
  pub states : (hart : ℕ)
      → state_of after hart ≡ state_after decision caller.hart before hart
  pub count : after.count ≡ before.count
