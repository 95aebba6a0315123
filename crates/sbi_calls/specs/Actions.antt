-- Decisions for firmware in C: the number of each action.
use Rattle.std.specs.Prelude.{ℕ}
use Rattle.sbi_calls.specs.declared.action.Action.{Action}
use Rattle.sbi_calls.specs.declared.decision.Decision.{Decision}
use Rattle.sbi_calls.specs.declared.decision.Decision.TheVariants.{GoOn, Tick, ToHandler, Host}
use Rattle.sbi_calls.specs.declared.decision.Decision.TheVariants.{EnclaveCall, EnclaveStop}
use Rattle.sbi_calls.specs.declared.decision.Decision.TheVariants.{EnclaveTick}
use Rattle.sbi_calls.specs.declared.outcome.Outcome.{Outcome}
use Rattle.sbi_calls.specs.declared.outcome.Outcome.TheVariants.{Value, Error, SetTimer, Interrupt}
use Rattle.sbi_calls.specs.declared.outcome.Outcome.TheVariants.{FenceInstructions, PutByte}
use Rattle.sbi_calls.specs.declared.outcome.Outcome.TheVariants.{FenceTranslations, StartHart}
use Rattle.sbi_calls.specs.declared.outcome.Outcome.TheVariants.{StopHart, ShutDown, Fail, Reboot}
use Rattle.sbi_calls.specs.declared.outcome.Outcome.TheVariants.{Monitor}
use Rattle.sbi_calls.specs.Errors.{error_word}

-- an action on a subject, which returns SBI_SUCCESS and 0 if it returns
abbrev pub plain : ℕ → ℕ → Action
plain kind subject = record {
  kind = kind;
  error = 0;
  value = 0;
  subject = subject;
  address = 0;
  opaque = 0;
}

-- an action that only returns an answer
abbrev pub answer : ℕ → ℕ → Action
answer error value = record {
  kind = 3;
  error = error;
  value = value;
  subject = 0;
  address = 0;
  opaque = 0;
}

-- the action for the outcome of a host's call
abbrev pub outcome_action : Outcome → Action
outcome_action (Value value) = answer 0 value
outcome_action (Error error) = answer (error_word error) 0
outcome_action (SetTimer time) = plain 4 time
outcome_action (Interrupt harts) = plain 5 harts
outcome_action (FenceInstructions harts) = plain 6 harts
outcome_action (FenceTranslations harts) = plain 7 harts
outcome_action (PutByte byte) = plain 8 byte
outcome_action (StartHart hart address opaque) = record {
  kind = 9;
  error = 0;
  value = 0;
  subject = hart;
  address = address;
  opaque = opaque;
}
outcome_action StopHart = plain 10 0
outcome_action ShutDown = plain 11 0
outcome_action Fail = plain 12 0
outcome_action Reboot = plain 13 0
outcome_action Monitor = plain 14 0

-- the action at a trap
abbrev pub action_of : Decision → Action
action_of GoOn = plain 0 0
action_of Tick = plain 1 0
action_of ToHandler = plain 2 0
action_of EnclaveCall = plain 15 0
action_of EnclaveStop = plain 16 0
action_of EnclaveTick = plain 17 0
action_of (Host outcome) = outcome_action outcome
