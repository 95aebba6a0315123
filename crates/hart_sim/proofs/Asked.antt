-- What an event asks of the monitor, and what it leaves of the monitor's part of the state.
use Rattle.measurement.specs.declared.request.Create.{Create}
use Rattle.std.proofs.Common.{◌≡◌, inl, inr, ℕ, List, Option, Result, Ok, Err, ap, Bool, false}
use Rattle.pmp_match.specs.declared.access.Access.{Access}
use Rattle.pmp_match.specs.declared.access.Kind.{Kind}
use Rattle.pmp_match.specs.declared.access.Kind.TheVariants.{Fetch, Load, Store}
use Rattle.pmp_match.specs.declared.cause.Cause.{Cause}
use Rattle.sbi_decode.specs.Calls.{call_of}
use Rattle.sbi_decode.specs.declared.calls.Call.{Call}
use Rattle.monitor_core.specs.States.{MonitorState}
use Rattle.monitor_core.specs.Changes.{with_running}
use Rattle.hart_trace.specs.declared.reply.Reply.{Reply}
pub use Rattle.hart_sim.specs.States.{awoken}
use Rattle.hart_sim.specs.States.{MachineState, core_of}
use Rattle.hart_sim.specs.Changes.{calling}
use Rattle.hart_sim.specs.Steps.{Accesses, TakesEffect}
use Rattle.hart_sim.specs.Memory.{in_range, measured_in}
use Rattle.pmp_encoding.specs.declared.pages.PageRange.{PageRange}
use Rattle.std.specs.Prelude.{unwrap_or, option_map}

-- the call that words name there, and the monitor's state with them in its registers
abbrev pub named : MachineState → ℕ → List ℕ → Option Call
named s hart words = call_of (calling (awoken s hart) hart words)

abbrev pub asked : MachineState → ℕ → List ℕ → MonitorState
asked s hart words = with_running (core_of (awoken s hart)) hart (calling (awoken s hart) hart words)

-- what a call may measure: the pages as they are
abbrev pub lent : MachineState → Create → List ℕ
lent s = measured_in s.bytes

-- whether a page is one of those that are to be zero, where there are any
abbrev pub is_zeroed : Option PageRange → ℕ → Bool
is_zeroed pages page = unwrap_or (option_map (λ range. in_range range.first range.count page) pages) false

-- an access leaves the monitor's part
pub core_effect : (kind : Kind) (s : MachineState) (a : Access) (value : ℕ) (reply : Reply) (new : MachineState) → TakesEffect kind s a value reply new
    → core_of new ≡ core_of s
core_effect Fetch s a value reply new x = ap core_of x.1
core_effect Load s a value reply new x = ap core_of x.1
core_effect Store s a value reply new (inl x) = ap core_of x.1
core_effect Store s a value reply new (inr x) = ap core_of x.2

pub core_access : (said : Result (Unit {0}) Cause) (s : MachineState) (a : Access) (value : ℕ) (reply : Reply) (new : MachineState)
    → Accesses said s a value reply new → core_of new ≡ core_of s
core_access (Err cause) s a value reply new x = ap core_of x.1
core_access (Ok done) s a value reply new x = core_effect a.kind s a value reply new x
