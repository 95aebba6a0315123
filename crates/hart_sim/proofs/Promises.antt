-- What holds of each step from a table that is sound.
use Rattle.std.proofs.Common.{ℕ, subst}
use Rattle.hart_trace.specs.declared.event.Event.{Event}
use Rattle.hart_trace.specs.declared.reply.Reply.{Reply}
use Rattle.hart_sim.specs.States.{MachineState}
use Rattle.hart_sim.specs.Steps.{Step}
use Rattle.hart_sim.specs.Promises.{AnswersByView, Promises}
use Rattle.hart_sim.proofs.PrivateBytes.{keeps_private}
use Rattle.hart_sim.proofs.Promised.{allowed_by_view, denies_monitor, denies_others, zeroes_destroyed}
use Rattle.hart_sim.proofs.Wanted.{refuses_by_need}
use Rattle.hart_sim.proofs.SoundTables.{table_step}
use Rattle.hart_sim.proofs.Layouts.{layout_stays}
use Rattle.hart_sim.proofs.Switched.{keeps_registers, leaves_registers}
use Rattle.enclave_table.specs.Tables.{IsTable}

pub answers_by_view : (old : MachineState) (hart : ℕ) (event : Event) (reply : Reply) (new : MachineState) → Step old hart event reply new
    → AnswersByView old hart event reply
answers_by_view old hart event reply new x = λ a value is aligned inside. allowed_by_view old hart a value reply new aligned inside
    (subst (λ e. Step old hart e reply new) is x)

pub promised : (old : MachineState) (hart : ℕ) (event : Event) (reply : Reply) (new : MachineState) → IsTable old.table → Step old hart event reply new
    → Promises old hart event reply new
promised old hart event reply new t x = record {
  allowed = answers_by_view old hart event reply new x;
  private = keeps_private old hart event reply new t x;
  denied = denies_others old hart event reply new t x;
  monitor = denies_monitor old hart event reply new t x;
  destroyed = zeroes_destroyed old hart event reply new x;
  registers = keeps_registers old hart event reply new x;
  accesses = leaves_registers old hart event reply new x;
  wants = refuses_by_need old hart event reply new t x;
  table = table_step old hart event reply new x t;
  platform = layout_stays old hart event reply new x;
}
