-- A step leaves the table sound.
use Rattle.std.proofs.Common.{◌≡◌, ℕ, List, ap, sym, subst}
use Rattle.enclave_table.specs.Enclaves.{EnclaveTable}
use Rattle.enclave_table.specs.Tables.{IsTable}
use Rattle.monitor_core.proofs.SoundTables.{call_keeps_table, interrupt_keeps_table}
use Rattle.hart_trace.specs.declared.event.Event.{Event}
use Rattle.hart_trace.specs.declared.event.Event.TheVariants as events
use Rattle.hart_trace.specs.declared.reply.Reply.{Reply}
use Rattle.hart_sim.specs.States.{MachineState, core_of, view_on}
use Rattle.hart_sim.specs.Steps.{Step, Run, still, step, verdict}
use Rattle.hart_sim.proofs.Asked.{awoken, named, asked, lent, core_access}

-- the same table
same : (table new : EnclaveTable) → new ≡ table → IsTable table → IsTable new
same table new is t = subst IsTable (sym is) t

pub table_step : (old : MachineState) (hart : ℕ) (event : Event) (reply : Reply) (new : MachineState) → Step old hart event reply new → IsTable old.table
    → IsTable new.table
table_step old hart (events.Access a value) reply new x t = same old.table new.table
    (ap (λ c. c.table) (core_access (verdict (view_on old hart) a) (awoken old hart) a value reply new x)) t
table_step old hart (events.Reg n value) reply new x t = same old.table new.table (ap (λ y. y.table) x.1) t
table_step old hart (events.Ecall words) reply new x t =
    same x.2.table new.table (ap (λ y. y.table) x.4) (call_keeps_table (named old hart words.items) (lent old)
    (asked old hart words.items) hart x.0 x.1 x.2 x.3 t)
table_step old hart events.Irq reply new x t = same x.0.table new.table (ap (λ y. y.table) x.2)
    (interrupt_keeps_table (old.worlds hart) (core_of (awoken old hart)) hart x.0 x.1 t)

-- the table after a run
pub run_sound : (old new : MachineState) (events : List (ℕ × Event)) (replies : List Reply) → IsTable old.table → Run old events replies new → IsTable new.table
run_sound old _ _ _ t still = t
run_sound old new _ _ t (step {events} {replies} {mid} run hart event reply low possible x) = table_step mid hart event reply new x
    (run_sound old mid events replies t run)
