-- The replies to events.
use Rattle.std.specs.Prelude.{◌≡◌, ℕ}
use Rattle.pmp_match.specs.Meaning.{Needs}
use Rattle.monitor_core.specs.Answers.{world_number}
use Rattle.hart_trace.specs.declared.reply.Reply.{Reply}
use Rattle.hart_sim.specs.States.{MachineState}
use Rattle.enclave_table.specs.Views.{current_view}

-- the reply to a call or an interrupt contains the world on the hart after it, and the number of
-- entries that the view of that world then needs
abbrev pub RepliesWith : (ℕ → ℕ → Reply) → MachineState → ℕ → Reply → Type 0
RepliesWith reply_of new hart reply = (used : ℕ)
    × Needs (current_view new.table (new.worlds hart)) used
    × (reply ≡ reply_of (world_number (new.worlds hart)) used)
