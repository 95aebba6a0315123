-- A trap on a board, as it was served with the register sets that were there.
use Rattle.std.proofs.Common.{◌≡◌, ℕ, List, ap, sym, subst}
use Rattle.sbi_decode.specs.Calls.{call_of}
use Rattle.sbi_decode.specs.Registers.{RegisterFile}
use Rattle.sbi_decode.specs.Runners.{Runner}
use Rattle.monitor_core.specs.States.{running_registers}
use Rattle.monitor_core.proofs.Put.{put_there}
use Rattle.trap_server.specs.Service.{ServesAs}
use Rattle.trap_server.specs.Sets.{with_sets}
use Rattle.trap_server.specs.declared.trap.Trap.{Trap}
use Rattle.board.specs.Board.{Board, TrapDuties, saved}

-- the registers that came make the call of the trap
pub call_there : (old : Board) (trap : Trap) → call_of (running_registers (saved old trap) trap.hart) ≡ call_of trap.registers
call_there old trap = ap call_of (put_there old.monitor trap.hart trap.registers)

pub served_here :
    (old : Board) (trap : Trap) (frame read question answered : List ℕ) (new : Board) (x : TrapDuties old trap frame read question answered new)
    → ServesAs trap.event (saved old trap) trap x.changes read question answered new.monitor
served_here old trap frame read question answered new x =
    subst (λ (sets : Runner → RegisterFile). ServesAs trap.event (saved old trap) trap x.changes read question answered (with_sets new.monitor sets))
    (sym x.sets) (x.served (saved old trap).registers (call_there old trap))
