-- What each host and each enclave has in registers of floating point, over a trap.
use Rattle.std.proofs.Common.{◌≡◌, ◌≢◌, ◌∙◌, inl, inr, ℕ, ◌%◌, ◌^◌, ◌<◌, if◌then◌else◌, List, Some, None, ap, sym, subst, arith}
use Rattle.std.proofs.lemmas.Bool.{ne_eqb}
use Rattle.std.proofs.lemmas.Option.{same_Some}
use Rattle.sbi_decode.specs.Runners.{Runner, HostOf, EnclaveOf, runner_of}
use Rattle.sbi_decode.specs.declared.world.World.{World}
use Rattle.sbi_decode.specs.declared.world.World.TheVariants.{Host, Enclave as InEnclave}
use Rattle.enclave_table.specs.Enclaves.{EnclaveTable, Live, enclave_at}
use Rattle.enclave_table.specs.Tables.{IsCurrent, IsTable}
use Rattle.enclave_table.specs.declared.enclave.Enclave.{Enclave}
use Rattle.enclave_table.specs.declared.enclave.Stage.TheVariants.{Exited, Fresh, Running}
use Rattle.enclave_table.proofs.Places.{live_above, live_inside}
use Rattle.monitor_core.specs.Answers.{world_number}
use Rattle.monitor_core.specs.States.{MonitorState}
use Rattle.monitor_core.specs.Switches.{runner_on}
use Rattle.monitor_core.specs.Worlds.{ArePlaced}
use Rattle.trap_server.specs.Answered.{head_of}
use Rattle.trap_server.specs.Firmware.{KeepsTrap}
use Rattle.trap_server.specs.Service.{given_at}
use Rattle.trap_server.specs.Words.{word_at}
use Rattle.trap_server.specs.declared.trap.Trap.{Trap}
use Rattle.board.proofs.Here.{call_there, served_here}
use Rattle.board.specs.Board.{Board, ChangesFloats, TrapDuties, HasEnded, runner_by, saved}
use Rattle.board.specs.Headline.{KeepsFloats, floats_of}
use Rattle.board.proofs.Floats.{ended_zero, made_zero, trap_stays}
use Rattle.board.proofs.Named.{says, whole_is}
use Rattle.board.proofs.New.{new_said, said_new}

-- the number of a world names who runs there
named_by : (table : EnclaveTable) (world : World) (hart word : ℕ) → IsTable table → IsCurrent table world → word ≡ world_number world % 2 ^ 64
    → runner_by hart word ≡ runner_of hart world
named_by table Host hart word right current is = ap (runner_by hart) is
named_by table (InEnclave id) hart word right current is =
    let above = live_above table.enclaves id current.0 current.1 in
    let inside = live_inside table.enclaves id current.0 current.1 in
    let same : id % 2 ^ 64 ≡ id = omega (arith, inside, right.places) in
    ap (runner_by hart) (is ∙ same) ∙ ap (λ b. if b then HostOf hart else EnclaveOf id) (ne_eqb id 0 (λ none. omega (arith, above, none)))

-- one that is Fresh runs on no hart
fresh_waits : (s : MonitorState) (id : ℕ) (e : Enclave) (hart : ℕ) → ArePlaced s → hart < s.table.layout.harts → Live s.table id e → e.state ≡ Fresh
    → EnclaveOf id ≢ runner_on s hart
fresh_waits s id e hart placed known live fresh is = by_world (s.worlds hart) (placed.current hart known) is
  where
    number : Runner → ℕ
    number (HostOf h) = h
    number (EnclaveOf n) = n

    by_world : (world : World) → IsCurrent s.table world → EnclaveOf id ≡ runner_of hart world → ⊥
    by_world Host current same = cc
    by_world (InEnclave k) current same =
        let one : current.0 ≡ e = same_Some current.0 e (sym current.1 ∙ subst (λ n. Live s.table n e) (ap number same) live) in
        let z : Running ≡ Fresh = sym current.2 ∙ ap (λ (f : Enclave). f.state) one ∙ fresh in cc

-- one that ended runs on no hart
ended_waits : (old s : MonitorState) (who : Runner) (hart : ℕ) → ArePlaced s → hart < s.table.layout.harts → HasEnded old s who → who ≢ runner_on s hart
ended_waits old s who hart placed known ended is = by_world (s.worlds hart) (placed.current hart known) (sym ended.1 ∙ is)
  where
    number : Runner → ℕ
    number (HostOf h) = h
    number (EnclaveOf n) = n

    by_world : (world : World) → IsCurrent s.table world → EnclaveOf ended.0 ≡ runner_of hart world → ⊥
    by_world Host current same = cc
    by_world (InEnclave k) current same =
        let here : enclave_at s.table.enclaves ended.0 ≡ Some current.0 = ap (enclave_at s.table.enclaves) (ap number same) ∙ current.1 in
        elim ended.2 [
          | inl gone ↦ let z : None ≡ Some current.0 = sym gone.2 ∙ here in cc
          | inr exited ↦
              let one : current.0 ≡ exited.1 = same_Some current.0 exited.1 (sym here ∙ exited.4) in
              let z : Running ≡ Exited = sym current.2 ∙ ap (λ (f : Enclave). f.state) one ∙ exited.5 in cc
        ]

-- the answer names who goes on
pub next_is :
    (old : Board) (trap : Trap) (frame read question answered : List ℕ) (new : Board) → new.monitor.table.layout.harts ≡ old.monitor.table.layout.harts
    → IsTable new.monitor.table → ArePlaced new.monitor → (x : TrapDuties old trap frame read question answered new)
    → KeepsTrap (saved old trap) trap x.changes read question answered new.monitor
    → runner_by trap.hart (word_at answered 2) ≡ runner_on new.monitor trap.hart
next_is old trap frame read question answered new same sound places x k =
    let hart = trap.hart in
    let a = k.says in
    let given = given_at (saved old trap) new.monitor trap in
    let word : word_at answered 2 ≡ world_number (new.monitor.worlds hart) % 2 ^ 64 =
    ap (λ b. word_at b 2) (whole_is new.monitor given hart k.answer k.cleared k.woken k.lists x.changes answered a)
    ∙ (says (head_of new.monitor hart k.answer a.used k.cleared k.woken k.lists given) x.changes a.puts.are given).world_is in
    named_by new.monitor.table (new.monitor.worlds hart) hart (word_at answered 2) sound
    (places.current hart (subst (λ n. hart < n) (sym same) x.is_trap.known)) word

pub floats_kept :
    (old : Board) (trap : Trap) (frame read question answered : List ℕ) (new : Board) → new.monitor.table.layout.harts ≡ old.monitor.table.layout.harts
    → IsTable old.monitor.table → IsTable new.monitor.table → ArePlaced old.monitor → ArePlaced new.monitor
    → (x : TrapDuties old trap frame read question answered new)
    → KeepsTrap (saved old trap) trap x.changes read question answered new.monitor → KeepsFloats old new
floats_kept old trap frame read question answered new same right sound placed places x k =
    let hart = trap.hart in
    let known : hart < old.monitor.table.layout.harts = x.is_trap.known in
    let next = next_is old trap frame read question answered new same sound places x k in
    let changes : ChangesFloats old hart (runner_on old.monitor hart) (runner_on new.monitor hart) question answered new =
    subst (λ who. ChangesFloats old hart (runner_on old.monitor hart) who question answered new) next x.floats in
    let one = served_here old trap frame read question answered new x in
    let s = saved old trap in
    let there = call_there old trap in
    record {
      ends = λ who ended.
          ended_zero old new hart question answered known same placed places k.stays changes who ended
          (λ h low. ended_waits old.monitor new.monitor who h places low ended);
      begins = λ who is.
          let said = new_said trap.event s trap x.changes read question answered new.monitor right there one is.0 is.1 is.3 is.4 in
          ap (floats_of new) is.2
          ∙ made_zero old new hart question answered known same placed places k.stays changes (EnclaveOf is.0) said.0
          (λ h low. fresh_waits new.monitor is.0 is.1 h places low is.4 said.1);
      stays = λ who none lives. trap_stays old new hart question answered known same placed places k.stays changes who
          (λ said. none (said_new trap.event s trap x.changes read question answered new.monitor right there one who said)) lives;
    }
