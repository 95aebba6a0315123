-- The frame of a trap has all that decides how it is served.
use Rattle.std.proofs.Common.{◌≡◌, ◌∙◌, ℕ, List, Option, Some, None, ◌==◌, not, if◌then◌else◌, sym, refl, subst, lit<, lit≤, arith}
use Rattle.sbi_decode.specs.Calls.{a_of, call_of}
use Rattle.sbi_decode.specs.Registers.{RegisterFile}
use Rattle.sbi_decode.specs.declared.calls.Call.{Call}
use Rattle.sbi_decode.specs.declared.calls.Call.TheVariants as calls
use Rattle.monitor_core.specs.Measured.{asked_in}
use Rattle.monitor_core.specs.SetChanges.{changed}
use Rattle.monitor_core.specs.States.{MonitorState}
use Rattle.monitor_core.specs.declared.set_changes.SetChanges.{SetChanges}
use Rattle.trap_server.specs.Answered.{IsAnswer, marks_of, new_lists}
use Rattle.trap_server.specs.Service.{AsksFor, FramesTell, ServesAll, ServesAs, given_at}
use Rattle.trap_server.specs.Sets.{with_sets}
use Rattle.trap_server.specs.Traps.{HasCall, IsTagOf, IsTrapFrame}
use Rattle.trap_server.specs.declared.trap.Trap.{Trap}
use Rattle.trap_server.specs.declared.trap.TrapEvent.{TrapEvent}
use Rattle.trap_server.specs.declared.trap.TrapEvent.TheVariants.{Call as IsCall, Stop as IsStop}

-- the call that a0 to a7 name
abbrev call_by : ℕ → ℕ → ℕ → ℕ → ℕ → ℕ → ℕ → ℕ → Option Call
call_by a0 a1 a2 a3 a4 a5 a6 a7 =
    if not (a7 == 0x08454E43) then None
    else if a6 == 0 then Some (calls.Create a0 a1 a2 a3 a4 a5)
    else if a6 == 1 then Some (calls.Destroy a0)
    else if a6 == 2 then Some (calls.Run a0)
    else if a6 == 3 then Some calls.Stop
    else if a6 == 4 then Some (calls.Resume a0)
    else if a6 == 5 then Some (calls.Exit a0)
    else if a6 == 6 then Some (calls.Measure a0 a1)
    else None

-- it is that of the frame
same_call : (frame : List ℕ) (one other : RegisterFile) → HasCall frame one → HasCall frame other → call_of one ≡ call_of other
same_call frame one other p q =
    let a0 : a_of one 0 ≡ a_of other 0 = p 10 (lit≤ tt) (lit< tt) ∙ sym (q 10 (lit≤ tt) (lit< tt)) in
    let a1 : a_of one 1 ≡ a_of other 1 = p 11 (lit≤ tt) (lit< tt) ∙ sym (q 11 (lit≤ tt) (lit< tt)) in
    let a2 : a_of one 2 ≡ a_of other 2 = p 12 (lit≤ tt) (lit< tt) ∙ sym (q 12 (lit≤ tt) (lit< tt)) in
    let a3 : a_of one 3 ≡ a_of other 3 = p 13 (lit≤ tt) (lit< tt) ∙ sym (q 13 (lit≤ tt) (lit< tt)) in
    let a4 : a_of one 4 ≡ a_of other 4 = p 14 (lit≤ tt) (lit< tt) ∙ sym (q 14 (lit≤ tt) (lit< tt)) in
    let a5 : a_of one 5 ≡ a_of other 5 = p 15 (lit≤ tt) (lit< tt) ∙ sym (q 15 (lit≤ tt) (lit< tt)) in
    let a6 : a_of one 6 ≡ a_of other 6 = p 16 (lit≤ tt) (lit< tt) ∙ sym (q 16 (lit≤ tt) (lit< tt)) in
    let a7 : a_of one 7 ≡ a_of other 7 = p 17 (lit≤ tt) (lit< tt) ∙ sym (q 17 (lit≤ tt) (lit< tt)) in
    λ i. call_by (a0 i) (a1 i) (a2 i) (a3 i) (a4 i) (a5 i) (a6 i) (a7 i)

same_event : (one other : TrapEvent) (tag : ℕ) → IsTagOf one tag → IsTagOf other tag → one ≡ other
same_event IsCall IsCall tag p q = refl
same_event IsStop IsStop tag p q = refl
same_event IsCall IsStop tag p q = absurd (omega (arith, p, q))
same_event IsStop IsCall tag p q = absurd (omega (arith, p, q))

same_host : (frame : List ℕ) (harts : ℕ) (one other : Trap) → IsTrapFrame frame harts one → IsTrapFrame frame harts other → one.host ≡ other.host
same_host frame harts one other p q = λ i. record { mie = (p.mie ∙ sym q.mie) i; scounteren = (p.scounteren ∙ sym q.scounteren) i }

-- a trap with other registers, of which the call is the same
abbrev with_file : Trap → RegisterFile → Trap
with_file trap file = record trap { registers = file }

other_registers :
    (event : TrapEvent) (s : MonitorState) (trap : Trap) (file : RegisterFile) (changes : SetChanges) (read question answered : List ℕ)
    (new : MonitorState) → call_of trap.registers ≡ call_of file → ServesAs event s trap changes read question answered new
    → ServesAs event s (with_file trap file) changes read question answered new
other_registers IsCall s trap file changes read question answered new same x =
    let a = x.answers in
    record {
      digest = x.digest;
      answer = x.answer;
      answers = record {
        cleared = a.cleared;
        mid = a.mid;
        step = a.step;
        woken = a.woken;
        goes_on = subst (λ c. IsAnswer new (given_at s new trap) trap.hart x.answer a.cleared (marks_of a.mid)
            (new_lists (asked_in c) x.answer a.cleared) changes answered) same a.goes_on;
      };
      asks = subst (λ c. AsksFor (asked_in c) x.answer question read x.digest) same x.asks;
    }
other_registers IsStop s trap file changes read question answered new same x = record {
  mid = x.mid;
  nothing_asked = x.nothing_asked;
  nothing_read = x.nothing_read;
  step = x.step;
  woken = x.woken;
  goes_on = x.goes_on;
}

pub frames_tell : FramesTell
frames_tell frame harts one other p q s changes read question answered new served =
    let same : call_of one.registers ≡ call_of other.registers = same_call frame one.registers other.registers p.call q.call in
    let trap : with_file one other.registers ≡ other = λ i. record {
      event = same_event one.event other.event _ p.tag q.tag i;
      hart = (sym p.hart ∙ q.hart) i;
      registers = other.registers;
      host = same_host frame harts one other p q i;
    } in
    let all : ServesAll s (with_file one other.registers) changes read question answered new = λ sets there.
    other_registers one.event (with_sets s sets) one other.registers changes read question answered (with_sets new (changed one.hart changes sets)) same
    (served sets (there ∙ sym same)) in
    subst (λ (t : Trap). ServesAll s t changes read question answered new) trap all
