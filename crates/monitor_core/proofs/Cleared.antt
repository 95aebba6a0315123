-- The pages that are to be made zero are memory, and none is the monitor's.
use Rattle.measurement.specs.declared.request.Create.{Create}
use Rattle.std.proofs.Common.{◌≡◌, inl, inr, ℕ, ◌||◌, Bool, true, List, Option, IfSome, ap, sym, subst, arith}
use Rattle.pmp_encoding.specs.declared.pages.PageRange.{PageRange}
use Rattle.enclave_table.specs.Enclaves.{EnclaveTable, Live}
use Rattle.enclave_table.specs.declared.enclave.Enclave.{Enclave}
use Rattle.measurement.specs.Requests.{is_private, is_shared}
use Rattle.enclave_table.specs.Tables.{IsTable}
use Rattle.sbi_decode.specs.declared.calls.Call.{Call}
use Rattle.monitor_core.specs.declared.answer.Answer.{Answer}
use Rattle.monitor_core.specs.Frames.{ClearsMemory}
use Rattle.monitor_core.specs.States.{MonitorState}
use Rattle.monitor_core.specs.Steps.{DoesCall}
use Rattle.monitor_core.proofs.Zeroed.{private_of, cleared}

first_is : (a b : Bool) → a ≡ true → (a || b) ≡ true
first_is a b is = ap (λ x. x || b) is

-- so are the private pages of an enclave that is live
private_clears : (table : EnclaveTable) (id : ℕ) (e : Enclave) → IsTable table → Live table id e → ClearsMemory table.layout (private_of e)
private_clears table id e t live =
    let sound = t.sound id e live in
    let at = sound.places.private.1 in
    record {
      inside = omega (arith, at);
      in_ram = λ page is. sound.in_ram page (first_is (is_private e.parts page) (is_shared e.parts page) is);
      not_monitor = λ page is. sound.not_monitor page (first_is (is_private e.parts page) (is_shared e.parts page) is);
    }

pub call_clears_memory : (call : Option Call) (digests : Create → List ℕ) (s : MonitorState) (hart : ℕ) (answer : Answer) (zero : Option PageRange)
    (new : MonitorState) → IsTable s.table → DoesCall call digests s hart answer zero new → IfSome zero (λ range. ClearsMemory s.table.layout range)
call_clears_memory call digests s hart answer zero new t x =
    let of = λ (o : Option PageRange). IfSome o (λ range. ClearsMemory s.table.layout range) in
    elim (cleared call digests s hart answer zero new x) [
      | inl none ↦ subst of (sym none) tt
      | inr some ↦ subst of (sym some.1) (subst (ClearsMemory s.table.layout) (sym some.2.own) (private_clears s.table some.2.id some.2.enclave t some.2.live))
    ]
