-- The function of number 0 of the extension for the states of harts.
use Rattle.std.proofs.Common.{◌≡◌, Bool, arith}
use Rattle.std.proofs.lemmas.Bool.Decides.{nat_tests}
use Rattle.std.proofs.lemmas.Grind.{common_steps}
use Rattle.sbi_calls.specs.Hsm.{hsm_outcome, start_outcome}
use Rattle.sbi_calls.specs.declared.harts.Harts.{Harts}
use Rattle.sbi_calls.specs.declared.host_call.HostCall.{HostCall}

pub start_is : (call : HostCall) (harts : Harts) (executable : Bool) → call.function ≡ 0
    → start_outcome call harts executable ≡ hsm_outcome call harts executable
start_is call harts executable is = grind (arith, nat_tests, common_steps, is)
