-- A fault that is passed on as it is.
use Rattle.std.proofs.Common.{Result, Ok, Err, IfErr, IsErrAnd, ◌≡◌, subst, sym}
use Rattle.command_line.specs.declared.fault.Fault.{Fault}

pub handed_on : {T : Type 0} (result : Result T Fault) (fault : Fault) (P : Fault → Type 0) → IsErrAnd result (λ f. f ≡ fault) → P fault → IfErr result P
handed_on (Ok x) fault P h p = tt
handed_on (Err f) fault P h p = subst P (sym h) p
