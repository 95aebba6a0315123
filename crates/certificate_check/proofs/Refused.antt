-- A reader's fault passed on as the refusal of its number.
use Rattle.std.proofs.Common.{◌≡◌, sym, subst, Result, Ok, Err}
use Rattle.std.specs.Result.{IsErrAnd, IfErr}
use Rattle.certificate_format.specs.declared.fault.ReadFault.{ReadFault}
use Rattle.certificate_check.specs.declared.refusal.CheckRefusal.{CheckRefusal}
use Rattle.certificate_check.specs.Refusals.{refusal_of}

pub refused :
    {T : Type 0} (result : Result T CheckRefusal) (fault : ReadFault) (P : CheckRefusal → Type 0) → IsErrAnd result (λ r. r ≡ refusal_of fault)
    → P (refusal_of fault)
    → IfErr result P
refused (Ok x) fault P h p = tt
refused (Err r) fault P h p = subst P (sym h) p

-- a refusal passed on as it is
pub refused_again :
    {T : Type 0} (result : Result T CheckRefusal) (refusal : CheckRefusal) (P : CheckRefusal → Type 0) → IsErrAnd result (λ r. r ≡ refusal) → P refusal
    → IfErr result P
refused_again (Ok x) refusal P h p = tt
refused_again (Err r) refusal P h p = subst P (sym h) p
