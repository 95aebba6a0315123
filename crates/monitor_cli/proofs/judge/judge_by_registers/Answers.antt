use Rattle.std.proofs.Common.{inl, inr, refl}
use Rattle.std.proofs.lemmas.Result.{err_from_is_err_and}
use Rattle.monitor_cli.specs.Judge as judges
use Rattle.monitor_cli.proofs.judge.judge_by_registers.Goals as goal

pub returns-in_err-listing : goal.returns-in_err-listing
returns-in_err-listing g c =
    let p = err_from_is_err_and c.from_residual.result c.from_residual.ensures.1 in
    rw (p.1, p.2) (judges.JudgesByRegisters.no_listing _ (inl c.in_err-listing.ensures.refused) refl refl)

pub returns-in-Err : goal.returns-in-Err
returns-in-Err g c =
    judges.JudgesByRegisters.no_listing _
    (inr (_, c.in-Err.line, c.in_ok-listing.ensures.whole, rw c.as_slice.ensures.value at c.in-Err.ensures.line, refl)) refl refl

pub returns-in-Rules : goal.returns-in-Rules
returns-in-Rules g c =
    let rules = rw (c.as_slice.ensures.value, c.in-Rules.is) at c.in-Ok.ensures.ruled in
    judges.JudgesByRegisters.ruled _ c.in-Rules.rules _ c.in_ok-listing.ensures.whole rules c.judge_by.ensures

pub returns-in_err-write_whole-in-Refused : goal.returns-in_err-write_whole-in-Refused
returns-in_err-write_whole-in-Refused g c =
    let p = err_from_is_err_and c.from_residual-in_err-write_whole-in-Refused.result c.from_residual-in_err-write_whole-in-Refused.ensures.1 in
    let refused = rw (c.as_slice.ensures.value, c.in-Refused.is) at c.in-Ok.ensures.ruled in
    let broken = rw c.as_slice-in-Refused.ensures.value at c.in_err-write_whole-in-Refused.ensures in
    rw (p.1, p.2) (judges.JudgesByRegisters.no_output _ _ c.in_ok-listing.ensures.whole refused refl broken)

pub returns : goal.returns
returns g c =
    let refused = rw (c.as_slice.ensures.value, c.in-Refused.is) at c.in-Ok.ensures.ruled in
    let taken = rw c.as_slice-in-Refused.ensures.value at c.in_ok-write_whole-in-Refused.ensures in
    rw c.noted.ensures (judges.JudgesByRegisters.refused _ _ c.in_ok-listing.ensures.whole refused refl taken)
