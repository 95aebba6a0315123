use Rattle.std.proofs.Common.{inl, inr, refl, sym}
use Rattle.std.proofs.lemmas.Result.{err_from_is_err_and}
use Rattle.monitor_cli.specs.Judge.{judged, no_plan}
use Rattle.monitor_cli.proofs.judge.judge_by_map.Goals as goal

pub returns-in_err-map : goal.returns-in_err-map
returns-in_err-map g c =
    let p = err_from_is_err_and c.from_residual.result c.from_residual.ensures.1 in
    rw (p.1, p.2) (no_plan _ (inl c.in_err-map.ensures.refused) refl refl)

pub returns-in_err-plan : goal.returns-in_err-plan
returns-in_err-plan g c =
    let p = err_from_is_err_and c.from_residual-in_err-plan.result c.from_residual-in_err-plan.ensures.1 in
    rw (p.1, p.2) (no_plan _ (inr (_, c.in_ok-map.ensures.made, rw c.entry_count-most.ensures at c.in_err-plan.ensures.refused)) refl refl)

pub returns : goal.returns
returns g c = judged _ c.of_packed-bank.result _ c.in_ok-map.ensures.made
    (record {
      entries = c.entries.result.now;
      planned = rw (sym c.entries.ensures, c.entry_count-most.ensures) at c.in_ok-plan.ensures.planned;
      reached = rw (sym c.entries.ensures) at c.in_ok-plan.ensures.reached;
      list = c.of_packed-bank.ensures.list;
      registers = c.of_packed-bank.ensures.registers;
    })
    (rw c.of-segments.ensures at c.judge_by.ensures)
