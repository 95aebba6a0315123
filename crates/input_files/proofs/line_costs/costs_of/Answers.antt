use Rattle.std.proofs.Common.{get_or, ◌≡◌, ◌+◌, ◌-◌, ◌<◌, ℕ, List, arith, drop, length, take}
use Rattle.std.proofs.lemmas.Grind.{common_steps}
use Rattle.std.proofs.lemmas.List.{drop_more}
use Rattle.input_files.specs.declared.idle_lines.Numbered.{Numbered}
use Rattle.input_files.specs.Costs.{more, none}
use Rattle.input_files.proofs.line_costs.costs_of.Goals as goal

rest_from : (i : ℕ) (settings : List Numbered) → take (length settings - i) (drop i settings) ≡ drop i settings
rest_from i settings = grind (arith, common_steps)

pub loop-i-init : goal.loop-i-init
loop-i-init c = rw c.new-costs.ensures.items none

pub loop-i-preserved : goal.loop-i-preserved
loop-i-preserved c =
    let settings = c.args.settings.now in
    let i = c.loop-i.i in
    let less : i < length settings = omega (arith, c.loop-i-test.true, c.looked_at-i-end.ensures.most) in
    rw c.in_ok-push.ensures.items
    (more i (get_or settings i _) c.in_ok-fewest.fewest c.loop-i.costs.items c.loop-i.invariant (drop_more settings i _ less)
    (rw (rest_from (i + 1) settings) at c.in_ok-fewest.ensures))
