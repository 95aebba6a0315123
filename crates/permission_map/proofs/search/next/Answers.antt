use Rattle.permission_map.proofs.Searched.{nothing_next, next_is}
use Rattle.permission_map.proofs.search.next.Goals as goal

pub returns-then-index-runs : goal.returns-then-index-runs
returns-then-index-runs c =
    next_is c.args.runs.now c.args.page c.over-index.result _ c.requires c.over-index.ensures.front c.over-index.ensures.rest c.if-index-runs.true

pub returns-else-index-runs : goal.returns-else-index-runs
returns-else-index-runs c = nothing_next c.args.runs.now c.args.page c.over-index.result c.over-index.ensures.front c.if-index-runs.false
