use Rattle.std.proofs.Common.{ℕ, List, ◌<◌, ◌^◌, ◌↔◌, IsTrue, subst}
use Rattle.permission_map.specs.declared.runs.Run.{Run}
use Rattle.certificate_check.specs.Spans.{Decides, count_in}
use Rattle.permission_map.specs.Runs.{view_of_runs}
use Rattle.certificate_check.proofs.Entered.{meaning}
use Rattle.certificate_check.proofs.sweep.means.Goals as goal

pub returns : goal.returns
returns c = λ es spelled pages. meaning c.args.entries.now es (view_of_runs c.args.map.now) c.agrees.result spelled pages
    (λ spans reads. subst (λ (runs : List Run). IsTrue c.agrees.result ↔ ((page : ℕ) → page < 2 ^ 44
    → Decides spans (count_in c.args.entries.now) page (view_of_runs runs page))) c.ranges-2.ensures.value (c.agrees.ensures spans reads))
