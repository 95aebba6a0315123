use Rattle.std.proofs.Common.{◌≡◌, ◌∙◌, ◌++◌, List, sym, ap, subst}
use Rattle.permission_map.specs.declared.runs.Run.{Run}
use Rattle.permission_map.specs.Points.{runs_of, turns}
use Rattle.permission_map.specs.Runs.{AreRuns}
use Rattle.permission_map.proofs.PointRuns.{runs_are}
use Rattle.permission_map.proofs.Turns.{turns_are}
use Rattle.permission_map.proofs.builder.MapBuilder.finish.Goals as goal

pub of_runs-requires-clause-runs : goal.of_runs-requires-clause-runs
of_runs-requires-clause-runs c =
    let made : c.push_runs.new.runs.items ≡ runs_of (turns c.self.inside.points.items) =
    c.in_ok-push_runs.ensures ∙ ap (λ l. l ++ runs_of (turns c.deref.result.now)) c.in_ok-runs.ensures.items
    ∙ ap (λ l. runs_of (turns l)) c.deref.ensures.value in
    let A : List Run → Type 0 = AreRuns in
    subst A (sym made) (runs_are (turns c.self.inside.points.items) (turns_are c.self.inside.points.items c.self.invariant.rise))
