use Rattle.std.proofs.Common.{◌≡◌, ◌≢◌, ◌∷◌, ◌++◌, ◌∙◌, sym, ap, rules}
use Rattle.permission_map.specs.Points.{page_of, perm_of, run_to}
use Rattle.permission_map.proofs.Turns.{next_turn, rise_next, same_turn, told_other, told_same}
use Rattle.permission_map.proofs.builder.push_runs.Goals as goal

pub points-preserved-in_ok-push_run : goal.points-preserved-in_ok-push_run
points-preserved-in_ok-push_run c =
    let inv = c.points.invariant in
    let turn = c.points.turn in
    let point = c.in-Some.point.now in
    let shape : c.points.rest.now ≡ c.in-Some.point.now ∷ c.in-Some.behind.now = search rules in
    let next = rise_next _ point c.points.rest.now c.in-Some.behind.now shape inv.rise in
    let differ = told_other c.perm.result c.perm-in-Some.result c.ne.result c.ne.ensures c.if-ne.true in
    let other : perm_of c.points.turn ≢ perm_of c.in-Some.point.now = λ e. differ (c.perm.ensures ∙ sym e ∙ sym c.perm-in-Some.ensures) in
    let pushed : c.push_run.new.runs.items ≡ c.points.runs.items ++ run_to (page_of c.in-Some.point.now) c.points.turn =
    c.in_ok-push_run.ensures ∙ ap (λ n. c.points.runs.items ++ run_to n c.points.turn) c.page.ensures in
    record {
      rise = next.1;
      inside = next.0;
      pushed = next_turn turn point c.points.rest.now c.in-Some.behind.now c.points.runs.items c.push_run.new.runs.items _ shape other inv.pushed pushed;
    }

pub points-preserved : goal.points-preserved
points-preserved c =
    let inv = c.points.invariant in
    let turn = c.points.turn in
    let point = c.in-Some.point.now in
    let shape : c.points.rest.now ≡ c.in-Some.point.now ∷ c.in-Some.behind.now = search rules in
    let next = rise_next _ point c.points.rest.now c.in-Some.behind.now shape inv.rise in
    let alike = told_same c.perm.result c.perm-in-Some.result c.ne.result c.ne.ensures c.if-ne.false in
    let same : perm_of c.points.turn ≡ perm_of c.in-Some.point.now = sym c.perm-in-Some.ensures ∙ sym alike ∙ c.perm.ensures in
    record {
      rise = next.2;
      inside = inv.inside;
      pushed = same_turn turn point c.points.rest.now c.in-Some.behind.now c.points.runs.items _ shape same inv.pushed;
    }
