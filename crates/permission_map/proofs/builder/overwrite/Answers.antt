use Rattle.std.proofs.Common.{◌≡◌, ◌+◌, ◌<◌, ◌≤◌, ◌∙◌, List, length, refl, sym, ap, subst, arith}
use Rattle.permission_map.specs.declared.points.Point.{Point}
use Rattle.permission_map.specs.Points.{IsChanged, runs_of, turns}
use Rattle.permission_map.proofs.Answered.{none_wanted}
use Rattle.permission_map.proofs.Planned.{changed_count, changed_over, planned_count, planned_few, planned_over, planned_runs, row_planned}
use Rattle.permission_map.proofs.PointRuns.{empty_is, points_few, runs_are}
use Rattle.permission_map.proofs.Turns.{turns_are}
use Rattle.permission_map.proofs.builder.overwrite.Goals as goal

pub returns-then-count-eq0-clause-wanted : goal.returns-then-count-eq0-clause-wanted
returns-then-count-eq0-clause-wanted c =
    let few : length (runs_of (turns c.args.points.now.items)) ≤ 4096 = omega (arith, c.requires.built.count, c.requires.built.few) in (
      runs_of (turns c.args.points.now.items),
      none_wanted (runs_of (turns c.args.points.now.items)) c.args.first c.args.count c.args.perm
          (runs_are (turns c.args.points.now.items) (turns_are c.args.points.now.items c.requires.built.rise)) c.if-count-eq0.true,
      (refl, few),
    )

pub overflow_sub-wanted : goal.overflow_sub-wanted
overflow_sub-wanted c =
    let plan = row_planned c.args.points.now.items c.as_slice-row.result.now c.args.first (c.args.first + c.args.count) c.before-from.result c.up_to-to.result
    c.begun_between-gone.result c.args.perm c.perm_after.result c.perm_after-2.result c.turn-start.result c.stop-stop.result
    c.as_slice-row.ensures.value
    c.before-from.ensures.front c.before-from.ensures.rest c.up_to-to.ensures.front c.up_to-to.ensures.rest c.perm_after.ensures
    c.perm_after-2.ensures
    c.turn-start.ensures c.stop-stop.ensures c.begun_between-gone.ensures in
    let most = planned_few c.args.points.now.items c.args.first (c.args.first + c.args.count) c.before-from.result c.up_to-to.result c.begun_between-gone.result
    c.args.perm c.turn-start.result c.stop-stop.result plan in
    omega (arith, most, c.requires.built.count)

pub returns-then-wanted-gt-MOST_RUNS-clause-wanted : goal.returns-then-wanted-gt-MOST_RUNS-clause-wanted
returns-then-wanted-gt-MOST_RUNS-clause-wanted c =
    let plan = row_planned c.args.points.now.items c.as_slice-row.result.now c.args.first (c.args.first + c.args.count) c.before-from.result c.up_to-to.result
    c.begun_between-gone.result c.args.perm c.perm_after.result c.perm_after-2.result c.turn-start.result c.stop-stop.result
    c.as_slice-row.ensures.value
    c.before-from.ensures.front c.before-from.ensures.rest c.up_to-to.ensures.front c.up_to-to.ensures.rest c.perm_after.ensures
    c.perm_after-2.ensures
    c.turn-start.ensures c.stop-stop.ensures c.begun_between-gone.ensures in
    let most = planned_few c.args.points.now.items c.args.first (c.args.first + c.args.count) c.before-from.result c.up_to-to.result c.begun_between-gone.result
    c.args.perm c.turn-start.result c.stop-stop.result plan in
    let number = planned_count c.args.points.now.items c.args.first (c.args.first + c.args.count) c.before-from.result c.up_to-to.result
    c.begun_between-gone.result c.args.perm c.turn-start.result c.stop-stop.result plan in
    let many : 4096 < length (planned_runs c.args.points.now.items c.before-from.result c.up_to-to.result c.turn-start.result c.stop-stop.result) =
    omega (arith, number, most, c.requires.built.count, c.begun_at.ensures, c.begun_at-2.ensures, c.if-wanted-gt-MOST_RUNS.true) in (
      planned_runs c.args.points.now.items c.before-from.result c.up_to-to.result c.turn-start.result c.stop-stop.result,
      planned_over c.args.points.now.items c.args.first c.args.count c.before-from.result c.up_to-to.result c.begun_between-gone.result c.args.perm
          c.turn-start.result
          c.stop-stop.result c.requires.built.rise (omega arith) c.requires.inside plan,
      (refl, many),
    )

pub returns-then-runs-wanted-eq0-clause-wanted : goal.returns-then-runs-wanted-eq0-clause-wanted
returns-then-runs-wanted-eq0-clause-wanted c =
    let plan = row_planned c.args.points.now.items c.as_slice-row.result.now c.args.first (c.args.first + c.args.count) c.before-from.result c.up_to-to.result
    c.begun_between-gone.result c.args.perm c.perm_after.result c.perm_after-2.result c.turn-start.result c.stop-stop.result
    c.as_slice-row.ensures.value
    c.before-from.ensures.front c.before-from.ensures.rest c.up_to-to.ensures.front c.up_to-to.ensures.rest c.perm_after.ensures
    c.perm_after-2.ensures
    c.turn-start.ensures c.stop-stop.ensures c.begun_between-gone.ensures in
    let most = planned_few c.args.points.now.items c.args.first (c.args.first + c.args.count) c.before-from.result c.up_to-to.result c.begun_between-gone.result
    c.args.perm c.turn-start.result c.stop-stop.result plan in
    let number = planned_count c.args.points.now.items c.args.first (c.args.first + c.args.count) c.before-from.result c.up_to-to.result
    c.begun_between-gone.result c.args.perm c.turn-start.result c.stop-stop.result plan in
    let was : length (runs_of (turns c.args.points.now.items)) ≡ 0 = omega
    (arith, number, most, c.requires.built.count, c.begun_at.ensures, c.begun_at-2.ensures) in
    let is : length (planned_runs c.args.points.now.items c.before-from.result c.up_to-to.result c.turn-start.result c.stop-stop.result) ≡ 0 =
    omega (arith, number, most, c.requires.built.count, c.begun_at.ensures, c.begun_at-2.ensures) in (
      planned_runs c.args.points.now.items c.before-from.result c.up_to-to.result c.turn-start.result c.stop-stop.result,
      planned_over c.args.points.now.items c.args.first c.args.count c.before-from.result c.up_to-to.result c.begun_between-gone.result c.args.perm
          c.turn-start.result
          c.stop-stop.result c.requires.built.rise (omega arith) c.requires.inside plan,
      (
        empty_is (runs_of (turns c.args.points.now.items)) was
            ∙ sym (empty_is (planned_runs c.args.points.now.items c.before-from.result c.up_to-to.result c.turn-start.result c.stop-stop.result) is),
        omega (arith, is),
      ),
    )

pub returns-in_default-clause-wanted : goal.returns-in_default-clause-wanted
returns-in_default-clause-wanted c =
    let plan = row_planned c.args.points.now.items c.as_slice-row.result.now c.args.first (c.args.first + c.args.count) c.before-from.result c.up_to-to.result
    c.begun_between-gone.result c.args.perm c.perm_after.result c.perm_after-2.result c.turn-start.result c.stop-stop.result
    c.as_slice-row.ensures.value
    c.before-from.ensures.front c.before-from.ensures.rest c.up_to-to.ensures.front c.up_to-to.ensures.rest c.perm_after.ensures
    c.perm_after-2.ensures
    c.turn-start.ensures c.stop-stop.ensures c.begun_between-gone.ensures in
    let most = planned_few c.args.points.now.items c.args.first (c.args.first + c.args.count) c.before-from.result c.up_to-to.result c.begun_between-gone.result
    c.args.perm c.turn-start.result c.stop-stop.result plan in
    let number = planned_count c.args.points.now.items c.args.first (c.args.first + c.args.count) c.before-from.result c.up_to-to.result
    c.begun_between-gone.result c.args.perm c.turn-start.result c.stop-stop.result plan in (
      planned_runs c.args.points.now.items c.before-from.result c.up_to-to.result c.turn-start.result c.stop-stop.result,
      planned_over c.args.points.now.items c.args.first c.args.count c.before-from.result c.up_to-to.result c.begun_between-gone.result c.args.perm
          c.turn-start.result
          c.stop-stop.result c.requires.built.rise (omega arith) c.requires.inside plan,
      (
        ap (λ l. runs_of (turns l)) c.make_room.ensures.items,
        (
          omega (arith, number, most, c.requires.built.count, c.begun_at.ensures, c.begun_at-2.ensures, c.in_default.ensures.first),
          omega
              (arith, number, most, c.requires.built.count, c.begun_at.ensures, c.begun_at-2.ensures),
        ),
      ),
    )

pub change-requires-clause-room : goal.change-requires-clause-room
change-requires-clause-room c =
    let few = points_few (turns c.args.points.now.items) (turns_are c.args.points.now.items c.requires.built.rise) in
    omega (
      arith,
      few,
      c.requires.built.idle,
      ap length c.make_room.ensures.items,
      c.make_room.new.points.ok.0,
      c.requires.built.count,
      c.requires.built.few,
      c.in-Ok.ensures.room,
    )

pub returns-clause-built : goal.returns-clause-built
returns-clause-built c =
    let plan = row_planned c.args.points.now.items c.as_slice-row.result.now c.args.first (c.args.first + c.args.count) c.before-from.result c.up_to-to.result
    c.begun_between-gone.result c.args.perm c.perm_after.result c.perm_after-2.result c.turn-start.result c.stop-stop.result
    c.as_slice-row.ensures.value
    c.before-from.ensures.front c.before-from.ensures.rest c.up_to-to.ensures.front c.up_to-to.ensures.rest c.perm_after.ensures
    c.perm_after-2.ensures
    c.turn-start.ensures c.stop-stop.ensures c.begun_between-gone.ensures in
    let most = planned_few c.args.points.now.items c.args.first (c.args.first + c.args.count) c.before-from.result c.up_to-to.result c.begun_between-gone.result
    c.args.perm c.turn-start.result c.stop-stop.result plan in
    let C : List Point → Type 0 =
    λ l. IsChanged l c.change.new.points.items c.before-from.result c.up_to-to.result c.args.first (c.args.first + c.args.count) c.args.perm in
    let made = subst C c.make_room.ensures.items c.change.ensures.changed in
    let number = changed_count c.args.points.now.items c.change.new.points.items c.args.first
    (c.args.first + c.args.count) c.before-from.result c.up_to-to.result
    c.begun_between-gone.result c.args.perm c.turn-start.result c.stop-stop.result plan made in
    record {
      rise = c.change.ensures.rise;
      count = omega (arith, number, most, c.requires.built.count, c.begun_at.ensures, c.begun_at-2.ensures);
      few = omega (arith, c.if-wanted-gt-MOST_RUNS.false);
      idle = omega (arith, c.change.ensures.idle, c.change.new.points.ok.0);
      room = λ any. omega (arith, c.in-Ok.ensures.room, c.change.ensures.room);
    }

pub returns-clause-wanted : goal.returns-clause-wanted
returns-clause-wanted c =
    let plan = row_planned c.args.points.now.items c.as_slice-row.result.now c.args.first (c.args.first + c.args.count) c.before-from.result c.up_to-to.result
    c.begun_between-gone.result c.args.perm c.perm_after.result c.perm_after-2.result c.turn-start.result c.stop-stop.result
    c.as_slice-row.ensures.value
    c.before-from.ensures.front c.before-from.ensures.rest c.up_to-to.ensures.front c.up_to-to.ensures.rest c.perm_after.ensures
    c.perm_after-2.ensures
    c.turn-start.ensures c.stop-stop.ensures c.begun_between-gone.ensures in
    let most = planned_few c.args.points.now.items c.args.first (c.args.first + c.args.count) c.before-from.result c.up_to-to.result c.begun_between-gone.result
    c.args.perm c.turn-start.result c.stop-stop.result plan in
    let C : List Point → Type 0 =
    λ l. IsChanged l c.change.new.points.items c.before-from.result c.up_to-to.result c.args.first (c.args.first + c.args.count) c.args.perm in
    let made = subst C c.make_room.ensures.items c.change.ensures.changed in
    let number = changed_count c.args.points.now.items c.change.new.points.items c.args.first
    (c.args.first + c.args.count) c.before-from.result c.up_to-to.result
    c.begun_between-gone.result c.args.perm c.turn-start.result c.stop-stop.result plan made in
    let few : length (runs_of (turns c.change.new.points.items)) ≤ 4096 =
    omega (arith, number, most, c.requires.built.count, c.begun_at.ensures, c.begun_at-2.ensures, c.if-wanted-gt-MOST_RUNS.false) in (
      runs_of (turns c.change.new.points.items),
      changed_over c.args.points.now.items c.change.new.points.items c.args.first c.args.count c.before-from.result c.up_to-to.result
          c.begun_between-gone.result
          c.args.perm c.turn-start.result c.stop-stop.result c.requires.built.rise (omega arith) c.requires.inside plan made,
      (refl, few),
    )
