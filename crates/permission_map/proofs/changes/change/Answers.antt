use Rattle.std.proofs.Common.{◌≤◌, ◌+◌, ◌∙◌, List, length, take, sym, ap, subst, arith}
use Rattle.pmp_encoding.specs.declared.perm.Perm.TheVariants.{NoAccess}
use Rattle.permission_map.specs.declared.points.Point.{Point}
use Rattle.permission_map.specs.Points.{Rise, standing, turns}
use Rattle.permission_map.proofs.Changed.{over_changed, over_rise, replaced_changed, replaced_idle, replaced_rise}
use Rattle.permission_map.proofs.changes.change.Goals as goal

pub returns-then-range-lt-SPACE_PAGES-clause-rise : goal.returns-then-range-lt-SPACE_PAGES-clause-rise
returns-then-range-lt-SPACE_PAGES-clause-rise c =
    over_rise c.args.points.now.items c.write_over.new.points.items c.args.range.first c.args.range.end c.args.from c.args.to c.args.range.perm
    c.new-start.result c.new-stop.result
    c.requires.rise c.requires.some c.if-range-lt-SPACE_PAGES.true c.requires.cut c.if-from-to.true (omega (arith, c.requires.inside, c.args.points.now.ok.0))
    c.new-start.ensures.page c.new-stop.ensures.page c.write_over.ensures.items

pub returns-then-range-lt-SPACE_PAGES-clause-changed : goal.returns-then-range-lt-SPACE_PAGES-clause-changed
returns-then-range-lt-SPACE_PAGES-clause-changed c =
    over_changed c.args.points.now.items c.write_over.new.points.items c.args.range.first c.args.range.end c.args.from c.args.to c.args.range.perm
    c.perm_after-after.result c.new-start.result c.new-stop.result c.if-range-lt-SPACE_PAGES.true
    (c.perm_after-after.ensures ∙ ap (λ l. standing NoAccess (take c.args.to l)) c.deref.ensures.value)
    c.new-start.ensures.page c.new-start.ensures.perm c.new-stop.ensures.page c.new-stop.ensures.perm c.write_over.ensures.items

pub returns-else-few-clause-rise : goal.returns-else-few-clause-rise
returns-else-few-clause-rise c =
    let A : List Point → Type 0 = Rise in
    subst A (sym c.replace.ensures.items)
    (replaced_rise c.args.points.now.items c.args.range.first c.args.range.end c.args.from c.args.to c.args.range.perm c.args.start c.args.stop
    c.requires.rise c.requires.some c.requires.small c.requires.cut c.requires.turn c.requires.ends)

pub returns-else-few-clause-changed : goal.returns-else-few-clause-changed
returns-else-few-clause-changed c =
    replaced_changed c.args.points.now.items c.replace.new.points.items c.args.range.first c.args.range.end c.args.from c.args.to c.args.range.perm c.args.start
    c.args.stop
    c.requires.rise c.requires.cut c.requires.turn c.requires.ends c.replace.ensures.items

pub returns-else-few-clause-idle : goal.returns-else-few-clause-idle
returns-else-few-clause-idle c =
    let few : length c.args.points.now.items ≤ length (turns c.args.points.now.items) + 4096 = omega (arith, c.requires.idle, c.args.points.now.ok.0) in
    let is = replaced_idle c.args.points.now.items c.replace.new.points.items c.args.range.first c.args.range.end c.args.from c.args.to c.args.range.perm
    c.args.start c.args.stop
    c.requires.order c.requires.rise c.requires.cut c.requires.turn c.requires.ends c.replace.ensures.items few in
    omega (arith, is, c.replace.new.points.ok.0)
