use Rattle.std.proofs.Common.{◌≡◌, ◌∙◌, ◌==◌, ◌&&◌, ◌||◌, nat_lt, if◌then◌else◌, refl, ap, sym, arith, rules}
use Rattle.monitor_core.specs.Changes.{is_host}
use Rattle.monitor_core.specs.Parts.{mark_in, world_in}
use Rattle.monitor_core.proofs.Equal.{equal}
use Rattle.monitor_core.proofs.Framed.{whole_same}
use Rattle.monitor_core.proofs.Marks.{hosted, mark_is}
use Rattle.monitor_core.proofs.Moved.{whole_marked}
use Rattle.monitor_core.proofs.parts.MonitorParts.mark_others.Goals as goal

pub returns-clause-table : goal.returns-clause-table
returns-clause-table c = c.loop-other.invariant.table

pub returns-clause-state : goal.returns-clause-state
returns-clause-state c = λ sets.
    let old = c.args.self.now in
    let inv = c.loop-other.invariant in
    let many : c.harts-harts.result ≡ old.table.table.layout.harts = c.harts-harts.ensures.value ∙ ap (λ l. l.harts) c.platform.ensures in
    let end : c.loop-other.other ≡ c.harts-harts.result = omega arith in
    equal (record {
      table = ap (λ k. k.table) inv.table;
      worlds = λ h. ap (λ ws. world_in ws h) inv.worlds;
      registers = λ who. refl;
      marked = λ h. inv.marks h ∙ mark_is (nat_lt h c.loop-other.other) (h == c.args.hart) (is_host (world_in old.worlds h)) (mark_in old.marked h)
          ∙ ap (λ k. if h == c.args.hart then mark_in old.marked h else (nat_lt h k && is_host (world_in old.worlds h) || mark_in old.marked h)) (end ∙ many);
    })

pub returns-clause-whole : goal.returns-clause-whole
returns-clause-whole c =
    let old = c.args.self.now in
    let new = c.loop-other.self in
    let inv = c.loop-other.invariant in
    let many : c.harts-harts.result ≡ old.table.table.layout.harts = c.harts-harts.ensures.value ∙ ap (λ l. l.harts) c.platform.ensures in
    let end : c.loop-other.other ≡ c.harts-harts.result = omega arith in
    whole_same old.table new.table old.worlds new.worlds new.marked new.marked inv.table inv.worlds refl
    (whole_marked old.table old.worlds old.marked new.marked c.requires.on.whole
    (λ i on. hosted (i == c.args.hart) (nat_lt i c.loop-other.other) (mark_in old.marked i) (world_in old.worlds i) (c.requires.on.whole.hosted i)
    (sym (inv.marks i ∙ mark_is (nat_lt i c.loop-other.other) (i == c.args.hart) (is_host (world_in old.worlds i)) (mark_in old.marked i)) ∙ on)))

pub loop-other-preserved : goal.loop-other-preserved
loop-other-preserved c = search rules
