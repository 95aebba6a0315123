use Rattle.std.proofs.Common.{◌∙◌, ap, refl, slice_set, sym, arith}
use Rattle.pmp_encoding.specs.Limits.{limit_number}
use Rattle.monitor_core.specs.Cores.{core_state}
use Rattle.hart_sim.specs.Parts.{registers_in}
use Rattle.hart_sim.proofs.BankPlaces.{read_at}
use Rattle.hart_sim.proofs.Followed.{interrupt_followed}
use Rattle.hart_sim.proofs.Framed.{frame_served}
use Rattle.hart_sim.proofs.parts.MachineParts.interrupt.Goals as goal

pub follow-requires-clause-limited : goal.follow-requires-clause-limited
follow-requires-clause-limited c =
    let old = c.args.self.now in
    let at = read_at old.harts c.args.hart c.index-self-hart.result (omega (arith, c.requires.on.fit.four, c.requires.few)) in
    (c.requires.on.fit.each c.args.hart _ at).limited ∙ ap (λ l. limit_number l.limit) (sym c.interrupt-load.ensures.platform)

pub returns-clause-step : goal.returns-clause-step
returns-clause-step c =
    let old = c.args.self.now in
    let hart = c.args.hart in
    let core = c.interrupt-load.new.self in
    let e = c.interrupt-load.ensures in
    let at = read_at old.harts hart c.index-self-hart.result (omega (arith, c.requires.on.fit.four, c.requires.few)) in
    let both = interrupt_followed old core c.follow.new.contexts hart _ c.follow.new.here c.interrupt-load.new.changes c.interrupt-load.result c.requires.on.fit
    at
    e.platform e.others e.load c.follow.ensures (e.step (registers_in old.harts old.contexts)) in (
      core_state core (registers_in (slice_set old.harts hart c.follow.new.here) c.follow.new.contexts),
      both.1,
      refl,
      c.reply_to_interrupt.ensures,
    )

pub returns-clause-frame : goal.returns-clause-frame
returns-clause-frame c =
    let old = c.args.self.now in
    let hart = c.args.hart in
    let core = c.interrupt-load.new.self in
    let e = c.interrupt-load.ensures in
    let harts = slice_set old.harts hart c.follow.new.here in
    let at = read_at old.harts hart c.index-self-hart.result (omega (arith, c.requires.on.fit.four, c.requires.few)) in
    let f = (interrupt_followed old core c.follow.new.contexts hart _ c.follow.new.here c.interrupt-load.new.changes c.interrupt-load.result c.requires.on.fit
    at
    e.platform e.others e.load c.follow.ensures (e.step (registers_in old.harts old.contexts))).0 in
    let sets = registers_in old.harts old.contexts in
    let after = registers_in harts c.follow.new.contexts in
    frame_served old (record old { core = core; harts = harts; contexts = c.follow.new.contexts }) hart c.interrupt-load.result c.requires.on c.requires.few
    c.requires.awake (e.others sets after) (e.load sets after) e.platform f.fit e.lists f.others f.loaded f.own f.calm
