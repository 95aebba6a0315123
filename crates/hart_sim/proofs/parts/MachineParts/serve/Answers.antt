use Rattle.std.proofs.Common.{◌∙◌, ◌+◌, ◌^◌, ◌≤◌, Option, None, Some, slice_set, ap, sym, arith}
use Rattle.std.specs.Prelude.{IfSome}
use Rattle.pmp_encoding.specs.Limits.{limit_number}
use Rattle.pmp_encoding.specs.declared.pages.PageRange.{PageRange}
use Rattle.platforms.specs.Platform.{PlatformLayout}
use Rattle.monitor_core.specs.Cores.{core_kept, core_state}
use Rattle.monitor_core.specs.Frames.{ClearsMemory}
use Rattle.monitor_core.proofs.Put.{put_there}
use Rattle.monitor_core.proofs.Running.{others_put, loads_put}
use Rattle.sbi_decode.specs.Calls.{call_of}
use Rattle.monitor_core.specs.States.{running_registers}
use Rattle.hart_sim.specs.Changes.{call_places, with_words}
use Rattle.hart_sim.specs.Memory.{byte_at, measured_in}
use Rattle.hart_sim.specs.Parts.{core_in, registers_in}
use Rattle.hart_sim.proofs.BankPlaces.{read_at}
use Rattle.hart_sim.proofs.Followed.{call_followed, running_in, words_put}
use Rattle.hart_sim.proofs.Framed.{frame_served}
use Rattle.hart_sim.proofs.parts.MachineParts.serve.Goals as goal

-- pages that are to be zero are in the space
in_space : (layout : PlatformLayout) (pages : Option PageRange) → IfSome pages (λ (range : PageRange). ClearsMemory layout range)
    → IfSome pages (λ (range : PageRange). range.first + range.count ≤ 2 ^ 44)
in_space layout None x = tt
in_space layout (Some range) x = x.inside

pub zero-requires : goal.zero-requires
zero-requires c = in_space (core_kept c.args.self.now.core).table.layout c.serve-served.result.zero c.serve-served.ensures.zeroed

pub follow-requires-clause-limited : goal.follow-requires-clause-limited
follow-requires-clause-limited c =
    let old = c.args.self.now in
    let hart = c.args.hart in
    let at = read_at old.harts hart c.index-self-hart-2.result (omega (arith, c.requires.on.fit.four, c.requires.few)) in
    let put = words_put old hart _ c.put_call.new.here c.args.words.now c.requires.on.fit at c.put_call.ensures in
    let there = read_at (slice_set old.harts hart c.put_call.new.here) hart c.index-self-hart-3.result (omega (arith, put.fit.four, c.requires.few)) in
    (put.fit.each hart _ there).limited ∙ ap (λ l. limit_number l.limit) (sym c.serve-served.ensures.platform)

pub returns-clause-served : goal.returns-clause-served
returns-clause-served c =
    let old = c.args.self.now in
    let hart = c.args.hart in
    let core = c.serve-served.new.self in
    let e = c.serve-served.ensures in
    let r = c.serve-served.result in
    let harts = slice_set old.harts hart c.put_call.new.here in
    let at = read_at old.harts hart c.index-self-hart-2.result (omega (arith, c.requires.on.fit.four, c.requires.few)) in
    let put = words_put old hart _ c.put_call.new.here c.args.words.now c.requires.on.fit at c.put_call.ensures in
    let first = read_at old.harts hart c.index-self-hart.result (omega (arith, c.requires.on.fit.four, c.requires.few)) in
    let third = read_at harts hart c.index-self-hart-3.result (omega (arith, put.fit.four, c.requires.few)) in
    let asked = ap (λ s. running_registers s hart) put.state
    ∙ put_there (core_in old) hart (with_words (running_registers (core_in old) hart) call_places c.args.words.now)
    ∙ sym (c.put_words.ensures ∙ ap (λ f. with_words f call_places c.args.words.now) (c.registers.ensures
    ∙ sym (running_in old hart _ c.requires.on.fit first))) in
    let both = call_followed old core harts c.follow.new.contexts hart _ c.follow.new.here
    (with_words (running_registers (core_in old) hart) call_places c.args.words.now) c.serve-served.new.changes r.load (measured_in
    (byte_at old.memory)) r.answer
    r.zero put third e.platform e.others e.load c.follow.ensures (e.step (registers_in harts old.contexts) (ap call_of asked)) in
    let new = core_state core (registers_in (slice_set harts hart c.follow.new.here) c.follow.new.contexts) in
    (r.zero, new, both.1, c.zero.ensures new)

pub returns-clause-frame : goal.returns-clause-frame
returns-clause-frame c =
    let old = c.args.self.now in
    let hart = c.args.hart in
    let core = c.serve-served.new.self in
    let e = c.serve-served.ensures in
    let r = c.serve-served.result in
    let harts = slice_set old.harts hart c.put_call.new.here in
    let at = read_at old.harts hart c.index-self-hart-2.result (omega (arith, c.requires.on.fit.four, c.requires.few)) in
    let put = words_put old hart _ c.put_call.new.here c.args.words.now c.requires.on.fit at c.put_call.ensures in
    let first = read_at old.harts hart c.index-self-hart.result (omega (arith, c.requires.on.fit.four, c.requires.few)) in
    let third = read_at harts hart c.index-self-hart-3.result (omega (arith, put.fit.four, c.requires.few)) in
    let asked = ap (λ s. running_registers s hart) put.state
    ∙ put_there (core_in old) hart (with_words (running_registers (core_in old) hart) call_places c.args.words.now)
    ∙ sym (c.put_words.ensures ∙ ap (λ f. with_words f call_places c.args.words.now) (c.registers.ensures
    ∙ sym (running_in old hart _ c.requires.on.fit first))) in
    let file = with_words (running_registers (core_in old) hart) call_places c.args.words.now in
    let f = (call_followed old core harts c.follow.new.contexts hart _ c.follow.new.here file c.serve-served.new.changes r.load
    (measured_in (byte_at old.memory)) r.answer r.zero put third e.platform e.others e.load c.follow.ensures
    (e.step (registers_in harts old.contexts) (ap call_of asked))).0 in
    let now = slice_set harts hart c.follow.new.here in
    let sets = registers_in harts old.contexts in
    let after = registers_in now c.follow.new.contexts in
    frame_served old (record old { core = core; memory = c.zero.new.memory; harts = now; contexts = c.follow.new.contexts }) hart r.load c.requires.on
    c.requires.few c.requires.awake
    (others_put (core_in old) (core_state old.core sets) (core_state core after) hart file put.state (e.others sets after))
    (loads_put r.load (core_in old) (core_state old.core sets) (core_state core after) hart file put.state (e.load sets after)) e.platform f.fit e.lists
    (λ i other. f.others i other ∙ put.banks i) f.loaded f.own (λ off. f.calm off ∙ put.banks hart)
