use Rattle.std.proofs.Common.{◌≡◌, ◌∙◌, Ok, refl, sym, subst}
use Rattle.std.proofs.lemmas.Option.{same_Some}
use Rattle.pmp_encoding.specs.Banks.{HasList}
use Rattle.hart_sim.specs.Parts.{core_in, state_in}
use Rattle.hart_sim.specs.States.{view_on}
use Rattle.hart_sim.proofs.Accessed.{ok_aligned, no_cause, that_cause, effect_ok, effect_err, accesses_ok, accesses_err}
use Rattle.hart_sim.proofs.parts.MachineParts.access.Goals as goal

pub reach-requires : goal.reach-requires
reach-requires c = let by = c.in-Ok.ensures.by_its_list in ok_aligned by.0 c.args.access.now (Ok tt) by.2 refl

pub returns-in-Ok-clause-judged : goal.returns-in-Ok-clause-judged
returns-in-Ok-clause-judged c = λ bank list cause has lists.
    let same : c.bank.result.now ≡ bank = same_Some _ _ (sym c.bank.ensures ∙ has) in
    let loaded = subst (λ b. HasList b list) (sym same) lists in
    no_cause list _ _ c.args.access.now c.args.value c.reach.result cause (c.in-Ok.ensures.by_no_other list loaded) c.reach.ensures

pub returns-in-Ok-clause-step : goal.returns-in-Ok-clause-step
returns-in-Ok-clause-step c = λ right.
    let old = c.args.self.now in
    let loads = right c.args.hart c.bank.result.now c.requires.on.known c.requires.awake c.bank.ensures in
    accesses_ok (view_on (state_in old) c.args.hart) loads.list (core_in old) old.memory c.reach.new.memory c.args.access.now c.args.value
    c.reach.result loads.fewest.means c.requires.event (c.in-Ok.ensures.by_no_other loads.list loads.loaded) c.reach.ensures

pub returns-in-Err-clause-judged : goal.returns-in-Err-clause-judged
returns-in-Err-clause-judged c = λ bank list cause has lists.
    let same : c.bank.result.now ≡ bank = same_Some _ _ (sym c.bank.ensures ∙ has) in
    let loaded = subst (λ b. HasList b list) (sym same) lists in
    that_cause list c.args.access.now c.in-Err.cause cause (c.in-Err.ensures.by_no_other list loaded)

pub returns-in-Err-clause-step : goal.returns-in-Err-clause-step
returns-in-Err-clause-step c = λ right.
    let old = c.args.self.now in
    let loads = right c.args.hart c.bank.result.now c.requires.on.known c.requires.awake c.bank.ensures in
    accesses_err (view_on (state_in old) c.args.hart) loads.list (core_in old) old.memory c.args.access.now c.args.value c.in-Err.cause
    loads.fewest.means c.requires.event (c.in-Err.ensures.by_no_other loads.list loads.loaded)

pub returns-in-Ok-clause-effect : goal.returns-in-Ok-clause-effect
returns-in-Ok-clause-effect c = λ bank list said has lists judged.
    let old = c.args.self.now in
    let same : c.bank.result.now ≡ bank = same_Some _ _ (sym c.bank.ensures ∙ has) in
    let loaded = subst (λ b. HasList b list) (sym same) lists in
    effect_ok list (core_in old) old.memory c.reach.new.memory c.args.access.now c.args.value c.reach.result said
    (c.in-Ok.ensures.by_no_other list loaded) c.reach.ensures judged

pub returns-in-Err-clause-effect : goal.returns-in-Err-clause-effect
returns-in-Err-clause-effect c = λ bank list said has lists judged.
    let same : c.bank.result.now ≡ bank = same_Some _ _ (sym c.bank.ensures ∙ has) in
    let loaded = subst (λ b. HasList b list) (sym same) lists in
    effect_err list (state_in c.args.self.now) c.args.access.now c.args.value c.in-Err.cause said (c.in-Err.ensures.by_no_other list loaded) judged
