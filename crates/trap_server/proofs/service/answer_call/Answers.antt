use Rattle.std.proofs.Common.{◌∙◌, ap, refl, sym, subst}
use Rattle.sbi_decode.specs.Calls.{call_of}
use Rattle.sbi_decode.specs.Registers.{RegisterFile}
use Rattle.sbi_decode.specs.Runners.{Runner}
use Rattle.sbi_decode.specs.declared.world.World.{World}
use Rattle.enclave_table.specs.Enclaves.{Live}
use Rattle.monitor_core.specs.Changes.{past_call, with_running}
use Rattle.monitor_core.specs.Measured.{asked_in}
use Rattle.monitor_core.specs.SetChanges.{changed}
use Rattle.monitor_core.specs.States.{MonitorState}
use Rattle.trap_server.specs.Answered.{IsAnswer}
use Rattle.trap_server.specs.Given.{words_given}
use Rattle.trap_server.specs.Sets.{bare, with_sets}
use Rattle.trap_server.proofs.Answering.{call_answered, call_unanswered}
use Rattle.trap_server.proofs.ListsKept.{made_by_lists}
use Rattle.trap_server.proofs.Remeasured.{call_remeasured}
use Rattle.trap_server.proofs.service.answer_call.Goals as goal

pub serve-served-requires-clause-awake : goal.serve-served-requires-clause-awake
serve-served-requires-clause-awake g c = c.requires.awake c.args.trap.now.hart c.requires.hart

pub write_answer-requires-clause-made : goal.write_answer-requires-clause-made
write_answer-requires-clause-made g c = λ is.
    let s = bare c.args.core.now in
    let mid = bare c.serve-served.new.self in
    let trap = c.args.trap.now in
    let said = c.serve-served.result in
    let sets : Runner → RegisterFile = λ who. trap.registers in
    let file = past_call trap.registers in
    let step = c.serve-served.ensures.step sets refl in
    let asked = asked_in (call_of trap.registers) in
    let m = made_by_lists asked said.answer said.zero (sym (c.new_lists-lists.ensures asked c.requires.creation) ∙ is) in
    let r = call_remeasured (call_of file) _ (with_running (with_sets s sets) trap.hart file) trap.hart said.answer said.zero
    (with_sets mid (changed trap.hart c.serve-served.new.changes sets)) m.0 c.cite_invariant.ensures.table step m.1 in
    (r.0, subst (λ (y : MonitorState). Live y.table said.answer.value r.0) (sym c.wake_all-woken.ensures.state) r.1)

pub returns-in-Ok-clause-answered : goal.returns-in-Ok-clause-answered
returns-in-Ok-clause-answered g c =
    let trap = c.args.trap.now in
    let said = c.serve-served.result in
    let gives = c.words_given-given.ensures ∙ ap (λ (w : World). words_given w c.world.result trap.host) c.world-before.ensures.value
    ∙ ap (λ (w : World). words_given ((bare c.args.core.now).worlds trap.hart) w trap.host) c.world.ensures.value in
    let wrote = c.in-Ok.ensures.bytes in (
      wrote.0,
      call_answered (bare c.args.core.now) (bare c.serve-served.new.self) (bare c.wake_all-woken.new.core) trap c.serve-served.new.changes _
          said.answer said.zero c.wake_all-woken.result c.new_lists-lists.result c.words_given-given.result c.harts-most.result wrote.0 c.requires.call
          c.serve-served.ensures.step c.serve-served.ensures.platform c.cite_invariant.ensures.table c.harts-most.ensures.value c.harts-most.ensures.most
          c.wake_all-woken.ensures.state c.wake_all-woken.ensures.marks (c.new_lists-lists.ensures (asked_in (call_of trap.registers)) c.requires.creation)
          c.in-Ok.ensures.words gives c.in-Ok.ensures.control wrote.1,
      wrote.2,
    )

pub returns-in-Err-clause-answered : goal.returns-in-Err-clause-answered
returns-in-Err-clause-answered g c = λ before.
    let trap = c.args.trap.now in
    let said = c.serve-served.result in
    let gives = c.words_given-given.ensures ∙ ap (λ (w : World). words_given w c.world.result trap.host) c.world-before.ensures.value
    ∙ ap (λ (w : World). words_given ((bare c.args.core.now).worlds trap.hart) w trap.host) c.world.ensures.value in
    let now = bare c.wake_all-woken.new.core in
    call_unanswered c.in-Err.fault (IsAnswer now c.words_given-given.result trap.hart said.answer said.zero c.wake_all-woken.result c.new_lists-lists.result
    c.serve-served.new.changes) trap said.answer (bare c.args.core.now) now before _ _
    (λ bytes is. call_answered (bare c.args.core.now) (bare c.serve-served.new.self) (bare c.wake_all-woken.new.core) trap c.serve-served.new.changes _
    said.answer said.zero c.wake_all-woken.result c.new_lists-lists.result c.words_given-given.result c.harts-most.result bytes c.requires.call
    c.serve-served.ensures.step c.serve-served.ensures.platform c.cite_invariant.ensures.table c.harts-most.ensures.value c.harts-most.ensures.most
    c.wake_all-woken.ensures.state c.wake_all-woken.ensures.marks (c.new_lists-lists.ensures (asked_in (call_of trap.registers)) c.requires.creation)
    c.in-Err.ensures.words gives c.in-Err.ensures.control is) c.in-Err.ensures.bytes
