use Rattle.std.proofs.Common.{◌≡◌, ◌∙◌, ◌≤◌, List, Bool, Option, None, refl, ap, sym, subst}
use Rattle.monitor_core.specs.SetChanges.{changed}
use Rattle.monitor_core.specs.States.{MonitorState}
use Rattle.sbi_decode.specs.declared.world.World.{World}
use Rattle.trap_server.specs.Given.{words_given}
use Rattle.trap_server.specs.Service.{given_at}
use Rattle.trap_server.specs.declared.words.ControlWords.{ControlWords}
use Rattle.trap_server.specs.Answered.{IsAnswer, marks_of, no_answer}
use Rattle.trap_server.specs.Sets.{bare, with_sets}
use Rattle.trap_server.specs.declared.answer.NewLists.TheVariants as lists
use Rattle.trap_server.proofs.Answering.{stop_served}
use Rattle.trap_server.proofs.Said.{says_changes, says_words}
use Rattle.trap_server.proofs.Bare.{answer_with}
use Rattle.trap_server.proofs.Served.{quiet}
use Rattle.trap_server.proofs.service.serve_stop.Goals as goal

pub interrupt-load-requires-clause-awake : goal.interrupt-load-requires-clause-awake
interrupt-load-requires-clause-awake g c = c.requires.awake c.args.trap.now.hart c.requires.hart

pub returns-clause-served : goal.returns-clause-served
returns-clause-served g c =
    let s = bare c.args.core.now in
    let mid = bare c.interrupt-load.new.self in
    let new = bare c.wake_all-woken.new.core in
    let trap = c.args.trap.now in
    let changes = c.interrupt-load.new.changes in
    let platform = c.interrupt-load.ensures.platform in
    let few : mid.table.layout.harts ≤ 4 = subst (λ t. t.harts ≤ 4) (sym platform) (subst (λ n. n ≤ 4) c.harts-most.ensures.value c.harts-most.ensures.most) in
    let given = c.words_given-given.result in
    let gives : given ≡ given_at s new trap = c.words_given-given.ensures
    ∙ ap (λ (w : World). words_given w c.world.result trap.host) c.world-before.ensures.value
    ∙ ap (λ (w : World). words_given (s.worlds trap.hart) w trap.host) c.world.ensures.value in
    λ before. stop_served c.write_answer.result (IsAnswer new given trap.hart no_answer None c.wake_all-woken.result lists.Nothing changes)
    trap s new changes before _ _ c.requires.stop
    (λ bytes is sets.
    let after = changed trap.hart changes sets in
    record {
      mid = with_sets mid after;
      nothing_asked = refl;
      nothing_read = refl;
      step = c.interrupt-load.ensures.step sets;
      woken = ap (λ (m : MonitorState). with_sets m after) c.wake_all-woken.ensures.state;
      goes_on = answer_with new after (given_at s new trap) trap.hart no_answer None (marks_of mid) lists.Nothing changes bytes
          (subst (λ (g : Option ControlWords). IsAnswer new g trap.hart no_answer None (marks_of mid) lists.Nothing changes bytes) gives
          (subst (λ (w : List Bool). IsAnswer new given trap.hart no_answer None w lists.Nothing changes bytes) c.wake_all-woken.ensures.marks is));
    })
    (λ bytes is. (
      says_changes new given trap.hart no_answer None c.wake_all-woken.result lists.Nothing changes bytes is c.write_answer.ensures.words,
      says_words new given trap.hart no_answer None c.wake_all-woken.result lists.Nothing changes bytes c.write_answer.ensures.control is ∙ gives,
    ))
    (quiet mid new c.wake_all-woken.ensures.state few) (ap (λ (x : MonitorState). x.table.layout) c.wake_all-woken.ensures.state ∙ platform)
    c.write_answer.ensures.bytes
