use Rattle.std.proofs.Common.{◌∙◌, ap, subst}
use Rattle.sbi_decode.specs.declared.world.World.{World}
use Rattle.trap_server.specs.declared.answer.Head.{Head}
use Rattle.trap_server.specs.Answers.{front_bytes}
use Rattle.trap_server.specs.Answered.{PutsLists}
use Rattle.trap_server.specs.Sets.{bare}
use Rattle.trap_server.proofs.service.put_frame.Goals as goal

pub returns-clause-words : goal.returns-clause-words
returns-clause-words c = record {
  sets = c.requires.sets;
  first = c.put_front.ensures.first;
  second = c.put_front.ensures.second;
  third = c.put_front.ensures.third;
}

pub returns-clause-control : goal.returns-clause-control
returns-clause-control c = c.put_rest.ensures.fits

pub returns-clause-answer : goal.returns-clause-answer
returns-clause-answer c =
    let s = bare c.args.core.now in
    let o = c.args.onward.now in
    let changes = c.args.changes.now in
    let head : World → Head = λ world. record {
      hart = o.hart;
      world = world;
      status = c.status_word.result;
      value = o.answer.value;
      used = c.used.result;
      zero = o.zero;
      woken = o.woken;
      lists = o.lists;
      given = o.given;
    } in
    let front = c.put_front.ensures.bytes ∙ ap (λ (w : World). front_bytes (head w) changes) c.world.ensures.value
    ∙ ap (λ n. front_bytes (record (head (s.worlds o.hart)) { status = n }) changes) c.status_word.ensures in
    record {
      used = c.used.result;
      needs = c.used.ensures;
      front = c.put_rest.ensures.rest.0;
      puts = subst (λ bytes. PutsLists s.table o.answer.value o.lists bytes c.put_rest.ensures.rest.0) front c.put_rest.ensures.rest.1;
      ends = c.put_rest.ensures.rest.2;
    }
