use Rattle.std.proofs.Common.{◌∙◌, ◌≤◌, [], ap, length, sym, arith}
use Rattle.std.proofs.lemmas.Bool.{eqb-false}
use Rattle.hart_trace.proofs.PlainEvents.{last_read, more_read, none_read}
use Rattle.hart_trace.proofs.plain_events.plain_words.Goals as goal

pub returns-in-None : goal.returns-in-None
returns-in-None c =
    let i = c.words.invariant in
    let few : length c.push.new.self.items ≤ 8 = omega (arith, c.push.ensures.len, i.few, eqb-false _ 8 (sym c.is_full.ensures.value ∙ c.if-is_full.false)) in
    last_read c.args.rest.now c.words.left.now c.in_ok-number.behind.now i.read.0 c.words.words.items c.push.new.self c.in_ok-number.number i.read.1
    c.in_ok-number.ensures c.push.ensures.items few

pub words-init : goal.words-init
words-init c = record {
  few = omega (arith, ap length c.requires);
  read = ([], rw c.requires (none_read c.args.rest.now));
}

pub words-preserved : goal.words-preserved
words-preserved c =
    let i = c.words.invariant in
    record {
      few = omega (arith, c.push.ensures.len, i.few, eqb-false _ 8 (sym c.is_full.ensures.value ∙ c.if-is_full.false));
      read = more_read c.args.rest.now c.words.left.now c.in_ok-number.behind.now c.in-Some.next.now i.read.0 c.words.words.items c.push.new.self.items
          c.in_ok-number.number i.read.1 c.in_ok-number.ensures c.in-Some.ensures c.push.ensures.items;
    }
