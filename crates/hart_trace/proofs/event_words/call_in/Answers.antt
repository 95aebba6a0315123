use Rattle.std.proofs.Common.{◌≡◌, ◌+◌, ◌<◌, ◌∙◌, ap, length, arith, sym, Some}
use Rattle.std.proofs.lemmas.Bool.{eqb-false}
use Rattle.text_lines.specs.Columns.{placed_at, words_in}
use Rattle.hart_trace.proofs.Calls.{one_read}
use Rattle.hart_trace.proofs.EventWords.{argument_lacks, argument_read}
use Rattle.hart_trace.proofs.event_words.call_in.Goals as goal

pub returns-in_default-number-clause-fault : goal.returns-in_default-number-clause-fault
returns-in_default-number-clause-fault c =
    let few = c.loop-placed.invariant.few in
    let other = eqb-false _ 8 (sym c.is_full.ensures.value ∙ c.if-is_full.false) in
    let less : length c.loop-placed.numbers.items < 8 = omega (arith, few, other) in
    sym c.loop-placed.invariant.right
    ∙ argument_lacks c.loop-placed.numbers.items c.args.text.now c.loop-placed.end (c.in-Some.placed.before, c.in-Some.placed.word.now) _ less
    c.in-Some.ensures.word (sym c.in_default-number.ensures)
    ∙ ap Some (sym c.fault_at-in_default-number.ensures)

pub loop-placed-preserved : goal.loop-placed-preserved
loop-placed-preserved c =
    let few = c.loop-placed.invariant.few in
    let other = eqb-false _ 8 (sym c.is_full.ensures.value ∙ c.if-is_full.false) in
    let less : length c.loop-placed.numbers.items < 8 = omega (arith, few, other) in
    let text = c.args.text.now in
    let word = c.in-Some.placed.word.now in
    let words = c.in-Some.ensures.word in
    let behind = ap words_in words in
    let read = one_read word (words_in (placed_at text c.in-Some.placed.end)) (words_in (placed_at text c.args.at)) c.loop-placed.numbers.items
    c.push.new.self.items c.in-Some-number.number (sym c.in-Some-number.ensures) c.push.ensures.items
    (rw behind at c.loop-placed.invariant.told) (rw behind at c.loop-placed.invariant.count) in
    let count : length c.push.new.self.items ≡ length c.loop-placed.numbers.items + 1 = omega (arith, c.push.ensures.len) in
    record {
      few = omega (arith, count, less);
      within = c.in-Some.ensures.within;
      told = read.0;
      count = read.1;
      right = argument_read c.loop-placed.numbers.items c.push.new.self.items text c.loop-placed.end c.in-Some.placed.end c.in-Some-number.number
          (c.in-Some.placed.before, word) less count words (sym c.in-Some-number.ensures) c.in-Some.ensures.end
          ∙ c.loop-placed.invariant.right;
    }
