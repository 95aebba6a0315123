use Rattle.std.proofs.Common.{◌≡◌, ◌∙◌, Err, sym, refl, arith}
use Rattle.std.proofs.lemmas.Result.{err_from_is_err_and}
use Rattle.text_lines.specs.declared.fault.RunFault.TheVariants.{Line, TooLong, Read}
use Rattle.text_lines.specs.declared.line_loop.LineRefusal.TheVariants as refusals
use Rattle.text_lines.specs.Faults.{run_fault}
use Rattle.text_lines.specs.LineLoop.{text_of}
use Rattle.text_lines.proofs.Looped.{begins, ends, few_by, few_more, finishes, goes_on, hands, still}
use Rattle.text_lines.proofs.LoopStops.{fault_is_long, fault_is_many, fault_is_device, is_refused, part_of, stops_at, stops_long, stops_past}
use Rattle.text_lines.proofs.LoopStops.{stops_reading, stops_writing, stops_for_memory}
use Rattle.text_lines.proofs.line_loop.interpret_lines.Goals as goal

pub lines-init : goal.lines-init
lines-init g c = record {
  reads = refl;
  writes = refl;
  stalls = refl;
  progress = λ k. begins g.I.Interpreter.does c.args.interpreter.now c.new-reader.result _ _ c.new-reader.ensures.pending c.new-reader.ensures.number
      c.new-reader.ensures.came;
  few = omega arith;
  limit = c.new-reader.ensures.limit;
  number = c.of-number.ensures.digits;
  len = c.of-number.ensures.len;
  keeps = λ k. k;
}

pub write_answer-requires-clause-number : goal.write_answer-requires-clause-number
write_answer-requires-clause-number g c = c.lines.invariant.number

pub write_answer-requires-clause-len : goal.write_answer-requires-clause-len
write_answer-requires-clause-len g c = c.lines.invariant.len

pub returns-in_err-next-clause-line : goal.returns-in_err-next-clause-line
returns-in_err-next-clause-line g c = λ k n e.
    let p = err_from_is_err_and c.from_residual.result c.from_residual.ensures.1 in
    let named : run_fault c.in_err-next.field-0.0 ≡ Line n = cc in
    rw (c.in_err-next.ensures.untouched tt) (stops_long g.I.Interpreter.does g.I.Interpreter.refuses _ _ c.lines.reader c.interpret_next.new.reader
    c.lines.count n _ _ (g.R.Source.remaining c.interpret_next.new.source) _ _
    (still _ _ _ _ _ _ _ _ _ _ (c.lines.invariant.progress k) c.interpret_next.ensures.written) (rw (fault_is_long _ n named) at c.in_err-next.ensures.line)
    (few_by c.lines.reader c.interpret_next.new.reader c.interpret_next.ensures.few c.interpret_next.ensures.limit c.lines.invariant.limit))

pub returns-in_err-next-clause-too_long : goal.returns-in_err-next-clause-too_long
returns-in_err-next-clause-too_long g c = λ k e.
    let p = err_from_is_err_and c.from_residual.result c.from_residual.ensures.1 in
    let named : run_fault c.in_err-next.field-0.0 ≡ TooLong = cc in
    rw (c.in_err-next.ensures.untouched tt) (stops_past g.I.Interpreter.does _ _ c.lines.reader c.interpret_next.new.reader c.lines.count _ _
    (g.R.Source.remaining c.interpret_next.new.source) _ _ (still _ _ _ _ _ _ _ _ _ _ (c.lines.invariant.progress k) c.interpret_next.ensures.written)
    (rw (fault_is_many _ named) at c.in_err-next.ensures.line) c.lines.invariant.limit)

pub returns-in_err-next-clause-read : goal.returns-in_err-next-clause-read
returns-in_err-next-clause-read g c = λ k e.
    let p = err_from_is_err_and c.from_residual.result c.from_residual.ensures.1 in
    let named : run_fault c.in_err-next.field-0.0 ≡ Read = cc in
    rw (c.in_err-next.ensures.untouched tt) (stops_reading g.I.Interpreter.does _ _ c.lines.reader c.interpret_next.new.reader c.lines.count _ _
    (g.R.Source.remaining c.interpret_next.new.source) _ _ (still _ _ _ _ _ _ _ _ _ _ (c.lines.invariant.progress k) c.interpret_next.ensures.written)
    (rw (fault_is_device _ named) at c.in_err-next.ensures.line) (few_by c.lines.reader c.interpret_next.new.reader c.interpret_next.ensures.few
    c.interpret_next.ensures.limit c.lines.invariant.limit))

pub returns-in-None-clause-all : goal.returns-in-None-clause-all
returns-in-None-clause-all g c = λ k.
    rw (rw c.in-None.is at c.in_ok-next.ensures.untouched tt) (finishes g.I.Interpreter.does _ _ c.lines.reader c.interpret_next.new.reader c.lines.count _ _
    (g.R.Source.remaining c.interpret_next.new.source) _ _ (still _ _ _ _ _ _ _ _ _ _ (c.lines.invariant.progress k) c.interpret_next.ensures.written)
    (rw c.in-None.is at c.in_ok-next.ensures.line) (few_by c.lines.reader c.interpret_next.new.reader c.interpret_next.ensures.few
    c.interpret_next.ensures.limit c.lines.invariant.limit))

pub returns-in-Err-NotUnderstood-clause-line : goal.returns-in-Err-NotUnderstood-clause-line
returns-in-Err-NotUnderstood-clause-line g c = λ k n e.
    let next = rw c.in-Some.is at c.in_ok-next.ensures.line in
    let h = hands g.I.Interpreter.does _ _ c.lines.reader c.interpret_next.new.reader c.lines.count _ _ (g.R.Source.remaining c.interpret_next.new.source) _ _
    (still _ _ _ _ _ _ _ _ _ _ (c.lines.invariant.progress k) c.interpret_next.ensures.written) next
    (few_by c.lines.reader c.interpret_next.new.reader c.interpret_next.ensures.few c.interpret_next.ensures.limit c.lines.invariant.limit) in
    let is : c.in-Some.said ≡ Err refusals.NotUnderstood = is_refused c.in-Some.said _ _ c.in-Err-NotUnderstood.is
    (rw c.in-Err-NotUnderstood.is at c.in-Err-NotUnderstood.field-0-is) in
    let comes = rw (c.in-Some.is, is) at c.in_ok-next.ensures.comes (c.lines.invariant.keeps k) in
    let number : c.number.result ≡ n = cc in
    let stops = stops_at g.I.Interpreter.does g.I.Interpreter.refuses _ _ c.interpret_next.new.reader c.lines.count _ _ _ _ h comes.0 in
    rw (comes.1, ← sym c.number.ensures ∙ number) stops

pub returns-in-Err-Memory-clause-memory : goal.returns-in-Err-Memory-clause-memory
returns-in-Err-Memory-clause-memory g c = λ k e.
    let next = rw c.in-Some.is at c.in_ok-next.ensures.line in
    let h = hands g.I.Interpreter.does _ _ c.lines.reader c.interpret_next.new.reader c.lines.count _ _ (g.R.Source.remaining c.interpret_next.new.source) _ _
    (still _ _ _ _ _ _ _ _ _ _ (c.lines.invariant.progress k) c.interpret_next.ensures.written) next
    (few_by c.lines.reader c.interpret_next.new.reader c.interpret_next.ensures.few c.interpret_next.ensures.limit c.lines.invariant.limit) in
    let is : c.in-Some.said ≡ Err refusals.Memory = is_refused c.in-Some.said _ _ c.in-Err-Memory.is (rw c.in-Err-Memory.is at c.in-Err-Memory.field-0-is) in
    let starved = rw (c.in-Some.is, is) at c.in_ok-next.ensures.comes (c.lines.invariant.keeps k) in
    stops_for_memory g.I.Interpreter.does g.I.Interpreter.starves _ _ _ c.interpret_next.new.reader c.lines.count _ _ _ _ h starved

pub returns-in_default-clause-write : goal.returns-in_default-clause-write
returns-in_default-clause-write g c = λ k e.
    let next = rw c.in-Some.is at c.in_ok-next.ensures.line in
    let h = hands g.I.Interpreter.does _ _ c.lines.reader c.interpret_next.new.reader c.lines.count _ _ (g.R.Source.remaining c.interpret_next.new.source) _ _
    (still _ _ _ _ _ _ _ _ _ _ (c.lines.invariant.progress k) c.interpret_next.ensures.written) next
    (few_by c.lines.reader c.interpret_next.new.reader c.interpret_next.ensures.few c.interpret_next.ensures.limit c.lines.invariant.limit) in
    let done = rw (c.in-Some.is, c.in-Ok.is) at c.in_ok-next.ensures.comes (c.lines.invariant.keeps k) in
    let p = part_of (text_of c.in-Ok.answered c.lines.count c.interpret_next.new.answer) _ _ c.in_default.ensures.prints.part in
    stops_writing g.I.Interpreter.does _ _ _ c.interpret_next.new.reader c.lines.count _ _ _ _ _ h
    (text_of c.in-Ok.answered c.lines.count c.interpret_next.new.answer) p.0 p.1 done p.2 p.3 p.4

pub returns-then-has_ended-clause-all : goal.returns-then-has_ended-clause-all
returns-then-has_ended-clause-all g c = λ k.
    let next = rw c.in-Some.is at c.in_ok-next.ensures.line in
    let h = hands g.I.Interpreter.does _ _ c.lines.reader c.interpret_next.new.reader c.lines.count _ _ (g.R.Source.remaining c.interpret_next.new.source) _ _
    (still _ _ _ _ _ _ _ _ _ _ (c.lines.invariant.progress k) c.interpret_next.ensures.written) next
    (few_by c.lines.reader c.interpret_next.new.reader c.interpret_next.ensures.few c.interpret_next.ensures.limit c.lines.invariant.limit) in
    let done = rw (c.in-Some.is, c.in-Ok.is) at c.in_ok-next.ensures.comes (c.lines.invariant.keeps k) in
    ends g.I.Interpreter.does _ _ _ c.interpret_next.new.reader c.lines.count _ _ _ _ _ h
    (text_of c.in-Ok.answered c.lines.count c.interpret_next.new.answer) done c.in-Ok-write_answer.ensures.prints.whole
    (sym c.has_ended.ensures ∙ c.if-has_ended.true)

pub lines-preserved : goal.lines-preserved
lines-preserved g c =
    let next = rw c.in-Some.is at c.in_ok-next.ensures.line in
    let went_well = rw c.in-Some.is at c.in_ok-next.ensures.failures in
    record {
      reads = went_well ∙ c.lines.invariant.reads;
      writes = c.in-Ok-write_answer.ensures.prints.well.0 ∙ c.interpret_next.ensures.writes ∙ c.lines.invariant.writes;
      stalls = c.in-Ok-write_answer.ensures.prints.well.1 ∙ c.interpret_next.ensures.stalls ∙ c.lines.invariant.stalls;
      progress = λ k.
          let h = hands g.I.Interpreter.does _ _ c.lines.reader c.interpret_next.new.reader c.lines.count _ _
          (g.R.Source.remaining c.interpret_next.new.source) _ _ (still _ _ _ _ _ _ _ _ _ _ (c.lines.invariant.progress k) c.interpret_next.ensures.written)
          next (few_by c.lines.reader c.interpret_next.new.reader c.interpret_next.ensures.few c.interpret_next.ensures.limit c.lines.invariant.limit) in
          let done = rw (c.in-Some.is, c.in-Ok.is) at c.in_ok-next.ensures.comes (c.lines.invariant.keeps k) in
          let goes = goes_on g.I.Interpreter.does _ _ _ c.interpret_next.new.reader c.lines.count _ _ _ _ _ h
          (text_of c.in-Ok.answered c.lines.count c.interpret_next.new.answer) done c.in-Ok-write_answer.ensures.prints.whole
          (sym c.has_ended.ensures ∙ c.if-has_ended.false) in
          rw c.in-Ok-write_answer.ensures.counted goes;
      few = few_more _ _ _ _ (text_of c.in-Ok.answered c.lines.count c.interpret_next.new.answer) c.in-Ok-write_answer.ensures.counted c.lines.invariant.few
          next.6.1.number;
      limit = c.interpret_next.ensures.limit ∙ c.lines.invariant.limit;
      number = c.in-Ok-write_answer.ensures.number;
      len = c.in-Ok-write_answer.ensures.len;
      keeps = λ k. c.interpret_next.ensures.keeps (c.lines.invariant.keeps k);
    }

pub returns-in_default-clause-writes : goal.returns-in_default-clause-writes
returns-in_default-clause-writes g c = rw (
  c.interpret_next.ensures.writes ∙ c.lines.invariant.writes,
  c.interpret_next.ensures.stalls
      ∙ c.lines.invariant.stalls,
) at c.in_default.ensures.prints.fails
