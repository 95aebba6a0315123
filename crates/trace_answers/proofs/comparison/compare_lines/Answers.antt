-- The loop over lines, told of what interprets them.
use Rattle.std.proofs.Common.{◌∙◌, refl, sym}
use Rattle.std.specs.Prelude.{Result, Ok, Err, IfOk}
use Rattle.text_lines.specs.declared.fault.RunFault.{RunFault}
use Rattle.text_lines.proofs.Mapped.{mapped_at, mapped_memory, mapped_reading, mapped_too_long, mapped_writing}
use Rattle.trace_answers.specs.declared.comparison.Comparing.{Comparing}
use Rattle.trace_answers.proofs.FirstDifference.{comparing, compared_all, follows}
use Rattle.trace_answers.proofs.comparison.compare_lines.Goals as goal

if_ok : {A B : Type 0} (r : Result (Unit {0}) RunFault) → (A → B) → IfOk r (λ _. A) → IfOk r (λ _. B)
if_ok (Ok done) f a = f a
if_ok (Err fault) f a = a

pub returns-clause-all : goal.returns-clause-all
returns-clause-all g c = λ k.
    let does = g.I.Interpreter.does in
    rw (c.ended.ensures.lines, c.ended.ensures.first, c.ended.ensures.end)
    (if_ok c.interpret_lines-end.result (compared_all does _ _ _ _ _ _ refl refl)
    (c.interpret_lines-end.ensures.all k))

pub returns-clause-line : goal.returns-clause-line
returns-clause-line g c = λ k n e.
    let does = g.I.Interpreter.does in
    rw c.ended.ensures.lines (mapped_at (λ (c : Comparing _). Unit {0}) (λ (c : Comparing _). c.lines) (comparing does) does _ g.I.Interpreter.refuses
    (follows does) (λ s line h. h) n _ _ _ _ _ _ tt (c.interpret_lines-end.ensures.line k n (sym c.ended.ensures.end ∙ e)))

pub returns-clause-too_long : goal.returns-clause-too_long
returns-clause-too_long g c = λ k e.
    let does = g.I.Interpreter.does in
    rw c.ended.ensures.lines (mapped_too_long (λ (c : Comparing _). Unit {0}) (λ (c : Comparing _). c.lines) (comparing does) does (follows does) _ _ _ _ _ _ tt
    (c.interpret_lines-end.ensures.too_long k (sym c.ended.ensures.end ∙ e)))

pub returns-clause-read : goal.returns-clause-read
returns-clause-read g c = λ k e.
    let does = g.I.Interpreter.does in
    rw c.ended.ensures.lines (mapped_reading (λ (c : Comparing _). Unit {0}) (λ (c : Comparing _). c.lines) (comparing does) does (follows does) _ _ _ _ _ _ tt
    (c.interpret_lines-end.ensures.read k (sym c.ended.ensures.end ∙ e)))

pub returns-clause-write : goal.returns-clause-write
returns-clause-write g c = λ k e.
    let does = g.I.Interpreter.does in
    rw c.ended.ensures.lines (mapped_writing (λ (c : Comparing _). Unit {0}) (λ (c : Comparing _). c.lines) (comparing does) does (follows does) _ _ _ _ _ _ tt
    (c.interpret_lines-end.ensures.write k (sym c.ended.ensures.end ∙ e)))

pub returns-clause-memory : goal.returns-clause-memory
returns-clause-memory g c = λ k e.
    let does = g.I.Interpreter.does in
    rw c.ended.ensures.lines (mapped_memory (λ (c : Comparing _). Unit {0}) (λ (c : Comparing _). c.lines) (comparing does) does _ g.I.Interpreter.starves
    (follows does) (λ s line t h is. is) _ _ _ _ _ _ tt (c.interpret_lines-end.ensures.memory k (sym c.ended.ensures.end ∙ e)))
