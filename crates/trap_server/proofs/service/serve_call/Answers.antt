use Rattle.std.proofs.Common.{◌∙◌, sym}
use Rattle.trap_server.specs.Sets.{bare}
use Rattle.trap_server.proofs.Answering.{made_measured, made_to_measure, none_asked, nothing_made}
use Rattle.trap_server.proofs.Served.{writes_then}
use Rattle.trap_server.proofs.service.serve_call.Goals as goal

pub returns-in-Err-clause-served : goal.returns-in-Err-clause-served
returns-in-Err-clause-served g c = c.in-Err.ensures.answered _

pub returns-then-not-is_creation-clause-served : goal.returns-then-not-is_creation-clause-served
returns-then-not-is_creation-clause-served g c =
    let wrote = c.in-Ok.ensures.answered in
    nothing_made (bare c.args.core.now) (bare c.answer_call.new.core) c.args.trap.now c.in-Ok.answer wrote.0 _ _ _ wrote.1
    (none_asked _ _ (sym c.is_creation-is_creation.ensures ∙ c.if-not-is_creation.true)) wrote.2

pub returns-in_default-clause-served : goal.returns-in_default-clause-served
returns-in_default-clause-served g c =
    let wrote = c.in-Ok.ensures.answered in
    nothing_made (bare c.args.core.now) (bare c.answer_call.new.core) c.args.trap.now c.in-Ok.answer wrote.0 _ _ _ wrote.1 c.in_default.ensures.none wrote.2

pub measure_made-requires-clause-live : goal.measure_made-requires-clause-live
measure_made-requires-clause-live g c =
    let wrote = c.in-Ok.ensures.answered in
    (made_to_measure (bare c.args.core.now) (bare c.answer_call.new.core) c.args.trap.now c.in-Ok.answer wrote.0 c.in-Some.parts wrote.1
    c.in-Some.ensures.some).0

pub measure_made-requires-clause-parts : goal.measure_made-requires-clause-parts
measure_made-requires-clause-parts g c =
    let wrote = c.in-Ok.ensures.answered in
    (made_to_measure (bare c.args.core.now) (bare c.answer_call.new.core) c.args.trap.now c.in-Ok.answer wrote.0 c.in-Some.parts wrote.1
    c.in-Some.ensures.some).1

pub returns-clause-served : goal.returns-clause-served
returns-clause-served g c =
    let wrote = c.in-Ok.ensures.answered in
    made_measured c.measure_made.result (bare c.args.core.now) (bare c.answer_call.new.core) (bare c.measure_made.new.core) c.args.trap.now
    c.in-Ok.answer wrote.0 c.in-Some.parts _ _ _ _ _ wrote.1 c.in-Some.ensures.some wrote.2 c.measure_made.ensures.measured

pub returns-clause-writes : goal.returns-clause-writes
returns-clause-writes g c = writes_then c.measure_made.result _ _ _ _ _ _ c.in-Ok.ensures.writes c.measure_made.ensures.writes
