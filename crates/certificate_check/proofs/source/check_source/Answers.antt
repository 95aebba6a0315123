use Rattle.std.proofs.Common.{◌≡◌, arith, sym, ap, ◌∙◌, Err, Some, None}
use Rattle.std.specs.Prelude.{MatchResult}
use Rattle.permission_map.specs.Runs.{view_of_runs}
use Rattle.text_lines.specs.declared.stream_fault.SourceFault.TheVariants as faults
use Rattle.certificate_check.specs.Certificates.{IsRightWith, RefusalStands}
use Rattle.certificate_check.specs.Windows.{fault_of, stopped_by, StandsIn}
use Rattle.certificate_check.proofs.Windows.{reads_then}
use Rattle.certificate_check.proofs.WholeInputs.{failed_from, fresh_at, judged_from, large_from, memory_from, stopped_failed, stopped_large, stopped_well}
use Rattle.certificate_check.proofs.WholeInputs.{unheld_from, well_from, whole_from}
use Rattle.certificate_check.proofs.source.check_source.Goals as goal

pub returns-in_default-clause-large : goal.returns-in_default-clause-large
returns-in_default-clause-large g c = λ e.
    let is : stopped_by c.read_parts-parts.new.window.inflow ≡ faults.TooLarge = (let s = c.stopped_by.ensures in cc (s, e)) in
    large_from _ _ c.args.most _ c.read_parts-parts.ensures.read (fresh_at _ _ c.new-window.ensures.buffer c.new-window.ensures.came
    (c.new-window.ensures.most ∙ c.from.ensures) c.new-window.ensures.inflow) (stopped_large _ is)

pub returns-in_default-clause-failed : goal.returns-in_default-clause-failed
returns-in_default-clause-failed g c = λ e.
    let is : stopped_by c.read_parts-parts.new.window.inflow ≡ faults.Read = (let s = c.stopped_by.ensures in cc (s, e)) in
    failed_from _ _ c.args.most _ c.read_parts-parts.ensures.read (fresh_at _ _ c.new-window.ensures.buffer c.new-window.ensures.came
    (c.new-window.ensures.most ∙ c.from.ensures) c.new-window.ensures.inflow) (stopped_failed _ is)

pub returns-in_default-clause-memory : goal.returns-in_default-clause-memory
returns-in_default-clause-memory g c = λ e.
    let is : stopped_by c.read_parts-parts.new.window.inflow ≡ faults.Memory = (let s = c.stopped_by.ensures in cc (s, e)) in
    memory_from _ _ c.args.most (c.read_parts-parts.ensures.unheld (unheld_from _ (sym c.found_in.ensures ∙ c.in_default.is)))
    (fresh_at _ _ c.new-window.ensures.buffer c.new-window.ensures.came (c.new-window.ensures.most ∙ c.from.ensures) c.new-window.ensures.inflow)
    (omega (arith, c.ranges.most)) is

pub returns-in_default-clause-well : goal.returns-in_default-clause-well
returns-in_default-clause-well g c = λ other.
    well_from _ _ c.args.most _ c.read_parts-parts.ensures.read (fresh_at _ _ c.new-window.ensures.buffer c.new-window.ensures.came
    (c.new-window.ensures.most ∙ c.from.ensures) c.new-window.ensures.inflow)
    (stopped_well c.read_parts-parts.new.window.inflow (λ e. other (ap (λ x. Err x) (c.stopped_by.ensures ∙ e))))

pub returns-in-None-clause-whole : goal.returns-in-None-clause-whole
returns-in-None-clause-whole g c =
    let all = reads_then _ _ _ _ _ (λ left rest. MatchResult c.read_parts-parts.result (IsRightWith (view_of_runs c.args.map.now) left)
    (StandsIn (RefusalStands (view_of_runs c.args.map.now) left)))
    c.read_parts-parts.ensures.read c.drain.ensures.reads (λ left mid rest p q. p)
    in
    let none : fault_of c.drain.new.self.inflow ≡ None = sym c.fault.ensures ∙ c.in-None.is in
    let whole = whole_from _ _ c.args.most _ all (fresh_at _ _ c.new-window.ensures.buffer c.new-window.ensures.came
    (c.new-window.ensures.most ∙ c.from.ensures) c.new-window.ensures.inflow) (omega (arith, c.ranges.most)) none c.drain.ensures.closed in
    let found = judged_from (view_of_runs c.args.map.now) whole.0 c.read_parts-parts.result c.in-Some.found (sym c.found_in.ensures ∙ c.in-Some.is) whole.4 in
    (whole.0, whole.1, whole.2, whole.3, found)

pub returns-in-None-clause-well : goal.returns-in-None-clause-well
returns-in-None-clause-well g c = λ other.
    let all = reads_then _ _ _ _ _ (λ left rest. MatchResult c.read_parts-parts.result (IsRightWith (view_of_runs c.args.map.now) left)
    (StandsIn (RefusalStands (view_of_runs c.args.map.now) left)))
    c.read_parts-parts.ensures.read c.drain.ensures.reads (λ left mid rest p q. p)
    in
    let none : fault_of c.drain.new.self.inflow ≡ None = sym c.fault.ensures ∙ c.in-None.is in
    well_from _ _ c.args.most _ all (fresh_at _ _ c.new-window.ensures.buffer c.new-window.ensures.came
    (c.new-window.ensures.most ∙ c.from.ensures) c.new-window.ensures.inflow) (λ e. let is = sym none ∙ e in cc is)

pub returns-in-Some-fault-clause-large : goal.returns-in-Some-fault-clause-large
returns-in-Some-fault-clause-large g c = λ e.
    let all = reads_then _ _ _ _ _ (λ left rest. MatchResult c.read_parts-parts.result (IsRightWith (view_of_runs c.args.map.now) left)
    (StandsIn (RefusalStands (view_of_runs c.args.map.now) left)))
    c.read_parts-parts.ensures.read c.drain.ensures.reads (λ left mid rest p q. p)
    in
    let is : fault_of c.drain.new.self.inflow ≡ Some faults.TooLarge = (let s = c.fault.ensures in let i = c.in-Some-fault.is in cc (s, i, e)) in
    large_from _ _ c.args.most _ all (fresh_at _ _ c.new-window.ensures.buffer c.new-window.ensures.came
    (c.new-window.ensures.most ∙ c.from.ensures) c.new-window.ensures.inflow) is

pub returns-in-Some-fault-clause-failed : goal.returns-in-Some-fault-clause-failed
returns-in-Some-fault-clause-failed g c = λ e.
    let all = reads_then _ _ _ _ _ (λ left rest. MatchResult c.read_parts-parts.result (IsRightWith (view_of_runs c.args.map.now) left)
    (StandsIn (RefusalStands (view_of_runs c.args.map.now) left)))
    c.read_parts-parts.ensures.read c.drain.ensures.reads (λ left mid rest p q. p)
    in
    let is : fault_of c.drain.new.self.inflow ≡ Some faults.Read = (let s = c.fault.ensures in let i = c.in-Some-fault.is in cc (s, i, e)) in
    failed_from _ _ c.args.most _ all (fresh_at _ _ c.new-window.ensures.buffer c.new-window.ensures.came
    (c.new-window.ensures.most ∙ c.from.ensures) c.new-window.ensures.inflow) is

pub returns-in-Some-fault-clause-well : goal.returns-in-Some-fault-clause-well
returns-in-Some-fault-clause-well g c = λ other.
    let all = reads_then _ _ _ _ _ (λ left rest. MatchResult c.read_parts-parts.result (IsRightWith (view_of_runs c.args.map.now) left)
    (StandsIn (RefusalStands (view_of_runs c.args.map.now) left)))
    c.read_parts-parts.ensures.read c.drain.ensures.reads (λ left mid rest p q. p)
    in
    well_from _ _ c.args.most _ all (fresh_at _ _ c.new-window.ensures.buffer c.new-window.ensures.came
    (c.new-window.ensures.most ∙ c.from.ensures) c.new-window.ensures.inflow)
    (λ e. other (let s = c.fault.ensures in let i = c.in-Some-fault.is in cc (s, i, e)))
