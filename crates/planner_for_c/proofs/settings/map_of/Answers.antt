use Rattle.std.proofs.Common.{◌≡◌, ◌∙◌, ◌-◌, Err, [], add-zero, ap, length, subst, sym}
use Rattle.planner_for_c.specs.declared.settings.Unset.TheVariants.{Fault}
use Rattle.planner_for_c.specs.Settings.{FaultIn, LeadTo, done, next, here}
use Rattle.planner_for_c.proofs.InTurn.{fault_more, first_of, none_left, shorter_more}
use Rattle.planner_for_c.proofs.settings.map_of.Goals as goal

pub returns-in-Err-Fault-clause-fault : goal.returns-in-Err-Fault-clause-fault
returns-in-Err-Fault-clause-fault c = λ i fault e.
    let place : length c.args.settings.now - length c.loop-rest.rest.now ≡ i = cc in
    let same : c.in-Err-Fault.fault ≡ fault = cc in
    let refused = c.set.ensures.fault fault (c.in-Err-Fault.is ∙ ap (λ x. Err x) c.in-Err-Fault.field-0-is ∙ ap (λ f. Err (Fault f)) same) in
    let split = first_of c.loop-rest.rest.now _ c.in-len1-up.len_at_least in
    let found = c.loop-rest.invariant.fault 0 fault (subst (λ xs. FaultIn c.loop-rest.map xs 0 fault) (sym split) (here refused)) in
    subst (λ k. FaultIn [] c.args.settings.now k fault) (add-zero (length c.args.settings.now - length c.loop-rest.rest.now) ∙ place) found

pub loop-rest-preserved : goal.loop-rest-preserved
loop-rest-preserved c =
    let split = first_of c.loop-rest.rest.now _ c.in-len1-up.len_at_least in
    let sets = c.in-Ok.ensures.done in
    record {
      led = λ runs l. c.loop-rest.invariant.led runs (subst (λ xs. LeadTo c.loop-rest.map xs runs) (sym split) (next sets l));
      fault = fault_more c.args.settings.now c.loop-rest.rest.now _ c.loop-rest.map c.set.new.map c.in-len1-up.len_at_least c.loop-rest.invariant.shorter
          c.loop-rest.invariant.fault sets;
      shorter = shorter_more c.args.settings.now c.loop-rest.rest.now c.loop-rest.invariant.shorter;
    }

pub returns-clause-made : goal.returns-clause-made
returns-clause-made c = c.loop-rest.invariant.led c.loop-rest.map (subst (λ xs. LeadTo c.loop-rest.map xs c.loop-rest.map)
    (sym (none_left c.loop-rest.rest.now c.in_default.len_below)) done)
