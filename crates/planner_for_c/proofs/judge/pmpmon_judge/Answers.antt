use Rattle.std.proofs.Common.{◌≡◌, ◌∙◌, ap, arith, min, subst}
use Rattle.pmp_encoding.specs.Lists.{MeansList}
use Rattle.pmp_match.specs.Judgement.{Judges}
use Rattle.planner_for_c.specs.Codes.{answer_code, pair_code}
use Rattle.planner_for_c.specs.Judgements.{judged, faulty, unknown}
use Rattle.planner_for_c.specs.Registers.{HasFault, pairs_to}
use Rattle.planner_for_c.proofs.Judged.{crosses, one_judgement}
use Rattle.planner_for_c.proofs.Pairs.{not_listed, one_pair_fault}
use Rattle.planner_for_c.proofs.judge.pmpmon_judge.Goals as goal

pub returns-in_default-clause-judged : goal.returns-in_default-clause-judged
returns-in_default-clause-judged c = unknown c.in_default.ensures.none

pub returns-in-Ok-clause-judged : goal.returns-in-Ok-clause-judged
returns-in-Ok-clause-judged c =
    let count : c.min.result ≡ min c.args.entries 64 = omega (arith, c.min.ensures) in
    let list = subst (λ n. MeansList (pairs_to c.args.registers.now n) c.in-Ok.list.items) count c.in-Ok.ensures.list in
    let own = c.outcome_of.ensures in
    let judges = subst (λ es. Judges es c.in-Some.access own.0) c.deref.ensures.0 own.1 in
    rw (crosses c.outcome_of.result (answer_code own.0) own.2 c.outcome_of.type_inv)
    (judged c.in-Some.access c.in-Ok.list.items own.0 c.in-Some.ensures.some list judges)

pub returns-in-Ok-clause-listed : goal.returns-in-Ok-clause-listed
returns-in-Ok-clause-listed c = λ a entries answer says means judges.
    let count : c.min.result ≡ min c.args.entries 64 = omega (arith, c.min.ensures) in
    let list = subst (λ n. MeansList (pairs_to c.args.registers.now n) c.in-Ok.list.items) count c.in-Ok.ensures.list in
    let own = c.outcome_of.ensures in
    let known = subst (λ es. Judges es c.in-Some.access own.0) c.deref.ensures.0 own.1 in
    crosses c.outcome_of.result (answer_code own.0) own.2 c.outcome_of.type_inv
    ∙ ap answer_code (one_judgement c.args.registers.now (min c.args.entries 64) c.args.access.now c.in-Some.access a c.in-Ok.list.items entries own.0 answer
    c.in-Some.ensures.some says list means known judges)

pub returns-in-Ok-clause-faulty : goal.returns-in-Ok-clause-faulty
returns-in-Ok-clause-faulty c = λ a fault says h.
    let count : c.min.result ≡ min c.args.entries 64 = omega (arith, c.min.ensures) in
    let list = subst (λ n. MeansList (pairs_to c.args.registers.now n) c.in-Ok.list.items) count c.in-Ok.ensures.list in
    absurd (not_listed c.args.registers.now (min c.args.entries 64) c.in-Ok.list.items fault h list)

pub returns-in-Err-clause-judged : goal.returns-in-Err-clause-judged
returns-in-Err-clause-judged c =
    let count : c.min.result ≡ min c.args.entries 64 = omega (arith, c.min.ensures) in
    let own = subst (λ n. HasFault c.args.registers.now n c.in-Err.fault) count c.in-Err.ensures.fault in
    rw (crosses c.code_of.result (pair_code c.in-Err.fault) c.code_of.ensures c.code_of.type_inv)
    (faulty c.in-Some.access c.in-Err.fault c.in-Some.ensures.some own)

pub returns-in-Err-clause-listed : goal.returns-in-Err-clause-listed
returns-in-Err-clause-listed c = λ a entries answer says means judges.
    let count : c.min.result ≡ min c.args.entries 64 = omega (arith, c.min.ensures) in
    let own = subst (λ n. HasFault c.args.registers.now n c.in-Err.fault) count c.in-Err.ensures.fault in
    absurd (not_listed c.args.registers.now (min c.args.entries 64) entries c.in-Err.fault own means)

pub returns-in-Err-clause-faulty : goal.returns-in-Err-clause-faulty
returns-in-Err-clause-faulty c = λ a fault says h.
    let count : c.min.result ≡ min c.args.entries 64 = omega (arith, c.min.ensures) in
    let own = subst (λ n. HasFault c.args.registers.now n c.in-Err.fault) count c.in-Err.ensures.fault in
    crosses c.code_of.result (pair_code c.in-Err.fault) c.code_of.ensures c.code_of.type_inv
    ∙ ap pair_code (one_pair_fault c.args.registers.now (min c.args.entries 64) c.in-Err.fault fault own h)
