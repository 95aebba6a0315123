use Rattle.std.proofs.Common.{◌≡◌, ◌∙◌, ap, Ok, Some, None}
use Rattle.sbi_calls.specs.StartAddresses.{answer_of, pair_at}
use Rattle.sbi_calls.proofs.StartLemmas.{first_passed_over, first_put, first_refused, passed_over, put_first, refused}
use Rattle.sbi_calls.proofs.start_address.answer_from.Goals as goal

pub returns-in-Ok-Some-clause-list : goal.returns-in-Ok-Some-clause-list
returns-in-Ok-Some-clause-list c = λ pairs before entries list.
    let decoded : c.decode.result ≡ Ok (Some c.in-Ok-Some.entry) = cc in
    let entry = rw c.cfg_of.ensures at c.decode.ensures.entry in
    let off = rw c.cfg_of.ensures at c.decode.ensures.off in
    c.answer_of.ensures ∙ ap (λ a. answer_of c.in-Ok-Some.entry a c.args.below) c.fetch_at.ensures
    ∙ put_first c.decode.result (pair_at c.args.bank.now c.args.place) pairs c.args.address c.args.below entry off before c.in-Ok-Some.entry
    decoded entries list

pub returns-in-Ok-None-clause-list : goal.returns-in-Ok-None-clause-list
returns-in-Ok-None-clause-list c = λ pairs before entries list.
    let decoded : c.decode.result ≡ Ok None = cc in
    let entry = rw c.cfg_of.ensures at c.decode.ensures.entry in
    let off = rw c.cfg_of.ensures at c.decode.ensures.off in
    passed_over c.decode.result (pair_at c.args.bank.now c.args.place) pairs c.args.address c.args.below entry off before decoded entries list

pub returns-in-Err-clause-list : goal.returns-in-Err-clause-list
returns-in-Err-clause-list c = λ pairs before entries list.
    let entry = rw c.cfg_of.ensures at c.decode.ensures.entry in
    let off = rw c.cfg_of.ensures at c.decode.ensures.off in
    refused c.decode.result (pair_at c.args.bank.now c.args.place) pairs c.args.address c.args.below entry off before c.in-Err.field-0 c.in-Err.is entries list

pub returns-in-Ok-Some-clause-first : goal.returns-in-Ok-Some-clause-first
returns-in-Ok-Some-clause-first c = λ pairs before.
    let decoded : c.decode.result ≡ Ok (Some c.in-Ok-Some.entry) = cc in
    let entry = rw c.cfg_of.ensures at c.decode.ensures.entry in
    let off = rw c.cfg_of.ensures at c.decode.ensures.off in
    let means = rw (c.cfg_of.ensures, decoded) at c.decode.ensures.meaning in
    rw (c.answer_of.ensures, c.fetch_at.ensures)
    (first_put c.decode.result (pair_at c.args.bank.now c.args.place) pairs c.args.address c.args.below entry off before c.in-Ok-Some.entry
    means decoded)

pub returns-in-Ok-None-clause-first : goal.returns-in-Ok-None-clause-first
returns-in-Ok-None-clause-first c = λ pairs before.
    let decoded : c.decode.result ≡ Ok None = cc in
    let entry = rw c.cfg_of.ensures at c.decode.ensures.entry in
    let off = rw c.cfg_of.ensures at c.decode.ensures.off in
    let means = rw (c.cfg_of.ensures, decoded) at c.decode.ensures.meaning in
    first_passed_over c.decode.result (pair_at c.args.bank.now c.args.place) pairs c.args.address c.args.below entry off before means decoded

pub returns-in-Err-clause-first : goal.returns-in-Err-clause-first
returns-in-Err-clause-first c = λ pairs before.
    let entry = rw c.cfg_of.ensures at c.decode.ensures.entry in
    let off = rw c.cfg_of.ensures at c.decode.ensures.off in
    first_refused c.decode.result (pair_at c.args.bank.now c.args.place) pairs c.args.address c.args.below entry off before c.in-Err.field-0
    c.in-Err.is
