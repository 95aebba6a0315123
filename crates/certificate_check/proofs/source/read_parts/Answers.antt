use Rattle.std.proofs.Common.{◌≡◌, ◌*◌, ◌≤◌, List, ℕ, sym, subst, inl, inr, arith}
use Rattle.permission_map.specs.Runs.{view_of_runs}
use Rattle.certificate_format.specs.Spelling.{SpellsEntries}
use Rattle.certificate_check.specs.Certificates.{IsRightWith, RefusalStands, in_header, in_entries}
use Rattle.certificate_check.specs.Listed.{ListFault}
use Rattle.certificate_check.specs.Refusals.{refusal_of}
use Rattle.certificate_check.specs.Spans.{AreEntries}
use Rattle.certificate_check.specs.declared.stop.Stop.TheVariants.{Refused, Unheld}
use Rattle.certificate_check.proofs.Windows.{reads_as, reads_then, reads_thrice, stands_on, stopped_match}
use Rattle.certificate_check.proofs.source.read_parts.Goals as goal

pub returns-in_err-header-clause-read : goal.returns-in_err-header-clause-read
returns-in_err-header-clause-read g c =
    reads_as _ _ _ _ c.in_err-header.ensures (λ left rest fault.
    stopped_match c.from_residual.result (Refused (refusal_of c.in_err-header.field-0.0)) (IsRightWith (view_of_runs c.args.map.now) left)
    (RefusalStands (view_of_runs c.args.map.now) left) c.from_residual.ensures.1
    (in_header c.in_err-header.field-0.0 fault))

pub returns-then-from-most-clause-read : goal.returns-then-from-most-clause-read
returns-then-from-most-clause-read g c =
    reads_then _ _ _ _ _ _ c.in_ok-header.ensures c.stop_among.ensures.refused (λ left mid rest head fault.
    stands_on c.stop_among.result (ListFault mid c.in_ok-header.header.count) (RefusalStands (view_of_runs c.args.map.now) left)
    (λ refusal f. in_entries c.in_ok-header.header mid refusal head.0 head.1 f) fault)

pub returns-then-from-most-clause-unheld : goal.returns-then-from-most-clause-unheld
returns-then-from-most-clause-unheld g c = λ e.
    let is : c.stop_among.result ≡ Unheld = cc e in
    reads_then _ _ _ _ _ _ c.in_ok-header.ensures (c.stop_among.ensures.unheld is) (λ left mid rest head listed.
    record { header = c.in_ok-header.header; behind = mid; headed = head.0; why = inr listed })

pub returns-in_err-list-clause-unheld : goal.returns-in_err-list-clause-unheld
returns-in_err-list-clause-unheld g c = λ e.
    let few : 9 * c.in_ok-header.header.count ≤ c.args.window.now.most = (let same = c.in_ok-header.ensures.most in omega
    (arith, same, c.from.ensures, c.most.ensures, c.if-from-most.false)) in
    reads_then _ _ _ _ _ _ c.in_ok-header.ensures c.in_err-list.ensures.read (λ left mid rest head fault.
    record { header = c.in_ok-header.header; behind = mid; headed = head.0; why = inl few })

pub returns-in_err-list-clause-read : goal.returns-in_err-list-clause-read
returns-in_err-list-clause-read g c =
    reads_then _ _ _ _ _ _ c.in_ok-header.ensures c.in_err-list.ensures.read (λ left mid rest head fault.
    stopped_match c.from_residual-in_err-list.result c.in_err-list.field-0.0 (IsRightWith (view_of_runs c.args.map.now) left)
    (RefusalStands (view_of_runs c.args.map.now) left) c.from_residual-in_err-list.ensures.1
    (stands_on c.in_err-list.field-0.0 (ListFault mid c.in_ok-header.header.count) (RefusalStands (view_of_runs c.args.map.now) left)
    (λ refusal f. in_entries c.in_ok-header.header mid refusal head.0 head.1 f) fault))

pub invariant_of-entries : goal.invariant_of-entries
invariant_of-entries g c = subst (λ (xs : List ℕ). AreEntries xs) (sym c.as_slice.ensures.value) c.in_ok-list.ensures.entries

pub returns-in_err-rest_is_right-clause-read : goal.returns-in_err-rest_is_right-clause-read
returns-in_err-rest_is_right-clause-read g c =
    reads_thrice _ _ _ _ _ _ _ _ c.in_ok-header.ensures c.in_ok-list.ensures.read c.in_err-rest_is_right.ensures (λ left one two rest head list last.
    let spelled = subst (λ (xs : List ℕ). SpellsEntries xs list.0) (sym c.as_slice.ensures.value) list.3 in
    stopped_match c.from_residual-in_err-rest_is_right.result (Refused c.in_err-rest_is_right.field-0.0) (IsRightWith (view_of_runs c.args.map.now) left)
    (RefusalStands (view_of_runs c.args.map.now) left) c.from_residual-in_err-rest_is_right.ensures.1
    (last left list.0 (record { behind = one; headed = head.0; small = head.1; counted = list.2; listed = list.1; spelled = spelled })))

pub returns-clause-read : goal.returns-clause-read
returns-clause-read g c =
    reads_thrice _ _ _ _ _ _ _ _ c.in_ok-header.ensures c.in_ok-list.ensures.read c.in_ok-rest_is_right.ensures (λ left one two rest head list last.
    let spelled = subst (λ (xs : List ℕ). SpellsEntries xs list.0) (sym c.as_slice.ensures.value) list.3 in
    record {
      right = last left list.0 (record { behind = one; headed = head.0; small = head.1; counted = list.2; listed = list.1; spelled = spelled });
      behind = one;
      headed = head.0;
      small = head.1;
    })
