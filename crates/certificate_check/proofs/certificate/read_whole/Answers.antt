-- A right certificate is read to its end, and where a part is refused its fault stands there.
use Rattle.std.proofs.Common.{◌≡◌, ℕ, ◌++◌, List, sym, subst, refl, ◌∙◌}
use Rattle.permission_map.specs.Runs.{view_of_runs}
use Rattle.certificate_format.specs.Faults.{HeaderFault}
use Rattle.certificate_format.specs.Spelling.{header_bytes}
use Rattle.certificate_check.specs.Certificates.{RefusalStands, in_header, in_entries}
use Rattle.certificate_check.specs.Listed.{IsListed}
use Rattle.certificate_check.proofs.Refused.{refused, refused_again}
use Rattle.certificate_check.proofs.Windows.{of_slice}
use Rattle.certificate_check.proofs.certificate.read_whole.Goals as goal

pub returns-in_err-header-clause-fault : goal.returns-in_err-header-clause-fault
returns-in_err-header-clause-fault c =
    let fault = subst (λ (xs : List ℕ). HeaderFault xs c.in_err-header.field-0.0) c.new-reader.ensures
    ((c.in_err-header.ensures.fault c.in_err-header.field-0.0).0 refl) in
    refused c.from_residual.result c.in_err-header.field-0.0 (RefusalStands (view_of_runs c.args.map.now) c.args.bytes.now) c.from_residual.ensures.1
    (in_header c.in_err-header.field-0.0 fault)

pub returns-in_err-list-clause-fault : goal.returns-in_err-list-clause-fault
returns-in_err-list-clause-fault c =
    let headed : c.args.bytes.now ≡ header_bytes c.in_ok-header.header ++ c.header.new.self = sym c.new-reader.ensures ∙ c.in_ok-header.ensures.read in
    refused_again c.from_residual-in_err-list.result c.in_err-list.field-0.0
    (RefusalStands (view_of_runs c.args.map.now) c.args.bytes.now) c.from_residual-in_err-list.ensures.1
    (in_entries c.in_ok-header.header c.header.new.self c.in_err-list.field-0.0 headed c.in_ok-header.ensures.fits c.in_err-list.ensures.fault)

pub returns-in_err-rest_is_right-clause-fault : goal.returns-in_err-rest_is_right-clause-fault
returns-in_err-rest_is_right-clause-fault c =
    let headed : c.args.bytes.now ≡ header_bytes c.in_ok-header.header ++ c.header.new.self = sym c.new-reader.ensures ∙ c.in_ok-header.ensures.read in
    let list = c.in_ok-list.ensures.read in
    let listed = subst (λ (xs : List ℕ). IsListed c.header.new.self xs list.0) (sym c.rest-rest.ensures) list.1 in
    let at = of_slice _ _ _ c.rest-rest.result.now _ c.in_err-rest_is_right.ensures c.new-window.ensures.buffer c.new-window.ensures.came
    c.new-window.ensures.most c.new-window.ensures.inflow refl refl refl refl in
    refused_again c.from_residual-in_err-rest_is_right.result c.in_err-rest_is_right.field-0.0
    (RefusalStands (view_of_runs c.args.map.now) c.args.bytes.now) c.from_residual-in_err-rest_is_right.ensures.1
    (at.1 c.args.bytes.now list.0 (record {
      behind = c.header.new.self;
      headed = headed;
      small = c.in_ok-header.ensures.fits;
      counted = list.2;
      listed = listed;
      spelled = list.3;
    }))

pub returns-clause-right : goal.returns-clause-right
returns-clause-right c =
    let headed : c.args.bytes.now ≡ header_bytes c.in_ok-header.header ++ c.header.new.self = sym c.new-reader.ensures ∙ c.in_ok-header.ensures.read in
    let list = c.in_ok-list.ensures.read in
    let listed = subst (λ (xs : List ℕ). IsListed c.header.new.self xs list.0) (sym c.rest-rest.ensures) list.1 in
    let at = of_slice _ _ _ c.rest-rest.result.now _ c.in_ok-rest_is_right.ensures c.new-window.ensures.buffer c.new-window.ensures.came
    c.new-window.ensures.most c.new-window.ensures.inflow refl refl refl refl in
    at.1 c.args.bytes.now list.0 (record {
      behind = c.header.new.self;
      headed = headed;
      small = c.in_ok-header.ensures.fits;
      counted = list.2;
      listed = listed;
      spelled = list.3;
    })
