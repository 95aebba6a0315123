-- What the checks of create say of the new enclave.
use Rattle.std.proofs.Common.{ℕ, ◌≡◌, ◌∙◌, sym, ap, subst, Some, List, length}
use Rattle.std.proofs.lemmas.Bool.{both_ways}
use Rattle.pmp_encoding.specs.declared.limit.Limit.{Limit}
use Rattle.pmp_encoding.specs.declared.perm.Perm.{Perm}
use Rattle.pmp_encoding.specs.declared.region.Entry.{Entry}
use Rattle.pmp_match.specs.Meaning.{View}
use Rattle.permission_map.specs.Views.{SameView, overwritten}
use Rattle.enclave_table.specs.Enclaves.{EnclaveTable, Live, with_enclave, IsNextId}
use Rattle.measurement.specs.Requests.{parts_of, is_part, ArePartsApart}
use Rattle.enclave_table.specs.Views.{host_view, enclave_view}
use Rattle.platforms.specs.CheckLists.{AllPass}
use Rattle.enclave_table.specs.Refusals.{RefusesBy}
use Rattle.enclave_table.specs.Checks.{create_checks, IsClear}
use Rattle.enclave_table.specs.Fewest.{FitsIn, IsWant, IsListOf}
use Rattle.enclave_table.specs.Create.{fresh, Creates, OutgrowsByCreate}
use Rattle.enclave_table.specs.Tables.{IsSound}
use Rattle.measurement.specs.declared.request.Create.{Create}
use Rattle.enclave_table.specs.declared.enclave.Enclave.{Enclave}
use Rattle.pmp_encoding.specs.declared.pages.PageRange.{PageRange}
use Rattle.enclave_table.specs.declared.refusal.Refusal.{Refusal}
use Rattle.sbi_decode.specs.declared.world.World.{World}
use Rattle.enclave_table.proofs.SameViews.{needs_of}
use Rattle.enclave_table.proofs.Refused.{create_host_want, create_enclave_want}

pub sound_from : (table : EnclaveTable) (world : World) (parts : Create) → AllPass (create_checks table world parts) → IsSound table parts
sound_from table world parts passes =
    let clear : IsClear table parts = passes.1.1.1.1.1.0 in
    record {
      counts = passes.1.0;
      places = passes.1.1.0;
      entry = passes.1.1.1.0;
      in_ram = passes.1.1.1.1.0;
      not_monitor = λ page part. (clear.owned page part).0;
      apart = clear.apart;
    }

pub apart_from :
    (table : EnclaveTable) (world : World) (parts : Create) → AllPass (create_checks table world parts) → (other : ℕ) (f : Enclave) → Live table other f
    → ArePartsApart parts f.parts
apart_from table world parts passes other f live page part part_f =
    let clear : IsClear table parts = passes.1.1.1.1.1.0 in both_ways (is_part f.parts page) ((clear.owned page part).1 other f live) part_f

pub fits_from : (limit : Limit) (view : View) (list : List Entry) → IsListOf limit view list → FitsIn limit view
fits_from limit view list is = (length list, needs_of view list is.fewest, is.room)

pub host_want :
    (digests : Create → List ℕ) (old : EnclaveTable) (world : World) (asked parts : Create) (id : ℕ) (view : View) (refusal : Refusal) → parts ≡ parts_of asked
    → AllPass (create_checks old world parts) → IsNextId old id → SameView view (host_view (with_enclave old id (Some (fresh digests parts))))
    → IsWant old.layout.limit view refusal → RefusesBy (create_checks old world (parts_of asked)) (OutgrowsByCreate digests old asked) refusal
host_want digests old world asked parts id view refusal is passes next same want =
    let P : Create → Type 0 = λ p. AllPass (create_checks old world p) in
    let S : Create → Type 0 = λ p. SameView view (host_view (with_enclave old id (Some (fresh digests p)))) in
    create_host_want digests old world asked id view refusal (subst P is passes) next (subst S is same) want

pub enclave_want :
    (digests : Create → List ℕ) (old : EnclaveTable) (world : World) (asked parts : Create) (limit : Limit) (refusal : Refusal) → parts ≡ parts_of asked
    → limit ≡ old.layout.limit
    → AllPass (create_checks old world parts) → IsWant limit (enclave_view parts) refusal
    → RefusesBy (create_checks old world (parts_of asked)) (OutgrowsByCreate digests old asked) refusal
enclave_want digests old world asked parts limit refusal is same passes want =
    let P : Create → Type 0 = λ p. AllPass (create_checks old world p) in
    let W : Create → Type 0 = λ p. IsWant old.layout.limit (enclave_view p) refusal in
    let L : Limit → Type 0 = λ l. IsWant l (enclave_view parts) refusal in
    create_enclave_want digests old world asked refusal (subst P is passes) (subst W is (subst L same want))

pub creates :
    (digests : Create → List ℕ) (old : EnclaveTable) (world : World) (asked parts : Create) (id : ℕ) (new : EnclaveTable) → parts ≡ parts_of asked
    → AllPass (create_checks old world parts) → IsNextId old id → new ≡ with_enclave old id (Some (fresh digests parts))
    → FitsIn old.layout.limit (host_view (with_enclave old id (Some (fresh digests parts)))) → FitsIn old.layout.limit (enclave_view parts)
    → Creates digests old world asked id new
creates digests old world asked parts id new is passes next added host enclave =
    let P : Create → Type 0 = λ p. AllPass (create_checks old world p) in
    let E : Create → Type 0 = λ p. FitsIn old.layout.limit (enclave_view p) in
    let H : EnclaveTable → Type 0 = λ t. FitsIn t.layout.limit (host_view t) in
    let L : EnclaveTable → Type 0 = λ t. FitsIn t.layout.limit (enclave_view (parts_of asked)) in
    record {
      passes = subst P is passes;
      next = next;
      added = added ∙ ap (λ p. with_enclave old id (Some (fresh digests p))) is;
      host_fits = subst H (sym added) host;
      enclave_fits = subst L (sym added) (subst E is enclave);
    }

-- the pages of a range as they are written
pub along : (view other : View) (range value : PageRange) (p : Perm) → range ≡ value → SameView (overwritten view value.first value.count p) other
    → SameView (overwritten view range.first range.count p) other
along view other range value p is same =
    let P : PageRange → Type 0 = λ r. SameView (overwritten view r.first r.count p) other in subst P (sym is) same
