use Rattle.std.proofs.Common.{◌≡◌, ◌∙◌, ⊎_elim, sym, ap, false, arith, rules}
use Rattle.std.proofs.lemmas.Bool.{cases_eq, or_from}
use Rattle.std.proofs.lemmas.Option.{same_Some}
use Rattle.permission_map.specs.Runs.{in_range}
use Rattle.enclave_table.specs.Enclaves.{enclave_at}
use Rattle.measurement.specs.Requests.{is_private, is_shared, is_part}
use Rattle.enclave_table.specs.declared.enclave.Enclave.{Enclave}
use Rattle.pmp_encoding.specs.declared.pages.PageRange.{PageRange}
use Rattle.enclave_table.proofs.table.Table.owner.Goals as goal

pub loop-id-preserved : goal.loop-id-preserved
loop-id-preserved c = λ other e low live.
    let here = c.in-Some.enclave in
    let private : is_private here.parts c.args.page ≡ false =
    sym (ap (λ (r : PageRange). in_range r.first r.count c.args.page) c.private_pages.ensures.value) ∙ sym c.has-in-loop-id.ensures ∙ c.if-has-2.false in
    let shared : is_shared here.parts c.args.page ≡ false =
    sym (ap (λ (r : PageRange). in_range r.first r.count c.args.page) c.shared_pages.ensures.value) ∙ sym c.has-in-loop-id-2.ensures ∙ c.if-has-3.false in
    let none : is_part here.parts c.args.page ≡ false = or_from (is_private here.parts c.args.page) (is_shared here.parts c.args.page) private shared in
    ⊎_elim
    (λ same.
    let is : e ≡ here = same_Some e here (sym live ∙ ap (enclave_at c.args.self.now.table.enclaves) same ∙ c.in-Some.ensures.live) in
    ap (λ (d : Enclave). is_part d.parts c.args.page) is ∙ none)
    (λ differ. c.loop-id.invariant other e (omega (arith, low, differ)) live)
    (cases_eq other c.loop-id.id)

pub returns-then-has-3 : goal.returns-then-has-3
returns-then-has-3 c = search rules
