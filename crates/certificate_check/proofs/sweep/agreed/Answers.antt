-- Where the two permissions differ at some page, the entries do not give the runs' view there.
use Rattle.std.proofs.Common.{◌≡◌, ℕ, ⊎_elim, arith, rules, sym, subst, ◌∙◌}
use Rattle.std.proofs.lemmas.Bool.{cases_lt}
use denote.Enum.Bare.{differs_true}
use Rattle.pmp_encoding.specs.declared.perm.Perm.{Perm}
use Rattle.pmp_encoding.specs.contracts.perm.Perm.{the_type}
use Rattle.permission_map.specs.Runs.{view_of_runs}
use Rattle.certificate_check.specs.Spans.{Decides}
use Rattle.certificate_check.proofs.Swept.{one_decided}
use Rattle.certificate_check.proofs.Opened.{begun_later, ended_later}
use Rattle.certificate_check.proofs.sweep.agreed.Goals as goal

pub returns-then-ne-clause-differs : goal.returns-then-ne-clause-differs
returns-then-ne-clause-differs c =
    λ spans count below blocks are none.
    let page : ℕ = c.loop-page.page in (
      page,
      c.loop-page.invariant.low,
      c.loop-page-test.true,
      λ there.
          let here = c.piece_of_begun-given.ensures.value spans count below blocks
          (begun_later spans count below c.args.from page c.args.slots.now c.loop-page.invariant.low are) none page
          (omega arith) c.piece_of_begun-given.ensures.some in
          let view = sym (c.loop-page.invariant.same page (omega arith)) ∙ sym (c.runs_from-rest.ensures.same page (omega arith))
          ∙ c.piece_of_runs-wanted.ensures.value page (omega arith) c.piece_of_runs-wanted.ensures.some in
          differs_true the_type _ _ (sym c.ne.ensures ∙ c.if-ne.true) (one_decided spans count page _ _ here there ∙ view),
    )

pub loop-page-preserved : goal.loop-page-preserved
loop-page-preserved c = record {
  low = omega arith;
  high = omega arith;
  few = c.piece_of_begun-given.ensures.few;
  ended = ended_later _ c.loop-page.page _ _ (omega arith) c.piece_of_begun-given.ensures.ended;
  later = c.runs_from-rest.ensures.later;
  same = search rules;
  given = λ spans count below blocks are none at after before.
      ⊎_elim (λ less. c.loop-page.invariant.given spans count below blocks are none at after less)
      (λ from.
      let page : ℕ = c.loop-page.page in
      let view : view_of_runs c.args.runs.now at ≡ c.piece_of_runs-wanted.result.perm = sym (c.loop-page.invariant.same at from)
      ∙ sym (c.runs_from-rest.ensures.same at from)
      ∙ c.piece_of_runs-wanted.ensures.value at from (omega arith) in
      let one : c.piece_of_begun-given.result.perm ≡ c.piece_of_runs-wanted.result.perm = search rules in
      subst (λ (p : Perm). Decides spans count at p) (one ∙ sym view)
      (c.piece_of_begun-given.ensures.value spans count below blocks (begun_later spans count below c.args.from page c.args.slots.now c.loop-page.invariant.low
      are) none at from (omega arith)))
      (cases_lt at c.loop-page.page);
}
