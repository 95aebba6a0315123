-- Where the two permissions differ at some page, no list of those spans gives the runs' view there.
use Rattle.std.proofs.Common.{ℕ, arith, rules, sym, refl, ◌∙◌}
use denote.Enum.Bare.{differs_true}
use Rattle.pmp_encoding.specs.contracts.perm.Perm.{the_type}
use Rattle.certificate_check.proofs.Swept.{one_decided}
use Rattle.certificate_check.proofs.Placed.{places_begun, places_later}
use Rattle.certificate_check.proofs.sweep.agrees_in_chains.Goals as goal

pub returns-then-ne : goal.returns-then-ne
returns-then-ne c =
    λ spans reads. (
      (λ t. absurd (cc)),
      λ all.
          let page : ℕ = c.loop-page.page in
          let here = c.piece_of_chains-given.ensures.value spans reads page (omega arith) c.piece_of_chains-given.ensures.some in
          let there = all page (omega arith) in
          let view = sym (c.loop-page.invariant.same page (omega arith)) ∙ sym (c.runs_from-rest.ensures.same page (omega arith))
          ∙ c.piece_of_runs-wanted.ensures.value page (omega arith) c.piece_of_runs-wanted.ensures.some in
          absurd (differs_true the_type _ _ (sym c.ne.ensures ∙ c.if-ne.true) (one_decided spans _ page _ _ here there ∙ view)),
    )

pub loop-page-init : goal.loop-page-init
loop-page-init c = record {
  inside = omega arith;
  later = c.requires.later;
  same = λ at h. refl;
  places = λ spans reads. places_begun spans c.args.ends.now 0 45 _ c.requires.few refl refl refl;
  given = λ spans reads at less. absurd (omega arith);
}

pub loop-page-preserved : goal.loop-page-preserved
loop-page-preserved c = record {
  inside = omega arith;
  later = c.runs_from-rest.ensures.later;
  same = search rules;
  places = λ spans reads. places_later spans c.args.ends.now c.loop-page.page _ _ (omega arith) (c.piece_of_chains-given.ensures.places spans reads);
  given = search rules;
}
