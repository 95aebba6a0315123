use Rattle.std.proofs.Common.{◌≡◌, ◌+◌, ◌∙◌, ⊎_elim, true, sym, ap, replicate, arith}
use Rattle.std.proofs.lemmas.Bool.{cases_eq}
use Rattle.std.proofs.lemmas.Grind.{common_steps}
use Rattle.measurement.specs.Digests.{blank_page}
use Rattle.measurement.proofs.BlankPages.{all_zero}
use Rattle.measurement.proofs.digest.are_blank.Goals as goal

pub loop-i-preserved : goal.loop-i-preserved
loop-i-preserved g c = λ i l.
    let yes : c.is_blank.result ≡ true = grind (arith, common_steps, c.if-not-is_blank.false, c.if-not-is_blank.ensures) in
    let zeros : c.copy_page.new.into ≡ blank_page = all_zero c.copy_page.new.into (sym c.is_blank.ensures ∙ yes)
    ∙ ap (λ n. replicate n 0) c.copy_page.array_long in
    ⊎_elim
    (λ same. ap (λ n. g.P.Pages.bytes_of c.args.pages.now (c.args.first + n)) same ∙ sym c.copy_page.ensures ∙ zeros)
    (λ differ. c.loop-i.invariant i (omega (arith, l, differ)))
    (cases_eq i c.loop-i.i)
