use Rattle.std.proofs.Common.{[], ◌∷◌, drop, ap, sym, ◌∙◌, refl}
use Rattle.certificate_format.specs.Tags.{tag_byte}
use Rattle.certificate_check.proofs.Grown.{tag_grows}
use Rattle.certificate_check.proofs.Windows.{part_read, part_refused}
use Rattle.certificate_check.proofs.parts.tag.Goals as goal

pub returns-in-Ok : goal.returns-in-Ok
returns-in-Ok g c =
    let split = sym c.held.ensures.value ∙ c.in-Ok.ensures.1 in
    part_read _ _ _ (tag_byte c.in-Ok.tag ∷ []) c.in-Ok.ensures.0 _ c.hold.ensures.reads split
    (record {
      buffer = c.pass.ensures.buffer ∙ ap (drop 1) split;
      came = c.pass.ensures.came;
      most = c.pass.ensures.most;
      inflow = c.pass.ensures.inflow;
      remaining = refl;
      failures = refl;
    })
    (λ later. refl)

pub returns-in-Err : goal.returns-in-Err
returns-in-Err g c =
    let fault = rw c.held.ensures.value at c.in-Err.ensures in
    part_refused _ _ 1 _ c.hold.ensures.reads c.hold.ensures.enough (λ later which. tag_grows _ later c.in-Err.fault which fault)
