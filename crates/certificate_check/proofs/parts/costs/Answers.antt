use Rattle.std.proofs.Common.{length, length-append, drop, ap, sym, ◌∙◌, refl, drop_at, arith}
use Rattle.certificate_format.specs.Costs.{cost_of}
use Rattle.certificate_format.specs.Spelling.{costs_bytes}
use Rattle.certificate_format.proofs.CostBytes.{length-costs_bytes}
use Rattle.certificate_check.proofs.Grown.{short_grows}
use Rattle.certificate_check.proofs.Windows.{part_read, part_refused}
use Rattle.certificate_check.proofs.parts.costs.Goals as goal

pub pass-requires : goal.pass-requires
pass-requires g c =
    let costs = costs_bytes (cost_of c.in-Ok.costs) in
    omega (arith, ap length (sym c.held.ensures.value ∙ c.in-Ok.ensures.1), length-append costs c.in-Ok.ensures.0, length-costs_bytes (cost_of c.in-Ok.costs))

pub returns-in-Ok : goal.returns-in-Ok
returns-in-Ok g c =
    let split = sym c.held.ensures.value ∙ c.in-Ok.ensures.1 in
    let behind = ap (drop 24) split ∙ drop_at (costs_bytes (cost_of c.in-Ok.costs)) c.in-Ok.ensures.0 24 (length-costs_bytes (cost_of c.in-Ok.costs)) in
    part_read _ _ _ (costs_bytes (cost_of c.in-Ok.costs)) c.in-Ok.ensures.0 _ c.hold.ensures.reads split
    (record {
      buffer = c.pass.ensures.buffer ∙ behind;
      came = c.pass.ensures.came;
      most = c.pass.ensures.most;
      inflow = c.pass.ensures.inflow;
      remaining = refl;
      failures = refl;
    })
    (λ later. (refl, c.in-Ok.ensures.2))

pub returns-in-Err : goal.returns-in-Err
returns-in-Err g c =
    let fault = rw c.held.ensures.value at c.in-Err.ensures in
    part_refused _ _ 24 _ c.hold.ensures.reads c.hold.ensures.enough (λ later which. short_grows 24 _ later c.in-Err.fault which fault)
