use Rattle.std.proofs.Common.{◌≡◌, length, length-append, drop, ap, sym, ◌∙◌, refl, drop_at, arith}
use Rattle.certificate_format.proofs.CostBytes.{length-pair_bytes}
use Rattle.certificate_check.proofs.Grown.{entry_grows}
use Rattle.certificate_check.proofs.Windows.{part_read, part_refused}
use Rattle.certificate_check.proofs.parts.entry_bytes.Goals as goal

pub pass-requires : goal.pass-requires
pass-requires g c =
    let read = c.in-Ok.ensures in
    let long : length c.in-Ok.nine ≡ 9 = ap length read.3.spelled ∙ length-pair_bytes read.3.pair in
    omega (arith, ap length (sym c.held.ensures.value ∙ read.2), length-append c.in-Ok.nine read.1, long)

pub returns-in-Ok : goal.returns-in-Ok
returns-in-Ok g c =
    let read = c.in-Ok.ensures in
    let long : length c.in-Ok.nine ≡ 9 = ap length read.3.spelled ∙ length-pair_bytes read.3.pair in
    let split = sym c.held.ensures.value ∙ read.2 in
    let behind = ap (drop 9) split ∙ drop_at c.in-Ok.nine read.1 9 long in
    part_read _ _ _ c.in-Ok.nine read.1 _ c.hold.ensures.reads split
    (record {
      buffer = c.pass.ensures.buffer ∙ behind;
      came = c.pass.ensures.came;
      most = c.pass.ensures.most;
      inflow = c.pass.ensures.inflow;
      remaining = refl;
      failures = refl;
    })
    (λ later. (read.0, refl, read.3, read.4))

pub returns-in-Err : goal.returns-in-Err
returns-in-Err g c =
    let fault = rw c.held.ensures.value at c.in-Err.ensures in
    part_refused _ _ 9 _ c.hold.ensures.reads c.hold.ensures.enough (λ later which. entry_grows _ later c.in-Err.refusal which fault)
