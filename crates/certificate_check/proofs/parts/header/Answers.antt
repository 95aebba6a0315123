use Rattle.std.proofs.Common.{◌≡◌, length, drop, ap, sym, ◌∙◌, refl, drop_at, length-append, arith}
use Rattle.certificate_format.specs.Spelling.{header_bytes}
use Rattle.certificate_check.proofs.Grown.{header_grows}
use Rattle.certificate_check.proofs.Windows.{part_read, part_refused}
use Rattle.certificate_check.proofs.parts.header.Goals as goal

pub returns-in-Ok : goal.returns-in-Ok
returns-in-Ok g c =
    let read = c.in-Ok.ensures in
    let split = sym c.held.ensures.value ∙ read.1 in
    let long : length (header_bytes c.in-Ok.header) ≡ c.in-Ok.len = omega
    (arith, ap length read.1, length-append (header_bytes c.in-Ok.header) read.0, read.3) in
    let behind = ap (drop c.in-Ok.len) split ∙ drop_at (header_bytes c.in-Ok.header) read.0 c.in-Ok.len long in
    part_read _ _ _ (header_bytes c.in-Ok.header) read.0 _ c.hold.ensures.reads split
    (record {
      buffer = c.pass.ensures.buffer ∙ behind;
      came = c.pass.ensures.came;
      most = c.pass.ensures.most;
      inflow = c.pass.ensures.inflow;
      remaining = refl;
      failures = refl;
    })
    (λ later. (refl, read.2))

pub returns-in-Err : goal.returns-in-Err
returns-in-Err g c =
    let fault = rw c.held.ensures.value at c.in-Err.ensures in
    part_refused _ _ 10 _ c.hold.ensures.reads c.hold.ensures.enough (λ later which. header_grows _ later c.in-Err.fault which fault)
