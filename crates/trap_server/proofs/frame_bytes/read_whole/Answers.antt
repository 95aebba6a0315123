use Rattle.std.proofs.Common.{◌≡◌, ◌∙◌, ◌+◌, ◌-◌, rules, arith, length, take, ap, subst}
use Rattle.std.specs.Io.KnownBytes.{Consumes}
use Rattle.std.proofs.KnownBytes.{Consumes-trans}
use Rattle.trap_server.proofs.Filling.{joined}
use borrow.Rule.Slice.PartMut.{put_mid}
use Rattle.trap_server.proofs.frame_bytes.read_whole.Goals as goal

pub loop-done-preserved : goal.loop-done-preserved
loop-done-preserved g c =
    let from = c.loop-done.done in
    let room = length c.loop-done.buffer - from in
    let came = joined from room c.in_ok-n.n c.loop-done.buffer c.read.new.buf c.loop-done.invariant.within c.in_ok-n.ensures.bound in
    record {
      within = search rules;
      size = search rules;
      failures = c.in_ok-n.ensures.failures ∙ c.loop-done.invariant.failures;
      consumed = subst (Consumes _ _) came (Consumes-trans _ _ _ _ _ c.loop-done.invariant.consumed c.in_ok-n.ensures.bytes.0);
    }

pub returns-clause-bytes : goal.returns-clause-bytes
returns-clause-bytes g c =
    let inv = c.loop-done.invariant in
    (inv.size, record { within = inv.within; consumed = inv.consumed; at_end = λ less. absurd (omega (arith, less, c.loop-done-test.false)) })

pub returns-then-n-eq0-clause-bytes : goal.returns-then-n-eq0-clause-bytes
returns-then-n-eq0-clause-bytes g c =
    let inv = c.loop-done.invariant in
    let from = c.loop-done.done in
    let room = length c.loop-done.buffer - from in
    let n = c.in_ok-n.n in
    let came = joined from room n c.loop-done.buffer c.read.new.buf inv.within c.in_ok-n.ensures.bound in
    let same : from + n ≡ from = omega (arith, c.if-n-eq0.true) in (
      search rules,
      record {
        within = search rules;
        consumed = subst (Consumes _ _) (came ∙ ap (λ k. take k (put_mid from room c.loop-done.buffer c.read.new.buf)) same)
            (Consumes-trans _ _ _ _ _ inv.consumed c.in_ok-n.ensures.bytes.0);
        at_end = λ less. c.in_ok-n.ensures.bytes.1 c.if-n-eq0.true (search rules);
      },
    )
