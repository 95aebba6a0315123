use Rattle.std.proofs.Common.{◌≡◌, ◌+◌, ◌++◌, ◌∙◌, ap₂, take, length, length-append, length-take, arith}
use Rattle.std.proofs.KnownBytes.{Consumes-trans}
use Rattle.program_files.proofs.whole.has_more.Goals as goal

pub loop-count-preserved : goal.loop-count-preserved
loop-count-preserved g c =
    let old = c.loop-count.invariant.read in
    let new = take c.in_ok-n.n c.read.new.buf in
    let counted : length new ≡ c.in_ok-n.n = omega (arith, length-take c.in_ok-n.n c.read.new.buf, c.in_ok-n.ensures.bound) in
    record {
      well = c.in_ok-n.ensures.failures ∙ c.loop-count.invariant.well;
      read = (old.0 ++ new, Consumes-trans _ _ _ _ _ old.1 c.in_ok-n.ensures.bytes.0, length-append old.0 new ∙ ap₂ ◌+◌ old.2 counted);
    }
