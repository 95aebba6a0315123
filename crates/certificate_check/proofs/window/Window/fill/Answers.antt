use Rattle.std.proofs.Common.{arith}
use Rattle.certificate_check.proofs.Windows.{reads_none, stays_on}
use Rattle.certificate_check.proofs.window.Window.fill.Goals as goal

pub loop-init : goal.loop-init
loop-init g c = record { reads = reads_none _; longer = λ e. omega arith }

pub loop-preserved : goal.loop-preserved
loop-preserved g c = record {
  reads = stays_on _ _ _ c.loop.invariant.reads c.read_more.ensures.reads;
  longer = λ e. let a = c.loop.invariant.longer (c.read_more.ensures.open e) in let b = c.read_more.ensures.more e in omega (arith, a, b);
}
