use Rattle.std.proofs.Common.{length, take, drop, take-append-drop, refl, sym, arith, ◌∙◌}
use Rattle.certificate_check.proofs.Windows.{count_on, passed, reads_thrice}
use Rattle.certificate_check.proofs.window.Window.drain.Goals as goal

pub loop-preserved : goal.loop-preserved
loop-preserved g c =
    let n = length c.held.result.now in
    let all = c.loop.self.buffer in
    let here = passed _ _ (take n all) (drop n all) (sym (take-append-drop n all))
    (record {
      buffer = c.pass.ensures.buffer;
      came = c.pass.ensures.came;
      most = c.pass.ensures.most;
      inflow = c.pass.ensures.inflow;
      remaining = refl;
      failures
          = refl;
    })
    in
    record {
      reads = reads_thrice _ _ _ _ _ _ _ _ c.loop.invariant.reads here c.read_more.ensures.reads (λ left one two rest p q r. tt);
      most = c.read_more.ensures.reads.most ∙ c.pass.ensures.most ∙ c.loop.invariant.most;
      more = λ e.
          let before = sym c.pass.ensures.inflow ∙ c.read_more.ensures.open e in
          count_on c.loop.counter c.loop.self.came c.pass.new.self.came c.read_more.new.self.came c.args.self.now.most
          (c.loop.invariant.more before) c.pass.ensures.came (c.read_more.ensures.came e)
          (let t = c.loop-test.true in omega (arith, t)) c.requires;
      few = λ some e. c.read_more.ensures.few e;
    }
