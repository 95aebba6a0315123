use Rattle.std.proofs.Common.{◌≡◌, ◌∙◌, ◌+◌, ◌-◌, suc, ap, sym, arith}
use Rattle.register_audit.specs.RegisterListings.{set_bytes}
use Rattle.register_audit.proofs.setting.with_word.Goals as goal

pub loop-i-preserved : goal.loop-i-preserved
loop-i-preserved c =
    let i = c.loop-i.i in
    let one : c.args.place + c.args.count - i ≡ suc (c.args.place + c.args.count - (i + 1)) = omega (arith, c.loop-i-test.true) in
    sym (ap (λ n. set_bytes i n c.loop-i.rest c.loop-i.bytes) one) ∙ c.loop-i.invariant
