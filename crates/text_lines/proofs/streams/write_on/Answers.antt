use Rattle.std.proofs.Common.{ℕ, List, length, take, drop, ◌≡◌, ◌-◌, arith, length-drop, rules}
use Rattle.std.proofs.lemmas.Grind.{common_steps}
use Rattle.std.proofs.Math.Seq.{take-add}
use Rattle.std.proofs.lemmas.Bool.{ne_eqb}
use Rattle.text_lines.specs.Writings.{TakesAll, writing}
use Rattle.text_lines.proofs.Writings.{takes_then}
use Rattle.text_lines.proofs.streams.write_on.Goals as goal

-- `&bytes[done..]` is read as `take (length bytes - done) (drop done bytes)`
rest_from : (i : ℕ) (xs : List ℕ) → take (length xs - i) (drop i xs) ≡ drop i xs
rest_from i xs = grind (arith, common_steps)

pub loop-done-preserved : goal.loop-done-preserved
loop-done-preserved g c =
    let bytes = rw (rest_from c.loop-done.done c.args.bytes.now) at c.in_ok-n.ensures.bytes in
    let bound = rw (rest_from c.loop-done.done c.args.bytes.now) at c.in_ok-n.ensures.bound in
    let sink = writing g.W.Sink.contents g.W.Sink.failures g.W.Sink.stalls c.loop-done.sink c.write.new.self in
    let taken : TakesAll (take c.in_ok-n.n (drop c.loop-done.done c.args.bytes.now)) sink =
    record { whole = bytes; well = (c.in_ok-n.ensures.failures, rw (ne_eqb c.in_ok-n.n 0 c.if-n-eq0.false) at c.in_ok-n.ensures.stalls) } in
    record {
      within = omega (arith, bound, length-drop c.loop-done.done c.args.bytes.now);
      taken = rw (take-add c.loop-done.done c.in_ok-n.n c.args.bytes.now)
          (takes_then g.W.Sink.contents g.W.Sink.failures g.W.Sink.stalls c.loop-done.invariant.taken taken);
    }

pub returns-then-n-eq0 : goal.returns-then-n-eq0
returns-then-n-eq0 g c = search rules
