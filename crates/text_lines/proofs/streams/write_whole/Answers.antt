use Rattle.std.proofs.Common.{ℕ, List, length, take, drop, ◌≡◌, ◌-◌, arith}
use Rattle.std.proofs.lemmas.Grind.{common_steps}
use Rattle.std.proofs.lemmas.List.{take-append-drop}
use Rattle.std.proofs.lemmas.Bool.{ne_eqb}
use Rattle.text_lines.specs.Writings.{TakesAll, writing}
use Rattle.text_lines.proofs.Writings.{prints_on}
use Rattle.text_lines.proofs.streams.write_whole.Goals as goal

-- `&bytes[n..]` is read as `take (length bytes - n) (drop n bytes)`
rest_from : (i : ℕ) (xs : List ℕ) → take (length xs - i) (drop i xs) ≡ drop i xs
rest_from i xs = grind (arith, common_steps)

pub returns-then-n-gt0 : goal.returns-then-n-gt0
returns-then-n-gt0 g c =
    let n = c.in_ok-n.n in
    let sink = writing g.W.Sink.contents g.W.Sink.failures g.W.Sink.stalls c.args.sink.now c.write.new.self in
    let taken : TakesAll (take n c.args.bytes.now) sink =
    record {
      whole = c.in_ok-n.ensures.bytes;
      well = (
        c.in_ok-n.ensures.failures,
        rw
            (ne_eqb n 0 (λ e. omega (arith, e, c.if-n-gt0.true))) at c.in_ok-n.ensures.stalls,
      );
    } in
    rw (take-append-drop n c.args.bytes.now) at
    (prints_on g.W.Sink.contents g.W.Sink.failures g.W.Sink.stalls c.args.sink.now c.write.new.self c.write_on.new.sink (take n c.args.bytes.now)
    (drop n c.args.bytes.now) c.write_on.result taken (rw (rest_from n c.args.bytes.now) at c.write_on.ensures))
