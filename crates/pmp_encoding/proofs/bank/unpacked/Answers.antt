-- Each entry is put after those before it.
use Rattle.std.proofs.Common.{◌≡◌, ◌∙◌, ◌++◌, ◌∷◌, [], ap, sym, length, take, arith, length-set}
use Rattle.std.proofs.lemmas.List.{take_more, take_more_set, take_all}
use Rattle.pmp_encoding.proofs.bank.unpacked.Goals as goal

pub loop-i-preserved : goal.loop-i-preserved
loop-i-preserved c =
    let now = c.loop-i.invariant in
    let entry = c.index-entries-i.result in
    record {
      room = length-set c.loop-i.list c.loop-i.i c.entry.result ∙ now.room;
      in_order =
          take_more_set c.loop-i.list c.loop-i.i c.entry.result (omega (arith, now.room, c.requires, c.loop-i-test.true))
          ∙ ap (λ xs. xs ++ c.entry.result ∷ []) now.in_order
          ∙ ap (λ x. take c.loop-i.i c.args.entries.now ++ x ∷ []) (c.entry.ensures ∙ c.index-entries-i.is)
          ∙ sym (take_more c.args.entries.now c.loop-i.i entry c.loop-i-test.true);
    }

pub returns-clause-in_order : goal.returns-clause-in_order
returns-clause-in_order c =
    let all : c.loop-i.i ≡ length c.args.entries.now = omega (arith, c.loop-i-test.false, c.loop-i.auto.i-end) in
    ap (λ n. take n c.loop-i.list) (sym all) ∙ c.loop-i.invariant.in_order ∙ ap (λ n. take n c.args.entries.now) all
    ∙ take_all (length c.args.entries.now) c.args.entries.now (omega arith)
