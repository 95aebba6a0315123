-- The loop fills and decodes place after place.
use Rattle.std.proofs.Common.{◌≡◌, ◌∙◌, ◌/◌, ◌++◌, ◌∷◌, [], refl, ap, sym, length, map, slice_index, take, arith, length-set}
use Rattle.std.proofs.lemmas.List.{take_more, take_more_set, map-append, take_all}
use Rattle.std.proofs.lemmas.Option.{slice_get_read}
use Rattle.pmp_encoding.specs.Extents.{extent_of}
use Rattle.pmp_encoding.proofs.Filled.{filled_zeros, filled_more, filled_all, fresh_word, same_word}
use Rattle.pmp_encoding.proofs.bank.fill.Goals.{then-i-eq0, else-i-eq0}
use Rattle.pmp_encoding.proofs.bank.fill.Goals as goal

pub loop-i-init : goal.loop-i-init
loop-i-init c = record {
  filled = filled_zeros c.args.entries.now c.args.addresses.now c.requires.cleared;
  begun = λ some. refl;
  room = c.told-extents;
  in_order
      = refl;
}

pub loop-i-preserved : goal.loop-i-preserved
loop-i-preserved c =
    let now = c.loop-i.invariant in
    let entry = c.index-entries-i.result in
    let next = slice_get_read c.args.entries.now (length c.args.entries.now) c.loop-i.i entry refl c.loop-i-test.true c.index-entries-i.is in
    let here = c.index-entries-i.is in
    let was : c.if-i-eq0.word ≡ slice_index c.loop-i.words (c.loop-i.i / 8) = elim c.if-i-eq0.branch [
      | then-i-eq0 w ↦ w.word-is ∙ sym (fresh_word c.args.entries.now c.loop-i.words c.loop-i.addresses c.loop-i.i now.filled w.if-i-eq0.true)
      | else-i-eq0 w ↦ w.word-is ∙ now.begun w.if-i-eq0.false
    ] in
    record {
      filled = rw c.encode-cfg.ensures.address
          (filled_more c.args.entries.now c.loop-i.words c.loop-i.addresses c.loop-i.i now.filled
          (omega (arith, c.requires.few, c.loop-i-test.true)) entry next c.with_byte-word.result (c.with_byte-word.ensures.here ∙ c.encode-cfg.ensures.cfg)
          (rw was at c.with_byte-word.ensures.others) c.with_byte-word.ensures.small);
      begun = λ some. same_word c.loop-i.words c.loop-i.i c.with_byte-word.result (omega (arith, now.filled.eight, c.requires.few, c.loop-i-test.true)) some;
      room = length-set c.loop-i.extents c.loop-i.i c.put.new.self ∙ now.room;
      in_order =
          take_more_set c.loop-i.extents c.loop-i.i c.put.new.self (omega (arith, now.room, c.requires.few, c.loop-i-test.true))
          ∙ ap (λ xs. xs ++ c.put.new.self ∷ []) now.in_order
          ∙ ap (λ x. map extent_of (take c.loop-i.i c.args.entries.now) ++ x ∷ []) (c.put.ensures ∙ ap extent_of here)
          ∙ sym (ap (map extent_of) (take_more c.args.entries.now c.loop-i.i entry c.loop-i-test.true)
          ∙ map-append extent_of (take c.loop-i.i c.args.entries.now) _);
    }

pub returns-clause-registers : goal.returns-clause-registers
returns-clause-registers c = filled_all c.args.entries.now c.loop-i.words c.loop-i.addresses c.loop-i.i c.loop-i.invariant.filled (omega arith)

pub returns-clause-in_order : goal.returns-clause-in_order
returns-clause-in_order c =
    let all : c.loop-i.i ≡ length c.args.entries.now = omega (arith, c.loop-i-test.false, c.loop-i.auto.i-end) in
    ap (λ n. take n c.loop-i.extents) (sym all) ∙ c.loop-i.invariant.in_order
    ∙ ap (map extent_of) (ap (λ n. take n c.args.entries.now) all ∙ take_all (length c.args.entries.now) c.args.entries.now (omega arith))
