use Rattle.std.proofs.Common.{◌∙◌, ◌+◌, ◌-◌, length, refl, subst, sym, Some, None, arith}
use Rattle.std.proofs.lemmas.Bool.{true≢false}
use Rattle.input_files.specs.KeyPlaces.{IsKept, opening_tables}
use Rattle.input_files.proofs.PlacesInRest.{ended, passed, reached}
use Rattle.input_files.proofs.key_places.find.Goals as goal

pub returns-then-has : goal.returns-then-has
returns-then-has c =
    let text = c.args.text.now in
    let word = c.args.word.now in
    let rest = c.loop-rest.rest.now in
    let line = c.first_line.result.0.now in (
      _,
      reached c.args.sought word opening_tables c.loop-rest.tables c.follow.new.self text rest line c.first_line.result.1.now c.loop-rest.invariant.3
          c.first_line.ensures.lines c.follow.ensures.follows (c.has.ensures.0 c.if-has.true),
      subst (λ n. IsKept text word (Some ((length text - length rest) + n)) c.where_word_is.result) c.front_len.ensures.len c.where_word_is.ensures,
    )

pub loop-rest-preserved : goal.loop-rest-preserved
loop-rest-preserved c =
    let text = c.args.text.now in
    let rest = c.loop-rest.rest.now in
    let line = c.first_line.result.0.now in
    let kept = c.loop-rest.invariant in
    let shorter = c.first_line.ensures.shorter in
    let ram = c.follow.ensures.ram in
    let devices = c.follow.ensures.devices in (
      omega (arith, kept.0, shorter),
      omega (arith, kept.1, ram, shorter),
      omega (arith, kept.2, devices, shorter),
      passed c.args.sought c.args.word.now opening_tables c.loop-rest.tables c.follow.new.self text rest line c.first_line.result.1.now kept.0 kept.3
          c.first_line.ensures.lines c.first_line.ensures.length c.follow.ensures.follows
          (λ is. true≢false (sym (c.has.ensures.1 is) ∙ c.if-has.false)),
    )

pub returns : goal.returns
returns c = (
  None,
  c.loop-rest.invariant.3 None (ended c.args.sought c.args.word.now c.loop-rest.tables c.loop-rest.rest.now
      (let empty = c.is_empty.ensures in let none = c.loop-rest-test.false in grind (arith, empty, none))),
  refl,
)
