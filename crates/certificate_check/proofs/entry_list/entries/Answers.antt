use Rattle.std.proofs.Common.{◌≡◌, ℕ, ◌+◌, ◌<◌, ◌∷◌, ◌++◌, [], List, length, length-append, arith, sym, subst, refl, ◌∙◌}
use Rattle.certificate_check.specs.Listed.{IsListed}
use Rattle.certificate_check.proofs.InTurn.{listed_append, next_entry, no_entry}
use Rattle.certificate_check.proofs.entry_list.entries.Goals as goal

pub returns-in_err-entry-clause-given : goal.returns-in_err-entry-clause-given
returns-in_err-entry-clause-given c =
    λ es rest listed all.
    let left = c.loop.invariant.given es rest listed all in
    let some : 0 < length left.0 = (let e : length left.0 + c.loop.counter ≡ c.args.count = left.2 in let b = c.loop-test.true in omega arith) in
    let next = next_entry c.loop.reader rest left.0 left.1 some in
    absurd (let e = (c.in_err-entry.ensures.given next.entry next.front next.behind next.split next.spells next.page).0 in cc)

pub loop-preserved : goal.loop-preserved
loop-preserved c =
    let read = c.loop.invariant.read in
    let one = c.in_ok-entry.ensures.read in
    record {
      read = (
        read.0 ++ one.0 ∷ [],
        listed_append c.args.reader.now c.loop.reader c.entry.new.reader one.1 read.0 one.0 read.1 one.2 one.3 one.4,
        length-append read.0 (one.0 ∷ []) ∙ (let e : length read.0 ≡ c.loop.counter = read.2 in omega arith),
      );
      given = λ es rest listed all.
          let left = c.loop.invariant.given es rest listed all in
          let e : length left.0 + c.loop.counter ≡ c.args.count = left.2 in
          let some : 0 < length left.0 = (let b = c.loop-test.true in omega arith) in
          let next = next_entry c.loop.reader rest left.0 left.1 some in
          let new = (c.in_ok-entry.ensures.given next.entry next.front next.behind next.split next.spells next.page).1 in (
            next.later,
            subst (λ (xs : List ℕ). IsListed xs rest next.later) (sym new) next.listed,
            (let f : length next.later + 1 ≡ length left.0 = next.fewer in omega arith),
          );
    }

pub returns-clause-given : goal.returns-clause-given
returns-clause-given c =
    λ es rest listed all.
    let left = c.loop.invariant.given es rest listed all in
    let none : length left.0 ≡ 0 = (let e : length left.0 + c.loop.counter ≡ c.args.count = left.2 in let b = c.loop-test.false in omega arith) in
    (refl, no_entry c.loop.reader rest left.0 left.1 none)
