use Rattle.std.proofs.Common.{[], ◌∷◌, append_assoc, append-nil, subst, sym}
use Rattle.std.proofs.Math.ListN.{drop_of_length-le}
use Rattle.register_audit.specs.Differences.{AreOdd, end}
use Rattle.register_audit.proofs.Odd.{pass_it, take_it}
use Rattle.register_audit.proofs.differences.odd_among.Goals as goal
use Rattle.register_audit.proofs.differences.odd_among.Goals.{then-is_odd+in_ok-push, else-is_odd}

pub loop-stretch-preserved : goal.loop-stretch-preserved
loop-stretch-preserved c =
    let all = c.args.all.now in
    let i = c.loop-stretch.stretch-index in
    let less = c.loop-stretch-test.true in
    elim c.if-is_odd.branch [
      | then-is_odd+in_ok-push w ↦
          rw w.odd-is
          (λ rest are.
          let whole = c.loop-stretch.invariant (_ ∷ rest) (take_it all i _ rest less (c.is_odd.ensures.odd w.if-is_odd.true) are) in
          rw w.in_ok-push.ensures.items (subst (λ xs. AreOdd all xs) (sym (append_assoc c.loop-stretch.odd.items _ rest)) whole))
      | else-is_odd w ↦
          rw w.odd-is
          (λ rest are. c.loop-stretch.invariant rest (pass_it all i _ rest less (c.is_odd.ensures.same w.if-is_odd.false) are))
    ]

pub returns : goal.returns
returns c =
    let none = drop_of_length-le c.args.all.now {i = c.loop-stretch.stretch-index} c.loop-stretch-test.false in
    subst (λ xs. AreOdd c.args.all.now xs) (append-nil c.loop-stretch.odd.items) (c.loop-stretch.invariant [] (rw none end))
