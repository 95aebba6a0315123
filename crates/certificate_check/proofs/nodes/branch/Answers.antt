use Rattle.std.proofs.Common.{inl, inr, ⊎_elim, arith}
use Rattle.pmp_encoding.specs.declared.perm.Perm.{Perm}
use Rattle.certificate_check.proofs.nodes.branch.Goals as goal

pub returns-in_default-clause-given : goal.returns-in_default-clause-given
returns-in_default-clause-given c =
    λ allowed.
    let large = c.in_default.ensures.large in
    absurd (omega (arith, large.1, allowed.sums large.0))

pub returns-then-are_too_high-clause-given : goal.returns-then-are_too_high-clause-given
returns-then-are_too_high-clause-given c =
    λ allowed.
    let high = c.are_too_high.ensures.high c.if-are_too_high.true in
    let p : Perm = high.0 in
    let q : Perm = high.1 in
    absurd
    (⊎_elim (λ over. omega (arith, over, c.in-Some.ensures.sums p, allowed.same p))
    (λ over. omega (arith, over, c.in-Some.ensures.sums q, allowed.any p q)) high.2)

pub returns-then-are_too_high-clause-fault : goal.returns-then-are_too_high-clause-fault
returns-then-are_too_high-clause-fault c =
    let high = c.are_too_high.ensures.high c.if-are_too_high.true in
    let p : Perm = high.0 in
    let q : Perm = high.1 in (
      (λ r. omega (arith, c.in-Some.ensures.sums r, c.in-Some.ensures.small r)),
      (
        p,
        q,
        ⊎_elim (λ over. inl (omega (arith, over, c.in-Some.ensures.sums p)))
            (λ over. inr (omega (arith, over, c.in-Some.ensures.sums q))) high.2,
      ),
    )

pub returns-clause-allowed : goal.returns-clause-allowed
returns-clause-allowed c = record {
  sums = λ p. omega (arith, c.in-Some.ensures.sums p, c.in-Some.ensures.small p);
  same = λ p. omega (arith, c.in-Some.ensures.sums p, c.are_too_high.ensures.same c.if-are_too_high.false p);
  any = λ p q. omega (arith, c.in-Some.ensures.sums q, c.are_too_high.ensures.any c.if-are_too_high.false p q);
}
