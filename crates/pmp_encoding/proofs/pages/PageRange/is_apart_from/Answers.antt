use Rattle.std.proofs.Common.{◌≡◌, ◌+◌, ◌<◌, true, false, inl, inr, arith}
use Rattle.std.proofs.lemmas.Bool.{cases_lt}
use Rattle.pmp_encoding.proofs.Apart.{apart_from, behind}
use Rattle.pmp_encoding.proofs.pages.PageRange.is_apart_from.Goals as goal

pub returns-else-ends_by : goal.returns-else-ends_by
returns-else-ends_by c =
    let range = c.args.self in
    let other = c.args.other in
    let not_before : other.first < range.first + range.count =
    elim (cases_lt other.first (range.first + range.count)) [
      | inl before ↦ before
      | inr order ↦ let not : false ≡ true = rw c.if-ends_by.false at (c.ends_by.ensures.1 order) in cc
    ] in (
      (λ yes. λ page mine others. apart_from other.first other.count range.first range.count (c.ends_by-else-ends_by.ensures.0 yes) page others mine),
      (λ apart. c.ends_by-else-ends_by.ensures.1
          (behind range.first range.count other.first other.count (omega (arith, c.if-self-eq0.false)) (omega (arith, c.if-other-eq0.false)) not_before apart)),
    )
