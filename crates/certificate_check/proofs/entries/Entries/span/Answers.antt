-- Each part is that of the span whose number it is.
use Rattle.std.proofs.Common.{◌≡◌, ◌<◌, ◌-◌, arith, sym, subst, ◌∙◌, List, ℕ}
use Rattle.certificate_check.specs.Spans.{IsSpanAt, count_in}
use Rattle.certificate_check.proofs.Spanned.{perm_by_bits, same_span, size_by_pages, span_inside}
use Rattle.certificate_check.proofs.entries.Entries.span.Goals as goal

pub overflow_mul-i : goal.overflow_mul-i
overflow_mul-i c = let less : c.args.i < count_in c.self.inside.bytes.now = subst (λ (xs : List ℕ). c.args.i < count_in xs)
    (sym c.self.view_is) c.requires in let told = c.self.told.0 in omega (arith, less, told)

pub unreachable-requires : goal.unreachable-requires
unreachable-requires c =
    let bytes : List ℕ = c.self.inside.bytes.now in
    let at = c.self.invariant c.args.i (subst (λ (xs : List ℕ). c.args.i < count_in xs) (sym c.self.view_is) c.requires) in
    absurd (let e = sym c.in_default.is ∙ c.from_bits.ensures.back at.0.perm (perm_by_bits bytes c.args.i at.0 at.1) in cc)

pub returns-clause-small : goal.returns-clause-small
returns-clause-small c =
    let bytes : List ℕ = c.self.inside.bytes.now in
    let at = c.self.invariant c.args.i (subst (λ (xs : List ℕ). c.args.i < count_in xs) (sym c.self.view_is) c.requires) in
    let there : IsSpanAt c.args.self.now c.args.i at.0 = subst (λ (xs : List ℕ). IsSpanAt xs c.args.i at.0) c.self.view_is at.1 in
    let size = size_by_pages bytes c.args.i (c.bounds-first.result.end - c.bounds-first.result.first) at.0 at.1
    (omega (arith, c.bounds-first.ensures.first at.0 there, c.bounds-first.ensures.end at.0 there)) in
    omega (arith, size, (span_inside bytes c.args.i at.0 at.1).2)

pub returns-clause-value : goal.returns-clause-value
returns-clause-value c =
    λ spans reads.
    let bytes : List ℕ = c.self.inside.bytes.now in
    let s = spans c.args.i in
    let there = reads c.args.i c.requires in
    let at = subst (λ (xs : List ℕ). IsSpanAt xs c.args.i s) (sym c.self.view_is) there in
    let first = c.bounds-first.ensures.first s there in
    let end = c.bounds-first.ensures.end s there in
    let perm : c.in-Some.perm ≡ s.perm = (let e = sym c.in-Some.is ∙ c.from_bits.ensures.back s.perm (perm_by_bits bytes c.args.i s at) in cc) in
    same_span _ s first end (size_by_pages bytes c.args.i (c.bounds-first.result.end - c.bounds-first.result.first) s at (omega (arith, first, end))) perm
