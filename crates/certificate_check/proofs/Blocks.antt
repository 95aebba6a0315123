-- The spans of entries are aligned blocks.
use Rattle.std.proofs.Common.{◌≡◌, ℕ, ◌+◌, ◌^◌, ◌<◌, ◌≤◌, List, ⊎_elim, arith, sym, subst, ap}
use Rattle.std.proofs.lemmas.Bool.{cases_lt}
use Rattle.std.proofs.Math.Nat.{pow-le-pow_right}
use Rattle.pmp_encoding.specs.declared.region.Entry.{Entry}
use Rattle.pmp_encoding.proofs.Multiples.{IsMultiple, multiple_from_mod, next_multiple, power_order}
use Rattle.certificate_check.specs.declared.entries.Span.{Span}
use Rattle.certificate_check.specs.Spans.{IsSpanOf, ReadsAs, Covers, AreBlocks, count_in}

-- of two blocks of one size that have a page in common none begins before the other
not_before :
    (e f : Entry) (s t : Span) (page : ℕ) → IsSpanOf e s → IsSpanOf f t → e.region.log2 ≡ f.region.log2 → Covers s page → Covers t page
    → e.region.base < f.region.base → ⊥
not_before e f s t page p q same here there less =
    let m : ℕ = 2 ^ e.region.log2 in
    let a : IsMultiple m e.region.base = multiple_from_mod m e.region.base e.region.block.aligned in
    let b : IsMultiple m f.region.base = subst (λ (k : ℕ). IsMultiple (2 ^ k) f.region.base) (sym same)
    (multiple_from_mod (2 ^ f.region.log2) f.region.base f.region.block.aligned) in
    let gap : e.region.base + 2 ^ e.region.log2 ≤ f.region.base = next_multiple m e.region.base f.region.base a b less in
    let past : page < s.end = here.1 in
    let begun : t.first ≤ page = there.0 in
    omega (arith, p.last, q.first, gap, past, begun)

same_block :
    (e f : Entry) (s t : Span) (page : ℕ) → IsSpanOf e s → IsSpanOf f t → s.size ≡ t.size → Covers s page → Covers t page
    → (s.first ≡ t.first) × (s.end ≡ t.end)
same_block e f s t page p q size here there =
    let same : e.region.log2 ≡ f.region.log2 = omega (arith, p.size, q.size, size) in
    let long : 2 ^ e.region.log2 ≡ 2 ^ f.region.log2 = ap (λ k. 2 ^ k) same in
    ⊎_elim (λ less. absurd (not_before e f s t page p q same here there less))
    (λ more.
    ⊎_elim (λ less. absurd (not_before f e t s page q p (sym same) there here less))
    (λ upto. let base : e.region.base ≡ f.region.base = omega arith in (omega (arith, p.first, q.first, base), omega (arith, p.last, q.last, base, long)))
    (cases_lt f.region.base e.region.base))
    (cases_lt e.region.base f.region.base)

pub blocks_read : (bytes : List ℕ) (spans : ℕ → Span) → ReadsAs bytes spans → AreBlocks spans (count_in bytes)
blocks_read bytes spans reads = record {
  small = λ j less.
      let at = reads j less in
      let inside = at.entry.region.block.inside in
      let most : at.entry.region.log2 ≤ 56 = power_order at.entry.region.log2 56 (omega arith) in
      let size = at.span.size in
      omega (arith, most, size);
  inside = λ j less.
      let at = reads j less in
      let inside = at.entry.region.block.inside in
      let first = at.span.first in
      let some : 2 ^ 12 ≤ 2 ^ at.entry.region.log2 = pow-le-pow_right (omega arith) at.page in
      omega (arith, inside, first, some);
  same = λ i j page a b size here there.
      let p = reads i a in
      let q = reads j b in
      same_block p.entry q.entry (spans i) (spans j) page p.span q.span size here there;
}
