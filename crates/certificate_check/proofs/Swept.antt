-- Pieces of pages over which the first span that covers a page stays the same.
use Rattle.std.proofs.Common.{◌≡◌, ℕ, ◌<◌, ◌≤◌, ⊎_elim, min, arith, sym, subst, ap, refl}
use Rattle.std.proofs.lemmas.Bool.{cases_lt}
use Rattle.pmp_encoding.specs.declared.perm.Perm.TheVariants.{NoAccess}
use Rattle.pmp_encoding.specs.declared.perm.Perm.{Perm}
use Rattle.certificate_check.specs.declared.entries.Span.{Span}
use Rattle.certificate_check.specs.Spans.{Covers, Decides, first, none, AreClear}

-- the span that covers the page decides up to its end, where none before it covers anything
pub decided_by :
    (spans : ℕ → Span) (count page end to i : ℕ) (s : Span) → s ≡ spans i → i < count → s.first ≤ page → page < s.end → to ≡ min end s.end
    → AreClear spans i page end
    → (at : ℕ) → page ≤ at → at < to → Decides spans count at s.perm
decided_by spans count page end to i s is below from over shorter clear at after before =
    let here : Covers (spans i) at = (let f : (spans i).first ≡ s.first = ap (λ (x : Span). x.first) (sym is) in let l : (spans i).end ≡ s.end = ap
    (λ (x : Span). x.end) (sym is) in (omega arith, omega arith)) in
    subst (λ (x : Span). Decides spans count at x.perm) (sym is) (first i below here (λ j less. clear j at less after (omega arith)))

pub decided_none : (spans : ℕ → Span) (count page end : ℕ) → AreClear spans count page end → (at : ℕ) → page ≤ at → at < end → Decides spans count at NoAccess
decided_none spans count page end clear at after before = none (λ j less. clear j at less after before)

-- one permission is decided
pub one_decided : (spans : ℕ → Span) (count page : ℕ) (p q : Perm) → Decides spans count page p → Decides spans count page q → p ≡ q
one_decided spans count page p q (first i below here before) (first j low there over) =
    ⊎_elim (λ less. absurd (over i less here))
    (λ more. ⊎_elim (λ under. absurd (before j under there)) (λ same. let e : i ≡ j = omega arith in ap (λ n. (spans n).perm) e) (cases_lt j i))
    (cases_lt i j)
one_decided spans count page p q (first i below here before) (none never) = absurd (never i below here)
one_decided spans count page p q (none never) (first j low there over) = absurd (never j low there)
one_decided spans count page p q (none never) (none never') = refl
