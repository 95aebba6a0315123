-- Places in chains go on with the pages.
use Rattle.std.proofs.Common.{length, get_or, set, ◌≡◌, ◌≢◌, ℕ, suc, ◌+◌, ◌<◌, ◌≤◌, List, replicate, ⊎_elim, max, arith, sym, subst, ap, ◌∙◌}
use Rattle.std.specs.Prelude.{slice_index}
use Rattle.std.proofs.lemmas.Bool.{cases_lt}
use Rattle.std.proofs.lemmas.Grind.{common_steps}
use Rattle.std.proofs.lemmas.List.{get_or-set_same, get_or-set_other}
use Rattle.certificate_check.specs.declared.entries.Span.{Span}
use Rattle.certificate_check.specs.declared.chains.ChainCursor.{ChainCursor}
use Rattle.certificate_check.specs.Spans.{HaveEnded}
use Rattle.certificate_check.specs.Places.{IsPlace, before, stands, start_of, ArePlaces}
use Rattle.certificate_check.proofs.Chained.{IsNextInChain}

pub start_next : (ends : List ℕ) (i : ℕ) → start_of ends (i + 1) ≡ slice_index ends i
start_next ends i = let e : i + 1 ≡ suc i = omega arith in ap (λ n. start_of ends n) e

-- before the chains nothing was read
pub places_begun : (spans : ℕ → Span) (ends : List ℕ) (page n : ℕ) (p : ChainCursor) → length ends ≤ n → p.next ≡ 0 → p.span.first ≡ 0 → p.span.end ≡ 0
    → ArePlaces spans ends page (replicate n p)
places_begun spans ends page n p few first begin none k d less =
    let is : get_or (replicate n p) k d ≡ p = grind (arith, common_steps) in
    subst (λ (x : ChainCursor). IsPlace spans (start_of ends k) (slice_index ends k) page x) (sym is) (before (omega arith) begin none)

-- where the span of a place has ended, all of its chain's before the next have
pub ended_before : (spans : ℕ → Span) (from to page : ℕ) (p : ChainCursor) → IsPlace spans from to page p → p.span.end ≤ page → HaveEnded spans from p.next page
ended_before spans from to page p (before low begin none) past j low' less = absurd (omega arith)
ended_before spans from to page p (stands i next low inside ended is some) past j low' less =
    ⊎_elim (λ below. ended j low' below)
    (λ over.
    let same : j ≡ i = omega arith in
    let end : (spans j).end ≡ p.span.end = ap (λ n. (spans n).end) same ∙ ap (λ (x : Span). x.end) (sym is) in
    omega arith)
    (cases_lt j i)

-- the next span is read
pub place_on :
    (spans : ℕ → Span) (from to page : ℕ) (p : ChainCursor) (s : Span) → IsPlace spans from to page p → p.span.end ≤ page → from ≤ p.next → p.next < to
    → s ≡ spans p.next
    → s.first < s.end → IsPlace spans from to page (record { next = p.next + 1; span = s })
place_on spans from to page p s place past low inside is some = stands p.next (omega arith) low inside (ended_before spans from to page p place past) is some

-- a place is in its chain
pub place_from : (spans : ℕ → Span) (from to page : ℕ) (p : ChainCursor) (n : ℕ) → n ≡ max p.next from → IsPlace spans from to page p
    → IsPlace spans from to page (record { next = n; span = p.span })
place_from spans from to page p n e (before low begin none) = before (omega arith) begin none
place_from spans from to page p n e (stands i next low inside ended is some) = stands i (omega arith) low inside ended is some

-- it stays one as the pages go on
pub place_later : (spans : ℕ → Span) (from to page later : ℕ) (p : ChainCursor) → page ≤ later → IsPlace spans from to page p → IsPlace spans from to later p
place_later spans from to page later p h (before low begin none) = before low begin none
place_later spans from to page later p h (stands i next low inside ended is some) =
    stands i next low inside (λ j low' less. let past : (spans j).end ≤ page = ended j low' less in omega arith) is some

pub places_later :
    (spans : ℕ → Span) (ends : List ℕ) (page later : ℕ) (places : List ChainCursor) → page ≤ later → ArePlaces spans ends page places
    → ArePlaces spans ends later places
places_later spans ends page later places h are k d less = place_later spans (start_of ends k) (slice_index ends k) page later (get_or places k d) h
    (are k d less)

-- a span that ends after the page is the first of its chain that does
pub place_open : (spans : ℕ → Span) (from to page : ℕ) (p : ChainCursor) → IsPlace spans from to page p → page < p.span.end
    → IsNextInChain spans from to page p.span × (p.span.first < p.span.end)
place_open spans from to page p (before low begin none) behind = absurd (omega arith)
place_open spans from to page p (stands i next low inside ended is some) behind = ((i, low, inside, ended, is), some)

-- a span that begins after the page ends after it
pub ahead : (spans : ℕ → Span) (from to page : ℕ) (p : ChainCursor) → IsPlace spans from to page p → page < p.span.first → page < p.span.end
ahead spans from to page p (before low begin none) behind = absurd (omega arith)
ahead spans from to page p (stands i next low inside ended is some) behind = omega arith

-- one place goes on
pub places_set :
    (spans : ℕ → Span) (ends : List ℕ) (page : ℕ) (places : List ChainCursor) (i : ℕ) (p : ChainCursor) → i < length places → ArePlaces spans ends page places
    → IsPlace spans (start_of ends i) (slice_index ends i) page p → ArePlaces spans ends page (set places i p)
places_set spans ends page places i p inside are new k d less =
    ⊎_elim (λ below. other (λ e. absurd (omega arith)))
    (λ over.
    ⊎_elim (λ above. other (λ e. absurd (omega arith)))
    (λ under.
    let same : i ≡ k = omega arith in
    subst (λ (n : ℕ). IsPlace spans (start_of ends n) (slice_index ends n) page (get_or (set places i p) n d)) same
    (subst (λ (x : ChainCursor). IsPlace spans (start_of ends i) (slice_index ends i) page x) (sym (get_or-set_same places i p d inside)) new))
    (cases_lt i k))
    (cases_lt k i)
  where
    other : k ≢ i → IsPlace spans (start_of ends k) (slice_index ends k) page (get_or (set places i p) k d)
    other differ = subst (λ (x : ChainCursor). IsPlace spans (start_of ends k) (slice_index ends k) page x) (sym (get_or-set_other places i k p d differ))
        (are k d less)
