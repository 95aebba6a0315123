-- Chains of spans, each of which ends at or before the next begins.
use Rattle.std.proofs.Common.{length, drop, get_or, ◌≡◌, ℕ, ◌+◌, ◌<◌, ◌≤◌, List, [], ◌∷◌, ◌++◌, ⊎_elim, min, arith, sym, subst, ap, refl, ◌∙◌}
use Rattle.std.proofs.lemmas.Bool.{cases_lt}
use Rattle.std.proofs.lemmas.Grind.{common_steps}
use Rattle.certificate_check.specs.declared.entries.Span.{Span}
use Rattle.certificate_check.specs.Spans.{Decides, AreClear, IsChain, HaveEnded, RiseTo, AreChains}
use Rattle.certificate_check.proofs.Swept.{decided_by}

pub rise_append : (a : ℕ) (xs : List ℕ) (m k : ℕ) → RiseTo a xs m → m ≤ k → RiseTo a (xs ++ k ∷ []) k
rise_append a [] m k r h = (let e : a ≡ m = r in omega arith, omega arith, refl)
rise_append a (x ∷ xs) m k r h = (r.0, (let l : x ≤ m = r.1 in omega arith), rise_append x xs m k r.2 h)

pub chains_append : (spans : ℕ → Span) (a : ℕ) (xs : List ℕ) (m k : ℕ) → AreChains spans a xs m → IsChain spans m k → AreChains spans a (xs ++ k ∷ []) k
chains_append spans a [] m k r chain = (subst (λ (n : ℕ). IsChain spans n k) (sym r) chain, refl)
chains_append spans a (x ∷ xs) m k r chain = (r.0, chains_append spans x xs m k r.1 chain)

-- one more span that begins where all before it have ended
pub chain_grown :
    (spans : ℕ → Span) (from i last first : ℕ) → first ≡ (spans i).first → last ≤ first → IsChain spans from i
    → ((j : ℕ) → from ≤ j → j < i → (spans j).end ≤ last)
    → IsChain spans from (i + 1)
chain_grown spans from i last first is after chain ended j k low less high =
    ⊎_elim (λ below. chain j k low less below)
    (λ over.
    let same : i ≡ k = omega arith in
    let next : first ≡ (spans k).first = is ∙ ap (λ n. (spans n).first) same in
    let end : (spans j).end ≤ last = ended j low (omega arith) in
    omega arith)
    (cases_lt k i)

pub ends_grown :
    (spans : ℕ → Span) (from i last first end : ℕ) → end ≡ (spans i).end → first < end → last ≤ first → ((j : ℕ) → from ≤ j → j < i → (spans j).end ≤ last)
    → (j : ℕ) → from ≤ j → j < i + 1 → (spans j).end ≤ end
ends_grown spans from i last first end is some after ended j low high =
    ⊎_elim (λ below. let before : (spans j).end ≤ last = ended j low below in omega arith)
    (λ over. let same : j ≡ i = omega arith in let own : (spans j).end ≡ end = ap (λ n. (spans n).end) same ∙ sym is in omega arith)
    (cases_lt j i)

-- a chain of one span
pub chain_begun : (spans : ℕ → Span) (i : ℕ) → IsChain spans i (i + 1)
chain_begun spans i j k low less high = absurd (omega arith)

pub ends_begun : (spans : ℕ → Span) (i end : ℕ) → end ≡ (spans i).end → (j : ℕ) → i ≤ j → j < i + 1 → (spans j).end ≤ end
ends_begun spans i end is j low high =
    let same : j ≡ i = omega arith in let own : (spans j).end ≡ end = ap (λ n. (spans n).end) same ∙ sym is in omega arith

-- a list of numbers at a place
pub drop_at : (xs : List ℕ) (i : ℕ) → i < length xs → drop i xs ≡ get_or xs i 0 ∷ drop (i + 1) xs
drop_at xs i h = grind (arith, common_steps)

pub drop_all : (xs : List ℕ) (i : ℕ) → length xs ≤ i → drop i xs ≡ []
drop_all xs i h = grind (arith, common_steps)

-- spans that have ended cover nothing
pub clear_past : (spans : ℕ → Span) (from to page end : ℕ) → AreClear spans from page end → HaveEnded spans from to page → AreClear spans to page end
clear_past spans from to page end clear ended j at below after before covers =
    ⊎_elim (λ less. clear j at less after before covers)
    (λ over. let past : (spans j).end ≤ page = ended j over below in let inside : at < (spans j).end = covers.1 in omega arith)
    (cases_lt j from)

-- the span is the first of the chain that ends after the page
abbrev pub IsNextInChain : (ℕ → Span) → ℕ → ℕ → ℕ → Span → Type 0
IsNextInChain spans from to page s = (i : ℕ) × (from ≤ i) × (i < to) × HaveEnded spans from i page × (s ≡ spans i)

-- the next of a chain covers the page
pub chain_decided :
    (spans : ℕ → Span) (count page end to' from to : ℕ) (s : Span) → IsNextInChain spans from to page s → to ≤ count → s.first ≤ page → page < s.end
    → to' ≡ min end s.end
    → AreClear spans from page end → (at : ℕ) → page ≤ at → at < to' → Decides spans count at s.perm
chain_decided spans count page end to' from to s (i, low, high, ended, is) inside first last shorter clear =
    decided_by spans count page end to' i s is (omega arith) first last shorter (clear_past spans from i page end clear ended)

-- the next of a chain begins later, up to where it begins
pub chain_clear_later :
    (spans : ℕ → Span) (page end to' from to : ℕ) (s : Span) → IsNextInChain spans from to page s → IsChain spans from to → s.first < s.end
    → to' ≡ min end s.first
    → AreClear spans from page end → AreClear spans to page to'
chain_clear_later spans page end to' from to s (i, low, high, ended, is) chain some shorter clear j at below after before covers =
    ⊎_elim (λ less. clear_past spans from i page end clear ended j at less after (omega arith) covers)
    (λ over.
    ⊎_elim
    (λ more.
    let gap : (spans i).end ≤ (spans j).first = chain i j low more below in
    let e : s.end ≡ (spans i).end = ap (λ (x : Span). x.end) is in
    let c : (spans j).first ≤ at = covers.0 in
    omega arith)
    (λ here.
    let same : j ≡ i = omega arith in
    let f : s.first ≡ (spans j).first = ap (λ (x : Span). x.first) is ∙ ap (λ n. (spans n).first) (sym same) in
    let c : (spans j).first ≤ at = covers.0 in
    omega arith)
    (cases_lt i j))
    (cases_lt j i)
