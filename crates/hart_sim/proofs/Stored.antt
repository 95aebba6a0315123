-- A value that is put into a page of one span.
use Rattle.std.proofs.Common.{◌≡◌, ◌≢◌, ℕ, ◌+◌, ◌-◌, ◌/◌, ◌%◌, ◌≤◌, ◌∙◌, inl, inr, if◌then◌else◌, true, false, List, Option, None, Some, is_some, Box, Global}
use Rattle.std.proofs.Common.{cond, arith, refl, ap, ap₂, sym}
use Rattle.std.proofs.lemmas.Bool.Decides.{nat_tests, eqb_tells}
use Rattle.std.proofs.lemmas.Grind.{common_steps}
use Rattle.std.specs.Ordering.{nat_cmp, is_eq}
use Rattle.std.specs.BTreeMap.{get}
use Rattle.std.specs.Prelude.{Result, Ok, Err, OnOk}
use Rattle.pmp_encoding.specs.Registers.{byte_of}
use Rattle.hart_sim.specs.declared.page_span.PageSpan.{PageSpan}
use Rattle.hart_sim.specs.declared.memory.Memory.{Memory}
use Rattle.hart_sim.specs.Memory.{in_range, stored, byte_at}
use Rattle.hart_sim.specs.Groups.{byte_in, page_in, page_on, page_within}

-- an address is in the range of some that lie in its page, by its place there
in_page : (address size a : ℕ) → address % 4096 + size ≤ 4096 → a / 4096 ≡ address / 4096 → in_range (address % 4096) size (a % 4096) ≡ in_range address size a
in_page address size a inside same = grind (arith, nat_tests, common_steps, inside, same)

-- and no address of another page is
in_another : (address size a : ℕ) → address % 4096 + size ≤ 4096 → a / 4096 ≢ address / 4096 → in_range address size a ≡ false
in_another address size a inside other = grind (arith, nat_tests, common_steps, inside, other)

-- a value stands in one page, and all other pages are as they were
stores : (old new : ℕ → Option (List ℕ)) (address size value : ℕ) → address % 4096 + size ≤ 4096
    → ((k : ℕ) → byte_in (new (address / 4096)) k ≡ (if in_range (address % 4096) size k then byte_of value (k - address % 4096) else byte_in
    (old (address / 4096)) k))
    → ((page : ℕ) → page ≢ address / 4096 → new page ≡ old page)
    → (a : ℕ) → byte_in (new (a / 4096)) (a % 4096) ≡ (if in_range address size a then byte_of value (a - address) else byte_in (old (a / 4096)) (a % 4096))
stores old new address size value inside here others a = elim (eqb_tells (a / 4096) (address / 4096)) [
  | inl p ↦
      let place : a % 4096 - address % 4096 ≡ a - address = omega (arith, p.1) in
      ap (λ q. byte_in (new q) (a % 4096)) p.1 ∙ here (a % 4096)
      ∙ ap (λ t. if t then byte_of value (a % 4096 - address % 4096) else byte_in (old (address / 4096)) (a % 4096)) (in_page address size a inside p.1)
      ∙ ap₂ (λ n q. if in_range address size a then byte_of value n else byte_in (old q) (a % 4096)) place (sym p.1)
  | inr p ↦
      ap (λ page. byte_in page (a % 4096)) (others (a / 4096) p.1)
      ∙ ap (λ t. if t then byte_of value (a - address) else byte_in (old (a / 4096)) (a % 4096)) (sym (in_another address size a inside p.1))
]

-- another page is in another span, or at another place of the same
apart : (page other : ℕ) → other ≢ page → other / 4096 ≡ page / 4096 → other % 4096 ≢ page % 4096
apart page other differs same = λ e. differs (omega (arith, same, e))

is_there : (g other : ℕ) → other ≡ g → is_eq (nat_cmp g other) ≡ true
is_there g other same = grind (arith, nat_tests, common_steps, same)

is_elsewhere : (g other : ℕ) → other ≢ g → is_eq (nat_cmp g other) ≡ false
is_elsewhere g other differs = grind (arith, nat_tests, common_steps, differs)

-- so it is where the value was put into a page of a span, which was there or was not
pub stores_in : (old new : Memory) (before : Option (Box PageSpan Global)) (now : Box PageSpan Global) (address size value : ℕ) → address % 4096 + size ≤ 4096
    → before ≡ get nat_cmp old.spans (address / 4096 / 4096)
    → ((g : ℕ) → get nat_cmp new.spans g ≡ cond (is_eq (nat_cmp (address / 4096 / 4096) g)) (Some now) (get nat_cmp old.spans g))
    → ((k : ℕ) → byte_in (page_on now.value (address / 4096 % 4096)) k
    ≡ (if in_range (address % 4096) size k then byte_of value (k - address % 4096) else byte_in (page_within before (address / 4096 % 4096)) k))
    → ((other : ℕ) → other ≢ address / 4096 % 4096 → page_on now.value other ≡ page_within before other)
    → (a : ℕ) → byte_at new a ≡ stored (byte_at old) address size value a
stores_in old new before now address size value inside there put here others =
    let page = address / 4096 in
    let in_new = λ (g : ℕ) (same : g ≡ page / 4096). put g ∙ ap (λ t. cond t (Some now) (get nat_cmp old.spans g)) (is_there (page / 4096) g same) in
    let in_old = λ (g : ℕ) (same : g ≡ page / 4096). ap (get nat_cmp old.spans) same ∙ sym there in
    let its = ap (λ g. page_within g (page % 4096)) (in_new (page / 4096) refl) in
    let was = ap (λ g. page_within g (page % 4096)) (in_old (page / 4096) refl) in
    stores (page_in old) (page_in new) address size value inside
    (λ k. ap (λ p. byte_in p k) its ∙ here k ∙ ap (λ p. if in_range (address % 4096) size k then byte_of value (k - address % 4096) else byte_in p k) (sym was))
    (λ q differs. elim (eqb_tells (q / 4096) (page / 4096)) [
      | inl p ↦ ap (λ g. page_within g (q % 4096)) (in_new (q / 4096) p.1) ∙ others (q % 4096) (apart page q differs p.1)
          ∙ sym (ap (λ g. page_within g (q % 4096)) (in_old (q / 4096) p.1))
      | inr p ↦ ap (λ g. page_within g (q % 4096)) (put (q / 4096) ∙ ap (λ t. cond t (Some now) (get nat_cmp old.spans (q / 4096)))
          (is_elsewhere (page / 4096) (q / 4096) p.1))
    ])

-- what is not there is `None`
pub absent_is_none : {X : Type 0} (found : Option X) → is_some found ≡ false → None ≡ found
absent_is_none None absent = refl
absent_is_none (Some x) absent = cc

-- what two clauses of an `Ok` give together
pub both : {T E P Q S : Type 0} (r : Result T E) → (P → Q → S) → OnOk r P → OnOk r Q → OnOk r S
both (Ok x) f p q = f p q
both (Err e) f p q = tt
