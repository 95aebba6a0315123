-- Pages of zeros, and what is measured of them.
use Rattle.std.proofs.Common.{◌≡◌, ℕ, ◌+◌, ◌/◌, ◌<◌, ◌∙◌, true, ◌&&◌, ◌++◌, List, [], ◌∷◌, length, replicate, zero, suc, refl, ap, sym, arith}
use Rattle.std.specs.Prelude.{◌==◌}
use Rattle.std.specs.List.{list_all}
use Rattle.std.proofs.lemmas.Bool.{and_parts}
use Rattle.std.proofs.lemmas.Bool.Decides.{nat_tests}
use Rattle.std.proofs.lemmas.Grind.{common_steps}
use Rattle.measurement.specs.declared.measured.Layout.{Layout}
use Rattle.measurement.specs.Measured.{digest_of}
use Rattle.measurement.specs.Digests.{layout_of, measured, pages_from}
use Rattle.measurement.specs.declared.request.Create.{Create}

-- bytes that are all zero
pub all_zero : (xs : List ℕ) → list_all (λ b. b == 0) xs ≡ true → xs ≡ replicate (length xs) 0
all_zero [] h = refl
all_zero (b ∷ xs) h =
    let both = and_parts (b == 0) (list_all (λ c. c == 0) xs) h in
    let here : b ≡ 0 = grind (arith, nat_tests, common_steps, both.0) in
    ap (λ c. c ∷ xs) here ∙ ap (λ ys. 0 ∷ ys) (all_zero xs both.1)

-- two ranges of pages with the same bytes
pub same_pages : (f g : ℕ → List ℕ) (first second count : ℕ) → ((i : ℕ) → i < count → f (first + i) ≡ g (second + i))
    → pages_from f first count ≡ pages_from g second count
same_pages f g first second zero same = refl
same_pages f g first second (suc count) same =
    ap (λ ps. ps ++ (f (first + count) ∷ [])) (same_pages f g first second count (λ i l. same i (omega (arith, l))))
    ∙ ap (λ p. pages_from g second count ++ (p ∷ [])) (same count (omega arith))

-- what is measured of pages that are all alike does not depend on where they lie
pub measured_alike : (page : List ℕ) (pages : ℕ → List ℕ) (parts : Create) (layout : Layout) → layout ≡ layout_of parts
    → ((i : ℕ) → i < parts.text_pages + parts.data_pages → pages (parts.base / 4096 + i) ≡ page)
    → digest_of layout (pages_from (λ i. page) 0 (layout.text_pages + layout.data_pages)) ≡ measured pages parts
measured_alike page pages parts layout is alike =
    ap (λ (l : Layout). digest_of l (pages_from (λ i. page) 0 (l.text_pages + l.data_pages))) is
    ∙ ap (λ ps. digest_of (layout_of parts) ps) (sym (same_pages pages (λ i. page) (parts.base / 4096) 0 (parts.text_pages + parts.data_pages) alike))

-- layouts are the same where their four numbers are
pub same_layout : (a b : Layout) → ((a.text_pages == b.text_pages) && ((a.data_pages == b.data_pages) &&
    ((a.shared_count == b.shared_count) && (a.entry_offset == b.entry_offset)))) ≡ true → a ≡ b
same_layout a b h =
    let p = and_parts (a.text_pages == b.text_pages) _ h in
    let q = and_parts (a.data_pages == b.data_pages) _ p.1 in
    let r = and_parts (a.shared_count == b.shared_count) _ q.1 in
    let text : a.text_pages ≡ b.text_pages = grind (arith, nat_tests, common_steps, p.0) in
    let follows : a.data_pages ≡ b.data_pages = grind (arith, nat_tests, common_steps, q.0) in
    let shared : a.shared_count ≡ b.shared_count = grind (arith, nat_tests, common_steps, r.0) in
    let entry : a.entry_offset ≡ b.entry_offset = grind (arith, nat_tests, common_steps, r.1) in
    λ i. record { text_pages = text i; data_pages = follows i; shared_count = shared i; entry_offset = entry i }
