use Rattle.std.proofs.Common.{◌≡◌, ℕ, ◌+◌, ◌/◌, ◌<◌, ◌∙◌, true, sym, subst, arith}
use Rattle.std.proofs.lemmas.Grind.{common_steps}
use Rattle.pmp_encoding.specs.declared.pages.PageRange.{PageRange}
use Rattle.measurement.specs.Digests.{blank_page, layout_of}
use Rattle.measurement.proofs.BlankPages.{measured_alike, same_layout}
use Rattle.measurement.proofs.digest.enclave_digest.Goals as goal

pub returns-then-eq : goal.returns-then-eq
returns-then-eq g c =
    let bytes_of = g.P.Pages.bytes_of c.args.pages.now in
    let parts = c.args.parts.now in
    let B : PageRange → Type 0 = λ r. (i : ℕ) → i < r.count → bytes_of (r.first + i) ≡ blank_page in
    let yes : c.are_blank.result ≡ true = grind (arith, common_steps, c.if-not-are_blank.false, c.if-not-are_blank.ensures) in
    let blank : (i : ℕ) → i < parts.text_pages + parts.data_pages → bytes_of (parts.base / 4096 + i) ≡ blank_page = subst B c.private_pages-range.ensures.value
    (c.are_blank.ensures yes) in
    let same : c.in-Some.blank.layout ≡ layout_of parts = same_layout c.in-Some.blank.layout c.layout-layout.result (sym c.if-eq.ensures)
    ∙ c.layout-layout.ensures in
    c.in-Some.blank.taken ∙ measured_alike blank_page bytes_of parts c.in-Some.blank.layout same blank

pub invariant_of-last : goal.invariant_of-last
invariant_of-last g c =
    let bytes_of = g.P.Pages.bytes_of c.args.pages.now in
    let parts = c.args.parts.now in
    let B : PageRange → Type 0 = λ r. (i : ℕ) → i < r.count → bytes_of (r.first + i) ≡ blank_page in
    let yes : c.are_blank.result ≡ true = grind (arith, common_steps, c.if-not-are_blank.false, c.if-not-are_blank.ensures) in
    let blank : (i : ℕ) → i < parts.text_pages + parts.data_pages → bytes_of (parts.base / 4096 + i) ≡ blank_page = subst B c.private_pages-range.ensures.value
    (c.are_blank.ensures yes) in
    record { taken = c.taken-digest.ensures ∙ sym (measured_alike blank_page bytes_of parts c.layout-layout.result c.layout-layout.ensures blank) }
