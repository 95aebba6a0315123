use Rattle.std.proofs.Common.{ℕ, ◌≡◌, ◌∙◌, ◌+◌, ◌/◌, ◌++◌, sym, ap, subst, List, [], ◌∷◌, refl, add-one, arith}
use Rattle.measurement.specs.Progress.{HasMeasured}
use Rattle.measurement.specs.Measured.{digest_of}
use Rattle.measurement.specs.Digests.{layout_of, pages_from}
use Rattle.pmp_encoding.specs.declared.pages.PageRange.{PageRange}
use Rattle.measurement.proofs.digest.taken.Goals as goal

more : (pages : ℕ → List ℕ) (first n : ℕ) → pages_from pages first (n + 1) ≡ pages_from pages first n ++ (pages (first + n) ∷ [])
more pages first n = rw add-one refl

pub loop-i-preserved : goal.loop-i-preserved
loop-i-preserved g c =
    let bytes_of = g.P.Pages.bytes_of c.args.pages.now in
    let first = c.args.parts.now.base / 4096 in
    let begins : c.private_pages-range.result.first ≡ first = ap (λ (r : PageRange). r.first) c.private_pages-range.ensures.value in
    let bytes : c.copy_page.new.into ≡ bytes_of (first + c.loop-i.i) = c.copy_page.ensures ∙ ap (λ n. bytes_of (n + c.loop-i.i)) begins in
    let P : List (List ℕ) → Type 0 = λ pages. HasMeasured c.page.new.self (layout_of c.args.parts.now) pages in
    let all : pages_from bytes_of first c.loop-i.i ++ (c.copy_page.new.into ∷ []) ≡ pages_from bytes_of first (c.loop-i.i + 1) =
    ap (λ b. pages_from bytes_of first c.loop-i.i ++ (b ∷ [])) bytes ∙ sym (more bytes_of first c.loop-i.i) in
    subst P all (c.page.ensures (layout_of c.args.parts.now) (pages_from bytes_of first c.loop-i.i) c.loop-i.invariant)

pub returns : goal.returns
returns g c =
    let bytes_of = g.P.Pages.bytes_of c.args.pages.now in
    let parts = c.args.parts.now in
    let count : c.private_pages-range.result.count ≡ parts.text_pages + parts.data_pages = ap
    (λ (r : PageRange). r.count) c.private_pages-range.ensures.value in
    let all : c.loop-i.i ≡ parts.text_pages + parts.data_pages = omega (arith, count, c.loop-i-test.false, c.loop-i.auto.i-end) in
    c.finish.ensures (layout_of parts) (pages_from bytes_of (parts.base / 4096) c.loop-i.i) c.loop-i.invariant
    ∙ ap (λ n. digest_of (layout_of parts) (pages_from bytes_of (parts.base / 4096) n)) all
