use Rattle.std.proofs.Common.{ℕ, ◌≡◌, ◌∙◌, ◌+◌, ◌++◌, List, [], ◌∷◌, add-one, ap, arith, refl, subst, sym}
use Rattle.measurement.specs.Progress.{HasMeasured}
use Rattle.measurement.specs.Measured.{digest_of}
use Rattle.measurement.specs.Digests.{pages_from}
use Rattle.monitor_cli.specs.Measure.{page_of}
use Rattle.monitor_cli.proofs.measure.enclave_digest.Goals as goal

more : (pages : ℕ → List ℕ) (n : ℕ) → pages_from pages 0 (n + 1) ≡ pages_from pages 0 n ++ (pages n ∷ [])
more pages n =
    let here : 0 + n ≡ n = omega arith in
    let next : pages_from pages 0 (n + 1) ≡ pages_from pages 0 n ++ (pages (0 + n) ∷ []) = rw add-one refl in
    next ∙ ap (λ k. pages_from pages 0 n ++ (pages k ∷ [])) here

pub loop-i-preserved : goal.loop-i-preserved
loop-i-preserved c =
    let pages = page_of c.args.bytes.now in
    let P : List (List ℕ) → Type 0 = λ all. HasMeasured c.page.new.self c.args.layout.now all in
    let all : pages_from pages 0 c.loop-i.i ++ (c.page_of.result ∷ []) ≡ pages_from pages 0 (c.loop-i.i + 1) =
    ap (λ b. pages_from pages 0 c.loop-i.i ++ (b ∷ [])) c.page_of.ensures ∙ sym (more pages c.loop-i.i) in
    subst P all (c.page.ensures c.args.layout.now (pages_from pages 0 c.loop-i.i) c.loop-i.invariant)

pub returns : goal.returns
returns c =
    let pages = page_of c.args.bytes.now in
    let layout = c.args.layout.now in
    let all : c.loop-i.i ≡ layout.text_pages + layout.data_pages = omega (arith, c.loop-i-test.false, c.loop-i.auto.i-end) in
    c.finish.ensures layout (pages_from pages 0 c.loop-i.i) c.loop-i.invariant ∙ ap (λ n. digest_of layout (pages_from pages 0 n)) all
