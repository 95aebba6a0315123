use Rattle.std.proofs.Common.{ℕ, ◌≡◌, ◌∙◌, ◌+◌, ◌-◌, ◌<◌, ◌++◌, List, length, take, drop, replicate, ap, arith, sym}
use Rattle.std.proofs.Math.Seq.{take-append-add}
use Rattle.std.proofs.lemmas.List.{drop-replicate, take-append-le, take-replicate}
use Rattle.measurement.specs.Digests.{blank_page}
use Rattle.monitor_cli.proofs.measure.first_page.Goals as goal

pub returns-then-rest-ge4096 : goal.returns-then-rest-ge4096
returns-then-rest-ge4096 c =
    c.copy_from_slice.ensures.after ∙ sym (take-append-le 4096 c.args.rest.now blank_page (omega (arith, c.if-rest-ge4096.true)))

padded : (rest page : List ℕ) (k : ℕ) → length rest < k → page ≡ rest → page ++ drop (length rest) (replicate k 0) ≡ take k (rest ++ replicate k 0)
padded rest page k less is =
    let n = k - length rest in
    let all : length rest + n ≡ k = omega (arith, less) in
    let right : take k (rest ++ replicate k 0) ≡ rest ++ take n (replicate k 0) =
    ap (λ m. take m (rest ++ replicate k 0)) (sym all) ∙ take-append-add rest (replicate k 0) n in
    ap (λ p. p ++ drop (length rest) (replicate k 0)) is ∙ ap (λ ys. rest ++ ys) (drop-replicate (length rest) k 0 ∙ sym (take-replicate n k 0 (omega arith)))
    ∙ sym right

pub returns : goal.returns
returns c = padded c.args.rest.now c.copy_from_slice-2.new.self 4096 (omega (arith, c.if-rest-ge4096.false)) c.copy_from_slice-2.ensures.after
