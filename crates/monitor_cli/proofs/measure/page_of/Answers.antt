use Rattle.std.proofs.Common.{ℕ, ◌≡◌, ◌≤◌, ◌∙◌, ◌++◌, List, [], length, take, drop, ap, arith}
use Rattle.std.proofs.lemmas.Grind.{common_steps}
use Rattle.measurement.specs.Digests.{blank_page}
use Rattle.monitor_cli.proofs.measure.page_of.Goals as goal

none_left : (all : List ℕ) (i : ℕ) → length all ≤ i → [] ≡ drop i all
none_left all i h = grind (arith, common_steps)

pub returns-then-i-bytes : goal.returns-then-i-bytes
returns-then-i-bytes c =
    c.first_page.ensures ∙ ap (λ rest. take 4096 (rest ++ blank_page)) (none_left c.args.bytes.now _ (omega (arith, c.if-i-bytes.true)))
