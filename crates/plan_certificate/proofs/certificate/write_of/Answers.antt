-- The bytes are those of the certificate, which spell it.
use Rattle.std.proofs.Common.{◌≡◌, ◌∙◌, ◌^◌, ◌<◌, ◌++◌, List, [], ℕ, Vec, Global, length, ap, sym, subst, arith}
use Rattle.text_lines.specs.Streams.{inner_of}
use Rattle.entry_planner.specs.Plans.{costed}
use Rattle.certificate_format.specs.Spelling.{Spells, FitsNode}
use Rattle.plan_certificate.specs.Written.{version_for, certificate_bytes}
use Rattle.plan_certificate.proofs.Spelled.{certificate_spelled}
use Rattle.plan_certificate.proofs.certificate.write_of.Goals as goal

pub returns-clause-bytes : goal.returns-clause-bytes
returns-clause-bytes g c =
    let items : Vec ℕ Global → List ℕ = λ v. v.items in
    let none : items (inner_of c.new-sink.result) ≡ [] = ap items c.new-sink.ensures.inner ∙ c.in_ok-with_capacity.ensures.items in
    let tree = costed (g.P.WrittenPlan.planned c.args.plan.now).costs 0 (g.H.Halving.shape c.args.root.now) in
    ap items c.into_inner.ensures ∙ c.in-Ok.ensures.prints.whole ∙ ap (λ (xs : List ℕ). xs ++ certificate_bytes (version_for c.args.limit)
    (g.P.WrittenPlan.planned c.args.plan.now).entries tree) none

pub returns-clause-spells : goal.returns-clause-spells
returns-clause-spells g c =
    let entries = (g.P.WrittenPlan.planned c.args.plan.now).entries in
    let version = version_for c.args.limit in
    let tree = costed (g.P.WrittenPlan.planned c.args.plan.now).costs 0 (g.H.Halving.shape c.args.root.now) in
    let fits : FitsNode 44 tree = c.in-Ok.ensures.fits 44 c.requires.fits in
    let counted : length entries < 2 ^ 32 = omega arith in
    subst (λ (b : List ℕ). Spells b version entries tree) (sym (returns-clause-bytes g c)) (certificate_spelled version entries tree counted fits)
