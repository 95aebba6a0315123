-- The plan's certificate is right, and the checker accepts what is right.
use Rattle.std.proofs.Common.{◌≡◌, ◌*◌, ◌≤◌, ℕ, List, arith, length, subst, sym}
use Rattle.permission_map.specs.Runs.{view_of_runs}
use Rattle.pmp_match.specs.Meaning.{Needs}
use Rattle.prefix_tree.specs.Counts.{splits}
use Rattle.certificate_check.specs.Certificates.{IsRight}
use Rattle.library_tests.proofs.Accepted.{needs, right}
use Rattle.library_tests.proofs.laws.checked_plan.Goals as goal

pub returns-clause-accepted : goal.returns-clause-accepted
returns-clause-accepted c = λ means.
    let view = view_of_runs c.args.map.now in
    let plan = c.in_ok-plan.plan in
    let bytes : List ℕ = c.in_ok-bytes.bytes.items in
    let e = c.in_ok-plan.ensures in
    let few : splits c.args.tree.now ≤ 44 * 8192 = omega (arith, c.branches-branches.ensures.value, c.branches-branches.ensures.most) in
    let is : IsRight view bytes (length plan.entries) =
    right view c.args.tree.now plan c.args.limit bytes means few e.choice e.order e.costs e.root e.pages c.in_ok-bytes.ensures.spells in
    (c.check.ensures.right c.needed.result).1
    (subst (λ (b : List ℕ). IsRight view b c.needed.result) (sym c.as_slice.ensures.value)
    (subst (λ (n : ℕ). IsRight view bytes n) (sym c.needed.ensures) is))

pub returns-clause-needed : goal.returns-clause-needed
returns-clause-needed c = λ means.
    let view = view_of_runs c.args.map.now in
    let e = c.in_ok-plan.ensures in
    subst (λ (n : ℕ). Needs view n) (sym c.needed.ensures) (needs view c.args.tree.now c.in_ok-plan.plan means e.choice e.order)
