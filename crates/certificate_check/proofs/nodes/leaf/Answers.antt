use Rattle.std.proofs.Common.{◌≡◌, ◌+◌, ◌∷◌, rules, sym, ap, refl, ◌∙◌}
use denote.Enum.Bare.{differs_true, differs_false}
use Rattle.pmp_encoding.specs.contracts.perm.Perm.{the_type}
use Rattle.pmp_match.specs.Bounds.{Leaf}
use Rattle.permission_map.specs.Runs.{view_of_runs}
use Rattle.pmp_encoding.specs.Views.{IsUniform}
use Rattle.certificate_check.specs.Nodes.{IsNodeRead, NodeFault, in_perm, not_uniform, another}
use Rattle.certificate_check.proofs.Walked.{one_permission, two_permissions}
use Rattle.certificate_check.proofs.Windows.{reads_as, refused_match}
use Rattle.certificate_check.proofs.nodes.leaf.Goals as goal

pub returns-in_err-perm-clause-read : goal.returns-in_err-perm-clause-read
returns-in_err-perm-clause-read g c =
    reads_as _ _ _ _ c.in_err-perm.ensures (λ left rest fault view same.
    refused_match c.from_residual.result c.in_err-perm.field-0.0 (IsNodeRead view c.args.log2 c.args.first (0 ∷ left) rest)
    (NodeFault view c.args.log2 c.args.first (0 ∷ left)) c.from_residual.ensures.1
    (in_perm left c.in_err-perm.field-0.0 refl fault))

pub returns-in_default-clause-read : goal.returns-in_default-clause-read
returns-in_default-clause-read g c =
    reads_as _ _ _ _ c.in_ok-perm.ensures (λ left rest read view same.
    let none = c.in_default.ensures.none in
    not_uniform c.in_ok-perm.perm rest (ap (λ xs. 0 ∷ xs) read)
    (two_permissions (view_of_runs c.args.runs.now) view c.args.log2 c.args.first none.0 same none.1 (rw (sym c.pages_of.ensures) none.2) none.3))

pub returns-then-ne-clause-read : goal.returns-then-ne-clause-read
returns-then-ne-clause-read g c =
    reads_as _ _ _ _ c.in_ok-perm.ensures (λ left rest read view same.
    let found : IsUniform view c.args.log2 c.args.first c.in-Some.found = one_permission
    (view_of_runs c.args.runs.now) view c.args.log2 c.args.first _ c.in-Some.found same
    (ap (λ n. c.args.first + n) c.pages_of.ensures) c.in-Some.ensures.some in
    another c.in_ok-perm.perm c.in-Some.found rest (ap (λ xs. 0 ∷ xs) read) found (differs_true the_type _ _ (sym c.ne.ensures ∙ c.if-ne.true)))

pub returns-clause-read : goal.returns-clause-read
returns-clause-read g c =
    let one : c.in_ok-perm.perm ≡ c.in-Some.found = differs_false the_type (search rules) _ _ (sym c.ne.ensures ∙ c.if-ne.false) in
    reads_as _ _ _ _ c.in_ok-perm.ensures (λ left rest read view same.
    let found : IsUniform view c.args.log2 c.args.first c.in-Some.found = one_permission
    (view_of_runs c.args.runs.now) view c.args.log2 c.args.first _ c.in-Some.found same
    (ap (λ n. c.args.first + n) c.pages_of.ensures) c.in-Some.ensures.some in
    record {
      tree = Leaf c.in_ok-perm.perm;
      right = record { fits = tt; sound = λ i h. found i h ∙ sym one; sums = tt };
      spelled = ap (λ xs. 0 ∷ xs) read;
      numbers_of = c.costs_of_leaf.ensures;
    })
