-- The node at the front of the bytes is right, or its fault stands there.
use Rattle.std.proofs.Common.{◌≡◌, suc, ◌+◌, ◌-◌, ◌^◌, ◌∷◌, ◌++◌, arith, sym, subst, ap, refl, ◌∙◌, List, ℕ}
use Rattle.std.specs.Prelude.{MatchResult}
use Rattle.permission_map.specs.Runs.{view_of_runs}
use Rattle.certificate_format.specs.Costs.{cost_of}
use Rattle.certificate_format.specs.Spelling.{costs_bytes}
use Rattle.certificate_format.specs.Tags.{tag_byte}
use Rattle.certificate_check.specs.Later.{AgreeFrom}
use Rattle.certificate_check.specs.Nodes.{IsNodeRead, NodeFault, in_tag, a_page, in_costs, in_lower, in_upper}
use Rattle.certificate_check.proofs.Walked.{branch_read, branch_refused, half_inside, agree_on, agree_far, on_ok}
use Rattle.certificate_check.proofs.Windows.{match_from, reads_as, reads_none, reads_then, reads_thrice, refused_match, refused_again_match}
use Rattle.certificate_check.proofs.nodes.+nodes.Goals as goal

pub node-returns-in_err-tag-clause-read : goal.node-returns-in_err-tag-clause-read
node-returns-in_err-tag-clause-read g t c =
    reads_as _ _ _ _ c.in_err-tag.ensures (λ left rest fault view same.
    refused_match c.from_residual.result c.in_err-tag.field-0.0 (IsNodeRead view c.args.log2 c.args.first left rest)
    (NodeFault view c.args.log2 c.args.first left) c.from_residual.ensures.1
    (in_tag c.in_err-tag.field-0.0 fault))

pub node-returns-in-Leaf-clause-read : goal.node-returns-in-Leaf-clause-read
node-returns-in-Leaf-clause-read g t c =
    reads_then _ _ _ _ _ _ c.in_ok-tag.ensures c.leaf.ensures.read (λ left mid rest tag leaf view same.
    let is : left ≡ 0 ∷ mid = tag ∙ ap (λ x. tag_byte x ∷ mid) c.in-Leaf.is in
    subst (λ (xs : List ℕ). MatchResult c.leaf.result (IsNodeRead view c.args.log2 c.args.first xs rest) (NodeFault view c.args.log2 c.args.first xs)) (sym is)
    (leaf view same))

pub node-returns-in-Branch-clause-read : goal.node-returns-in-Branch-clause-read
node-returns-in-Branch-clause-read g t c =
    reads_then _ _ _ _ _ _ c.in_ok-tag.ensures c.split.ensures.read (λ left mid rest tag split view same.
    let is : left ≡ 1 ∷ mid = tag ∙ ap (λ x. tag_byte x ∷ mid) c.in-Branch.is in
    subst (λ (xs : List ℕ). MatchResult c.split.result (IsNodeRead view c.args.log2 c.args.first xs rest) (NodeFault view c.args.log2 c.args.first xs)) (sym is)
    (split view same))

pub split-returns-then-log2-eq0-clause-read : goal.split-returns-then-log2-eq0-clause-read
split-returns-then-log2-eq0-clause-read g t c = reads_as _ _ _ _ (reads_none _) (λ left rest e view same. a_page left refl c.if-log2-eq0.true)

pub split-returns-in_err-costs-clause-read : goal.split-returns-in_err-costs-clause-read
split-returns-in_err-costs-clause-read g t c =
    let half : c.args.log2 ≡ suc (c.args.log2 - 1) = omega arith in
    reads_as _ _ _ _ c.in_err-costs.ensures (λ left rest fault view same.
    refused_match c.from_residual.result c.in_err-costs.field-0.0 (IsNodeRead view c.args.log2 c.args.first (1 ∷ left) rest)
    (NodeFault view c.args.log2 c.args.first (1 ∷ left))
    c.from_residual.ensures.1 (in_costs (c.args.log2 - 1) left c.in_err-costs.field-0.0 half refl fault))

pub split-node-requires : goal.split-node-requires
split-node-requires g t c =
    let half : c.args.log2 ≡ suc (c.args.log2 - 1) = omega arith in
    let most = c.requires.depth in
    let inside = half_inside c.args.first (c.args.log2 - 1) c.args.log2 (2 ^ 44) half c.requires.inside in
    λ κs le. (omega arith, (le, (omega arith, omega arith)))

pub split-returns-in_err-lower-clause-read : goal.split-returns-in_err-lower-clause-read
split-returns-in_err-lower-clause-read g t c =
    let half : c.args.log2 ≡ suc (c.args.log2 - 1) = omega arith in
    reads_then _ _ _ _ _ _ c.in_ok-costs.ensures c.in_err-lower.ensures.read (λ left mid rest costs lower view same.
    refused_again_match c.from_residual-in_err-lower.result c.in_err-lower.field-0.0 (IsNodeRead view c.args.log2 c.args.first (1 ∷ left) rest)
    (NodeFault view c.args.log2 c.args.first (1 ∷ left))
    c.from_residual-in_err-lower.ensures.1
    (in_lower (c.args.log2 - 1) (cost_of c.in_ok-costs.costs) mid c.in_err-lower.field-0.0 half (ap (λ xs. 1 ∷ xs) costs.0) (lower view same)))

pub split-node-requires-2 : goal.split-node-requires-2
split-node-requires-2 g t c =
    let half : c.args.log2 ≡ suc (c.args.log2 - 1) = omega arith in
    let most = c.requires.depth in
    let inside = half_inside c.args.first (c.args.log2 - 1) c.args.log2 (2 ^ 44) half c.requires.inside in
    λ κs le. (omega arith, (le, (omega arith, omega (arith, c.pages_of.ensures))))

pub split-returns-in_err-upper-clause-read : goal.split-returns-in_err-upper-clause-read
split-returns-in_err-upper-clause-read g t c =
    let half : c.args.log2 ≡ suc (c.args.log2 - 1) = omega arith in
    reads_thrice _ _ _ _ _ _ _ _ c.in_ok-costs.ensures c.in_ok-lower.ensures.read c.in_err-upper.ensures.read (λ left one two rest costs low upper view same.
    let on : AgreeFrom (c.args.first + c.pages_of.result) (view_of_runs c.node.new.runs) view =
    agree_on c.args.first (c.args.first + c.pages_of.result) (view_of_runs c.args.runs.now) (view_of_runs c.node.new.runs) view same (omega arith)
    (rw (c.pages_of.ensures) c.in_ok-lower.ensures.same) in
    let lower : IsNodeRead view (c.args.log2 - 1) c.args.first one two c.in_ok-lower.lower = low view same in
    refused_again_match c.from_residual-in_err-upper.result c.in_err-upper.field-0.0 (IsNodeRead view c.args.log2 c.args.first (1 ∷ left) rest)
    (NodeFault view c.args.log2 c.args.first (1 ∷ left))
    c.from_residual-in_err-upper.ensures.1
    (in_upper (c.args.log2 - 1) (cost_of c.in_ok-costs.costs) lower.tree two c.in_err-upper.field-0.0 half
    (ap (λ xs. 1 ∷ xs) (costs.0 ∙ ap (λ xs. costs_bytes (cost_of c.in_ok-costs.costs) ++ xs) lower.spelled)) lower.right
    (rw (sym c.pages_of.ensures) (upper view on))))

pub split-returns-clause-read : goal.split-returns-clause-read
split-returns-clause-read g t c =
    let half : c.args.log2 ≡ suc (c.args.log2 - 1) = omega arith in
    reads_thrice _ _ _ _ _ _ _ _ c.in_ok-costs.ensures c.in_ok-lower.ensures.read c.in_ok-upper.ensures.read (λ left one two rest costs low high view same.
    let on : AgreeFrom (c.args.first + c.pages_of.result) (view_of_runs c.node.new.runs) view =
    agree_on c.args.first (c.args.first + c.pages_of.result) (view_of_runs c.args.runs.now) (view_of_runs c.node.new.runs) view same (omega arith)
    (rw (c.pages_of.ensures) c.in_ok-lower.ensures.same) in
    let lower : IsNodeRead view (c.args.log2 - 1) c.args.first one two c.in_ok-lower.lower = low view same in
    let upper : IsNodeRead view (c.args.log2 - 1) (c.args.first + 2 ^ (c.args.log2 - 1)) two rest c.in_ok-upper.upper = rw (sym c.pages_of.ensures)
    (high view on) in
    match_from c.branch-costs-2.result (IsNodeRead view c.args.log2 c.args.first (1 ∷ left) rest) (NodeFault view c.args.log2 c.args.first (1 ∷ left))
    (branch_read view c.args.log2 (c.args.log2 - 1) c.args.first (1 ∷ left) left one two rest
    (cost_of c.in_ok-costs.costs) c.in_ok-lower.lower c.in_ok-upper.upper
    c.branch-costs-2.result half refl costs.0 costs.1 lower upper c.branch-costs-2.ensures.allowed c.branch-costs-2.ensures.numbers)
    (branch_refused view c.args.log2 (c.args.log2 - 1) c.args.first (1 ∷ left) left one two rest
    (cost_of c.in_ok-costs.costs) c.in_ok-lower.lower c.in_ok-upper.upper
    c.branch-costs-2.result half refl costs.0 costs.1 lower upper c.branch-costs-2.ensures.fault))

pub split-returns-clause-same : goal.split-returns-clause-same
split-returns-clause-same g t c =
    let half : c.args.log2 ≡ suc (c.args.log2 - 1) = omega arith in
    on_ok c.branch-costs-2.result
    (agree_far c.args.first (c.args.log2 - 1) c.args.log2 (c.args.first + c.pages_of.result) (view_of_runs c.args.runs.now) (view_of_runs c.node.new.runs)
    (view_of_runs c.node-2.new.runs) half (ap (λ n. c.args.first + n) c.pages_of.ensures) c.in_ok-lower.ensures.same c.in_ok-upper.ensures.same)
