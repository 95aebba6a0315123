-- The costs of the split blocks come last, and the entries are those that are placed.
use Rattle.std.proofs.Common.{◌≡◌, ℕ, ◌+◌, ◌-◌, ◌*◌, ◌%◌, ◌^◌, ◌≤◌, eq-zero-or-pos, inl, inr, pow_mono, Fits as FitsWidth, w64, rules, length, length-take}
use Rattle.std.proofs.Common.{take, refl, ◌++◌, ◌∙◌, reverse, ap, sym, subst, arith}
use Rattle.std.proofs.lemmas.List.{append-nil}
use Rattle.prefix_tree.specs.Counts.{splits}
use Rattle.prefix_tree.specs.Trees.{PermTree, Uniform, Fits}
use Rattle.prefix_tree.proofs.Nested.{splits-chained}
use Rattle.entry_planner.specs.Placement.{place_at}
use Rattle.entry_planner.specs.SplitCosts.{splits_in}
use Rattle.entry_planner.proofs.ChainWalked.{all_costs, IsStep, begun_at, beside_small, cost_left, ended, left_at, place_small, split_at_lower, split_at_upper}
use Rattle.entry_planner.proofs.ChainWalked.{stepped_lower, stepped_upper}
use Rattle.entry_planner.proofs.ChainKept.{kept_chosen, smallest_costs, smallest_fits}
use Rattle.entry_planner.proofs.SamePerm.{same_perm}
use Rattle.entry_planner.proofs.Walked.{halves_fit_in, last_is, lower_ends, upper_ends, rest_is, split_chosen, uniform_chosen}
use Rattle.entry_planner.proofs.placement.+placing.Goals as goal

-- ---- of a block

pub place_entries-returns-in-Some-clause-placed : goal.place_entries-returns-in-Some-clause-placed
place_entries-returns-in-Some-clause-placed g t c = uniform_chosen _ _ _ _ _ _ _ c.in-Some.ensures c.in_ok-push_entry_in_order.ensures

pub place_entries-place_chain-requires : goal.place_entries-place_chain-requires
place_entries-place_chain-requires g t c = λ κs lives.
    let is = c.in-Some-chain.ensures in
    let F : PermTree → Type 0 = Fits c.args.pages.log2 in
    let count = splits-chained _ (g.H.Halving.shape c.in-Some-chain.smallest) c.in-Some-chain.chain is.1 in (
      omega (arith, c.decreases, is.0.some, count),
      (
        lives,
        (
          is.0.place,
          (
            is.0.most,
            (
              subst F is.1 c.requires.fits,
              (
                c.requires.pages,
                (
                  c.requires.costs.0,
                  c.requires.costs.1
                      ∙ ap (λ t. c.requires.costs.0 ++ reverse (splits_in t)) is.1,
                ),
              ),
            ),
          ),
        ),
      ),
    )

pub place_entries-slice_bounds-others-count : goal.place_entries-slice_bounds-others-count
place_entries-slice_bounds-others-count g t c =
    (smallest_costs c.args.costs.now c.in-Some-chain.chain (g.H.Halving.shape c.args.block.now)
    (g.H.Halving.shape c.in-Some-chain.smallest) c.in-Some-chain.ensures.1 c.requires.costs).levels

pub place_entries-part-block-requires-clause-levels : goal.place_entries-part-block-requires-clause-levels
place_entries-part-block-requires-clause-levels g t c =
    (smallest_fits (g.H.Halving.shape c.args.block.now) (g.H.Halving.shape c.in-Some-chain.smallest) c.in-Some-chain.chain c.args.pages.log2
    c.in-Some-chain.ensures.1 c.requires.fits).0

pub place_entries-place_entries-requires : goal.place_entries-place_entries-requires
place_entries-place_entries-requires g t c = λ κs lives.
    let is = c.in-Some-chain.ensures in
    let tree = g.H.Halving.shape c.in-Some-chain.smallest in
    let inside = smallest_fits (g.H.Halving.shape c.args.block.now) tree c.in-Some-chain.chain c.args.pages.log2 is.1 c.requires.fits in
    let high : c.args.pages.log2 - c.in-Some-chain.chain.levels ≡ c.part-block.result.log2 = omega (arith, c.part-block.ensures.log2) in
    let F : ℕ → Type 0 = λ k. Fits k tree in (
      omega (arith, c.decreases, is.0.some, splits-chained _ tree c.in-Some-chain.chain is.1),
      (
        lives,
        (
          subst F high inside.1,
          (
            c.part-block.ensures.pages,
            (smallest_costs c.args.costs.now c.in-Some-chain.chain
                (g.H.Halving.shape c.args.block.now) tree is.1 c.requires.costs).ends,
          ),
        ),
      ),
    )

pub place_entries-returns-then-eq-2-clause-rest : goal.place_entries-returns-then-eq-2-clause-rest
place_entries-returns-then-eq-2-clause-rest g t c =
    (smallest_costs c.args.costs.now c.in-Some-chain.chain (g.H.Halving.shape c.args.block.now)
    (g.H.Halving.shape c.in-Some-chain.smallest) c.in-Some-chain.ensures.1 c.requires.costs).back
    _ c.in_ok-rest.ensures.rest

pub place_entries-returns-then-eq-2-clause-placed : goal.place_entries-returns-then-eq-2-clause-placed
place_entries-returns-then-eq-2-clause-placed g t c =
    let is = c.in-Some-chain.ensures in
    kept_chosen (g.H.Halving.shape c.args.block.now) (g.H.Halving.shape c.in-Some-chain.smallest) c.in-Some-chain.chain _ _ _ _ _ _ _ is.1
    (same_perm c.in-Some-chain.chain.before c.args.inherited c.eq.result c.eq.ensures c.if-eq.true)
    (same_perm c.in-Some-chain.chain.behind c.args.inherited c.eq-then-eq.result c.eq-then-eq.ensures c.if-eq-2.true) is.0.place c.part-block.ensures.log2
    c.part-block.ensures.first
    c.in_ok-rest.ensures.placed

pub place_entries-place_entries-requires-2 : goal.place_entries-place_entries-requires-2
place_entries-place_entries-requires-2 g t c = λ κs lives. (
  omega (arith, c.decreases, ap splits c.halves-lower.ensures),
  (
    lives,
    (
      (halves_fit_in _ _ _ _ _ c.halves-lower.ensures c.lower.ensures.log2 c.requires.fits).0,
      (c.lower.ensures.pages, lower_ends _ _ _ _ c.halves-lower.ensures c.requires.costs),
    ),
  ),
)

pub place_entries-place_entries-requires-3 : goal.place_entries-place_entries-requires-3
place_entries-place_entries-requires-3 g t c = λ κs lives. (
  omega (arith, c.decreases, ap splits c.halves-lower.ensures),
  (
    lives,
    (
      (halves_fit_in _ _ _ _ _ c.halves-lower.ensures c.upper.ensures.log2 c.requires.fits).1,
      (c.upper.ensures.pages, upper_ends _ _ _ _ _ c.halves-lower.ensures c.requires.costs c.in_ok-rest-3.ensures.rest),
    ),
  ),
)

pub place_entries-returns-clause-rest : goal.place_entries-returns-clause-rest
place_entries-returns-clause-rest g t c = rest_is _ _ _ _ _ _ c.halves-lower.ensures c.requires.costs c.in_ok-rest-3.ensures.rest c.in_ok-rest-4.ensures.rest

pub place_entries-returns-clause-placed : goal.place_entries-returns-clause-placed
place_entries-returns-clause-placed g t c =
    let handed = c.halves_perm-perm.ensures (g.H.Halving.shape c.halves-lower.result.0) (g.H.Halving.shape c.halves-lower.result.1)
    (last_is _ _ _ _ _ c.halves-lower.ensures c.requires.costs) in
    split_chosen _ _ _ _ _ _ _ _ _ _ _ _ _ _ _ c.halves-lower.ensures c.lower.ensures.log2 c.upper.ensures.log2 c.lower.ensures.first c.upper.ensures.first
    handed
    c.in_ok-rest-3.ensures.placed c.in_ok-rest-4.ensures.placed c.in_ok-push_entry_in_order-2.ensures

-- ---- of a chain

pub place_chain-loop-depth-init : goal.place_chain-loop-depth-init
place_chain-loop-depth-init g t c =
    let costs = all_costs c.args.costs.now c.args.chain (g.H.Halving.shape c.args.smallest.now) c.requires.chain in
    record {
      few = omega arith;
      ends = (c.requires.costs.0, costs.1 c.requires.costs.0 c.requires.costs.1);
      back = costs.0;
      walked = begun_at _ _ _ _ _ _ c.requires.chain c.requires.fits;
    }

pub place_chain-unreachable-requires : goal.place_chain-unreachable-requires
place_chain-unreachable-requires g t c =
    omega (
      arith,
      c.in_default.len_below,
      cost_left _ c.args.chain (g.H.Halving.shape c.args.smallest.now) c.loop-depth.depth c.loop-depth-test.true
          c.loop-depth.invariant.ends,
    )

pub place_chain-offset_bounds-left-left : goal.place_chain-offset_bounds-left-left
place_chain-offset_bounds-left-left g t c =
    let all : FitsWidth w64 (length c.args.costs.now * 2) = search rules in
    omega (arith, c.loop-depth.invariant.few, all)

pub place_chain-part-requires-clause-levels : goal.place_chain-part-requires-clause-levels
place_chain-part-requires-clause-levels g t c =
    let inside = smallest_fits _ (g.H.Halving.shape c.args.smallest.now) c.args.chain c.args.pages.log2 refl c.requires.fits in
    omega (arith, c.loop-depth-test.true, inside.0)

pub place_chain-part-requires-clause-place : goal.place_chain-part-requires-clause-place
place_chain-part-requires-clause-place g t c =
    let less = c.loop-depth-test.true in
    let small = place_small c.args.chain c.loop-depth.depth (omega (arith, less)) c.requires.chain in
    omega (arith, small, c.place_at.ensures)

pub place_chain-sibling_index-requires : goal.place_chain-sibling_index-requires
place_chain-sibling_index-requires g t c =
    let less = c.loop-depth-test.true in
    let small = place_small c.args.chain (c.loop-depth.depth + 1) (omega (arith, less)) c.requires.chain in
    let most : 2 ^ (c.loop-depth.depth + 1) ≤ 2 ^ 44 = (let top : c.loop-depth.depth + 1 ≤ 44 = omega (arith, less, c.requires.most) in pow_mono top) in
    omega (arith, small, most, c.place_at-place.ensures)

pub place_chain-part-half-requires-clause-levels : goal.place_chain-part-half-requires-clause-levels
place_chain-part-half-requires-clause-levels g t c =
    let inside = smallest_fits _ (g.H.Halving.shape c.args.smallest.now) c.args.chain c.args.pages.log2 refl c.requires.fits in
    omega (arith, c.loop-depth-test.true, inside.0)

pub place_chain-part-half-requires-clause-place : goal.place_chain-part-half-requires-clause-place
place_chain-part-half-requires-clause-place g t c =
    let at = c.place_at-place.ensures in
    let other = c.sibling_index.ensures in
    beside_small c.args.chain c.loop-depth.depth _ c.loop-depth-test.true c.requires.chain
    (λ odd. other.upper (ap (λ n. n % 2) at ∙ odd) ∙ at) (λ even. other.lower (ap (λ n. n % 2) at ∙ even) ∙ ap (λ n. n + 1) at)

pub place_chain-loop-depth-preserved : goal.place_chain-loop-depth-preserved
place_chain-loop-depth-preserved g t c =
    let tree = g.H.Halving.shape c.args.smallest.now in
    let l = c.loop-depth in
    let i = l.invariant in
    let some = c.loop-depth-test.true in
    let at = c.place_at-place.ensures in
    let few : length (take (length l.left.now - 1) l.left.now) ≤ length c.args.costs.now = omega
    (arith, i.few, length-take (length l.left.now - 1) l.left.now) in
    let step : IsStep c.args.pages.log2 c.args.pages.first c.args.chain l.depth l.from c.halves_perm-perm.result c.sibling_of-own.result l.entries
    c.push_entry_in_order.new.entries c.push_entry.new.entries =
    record {
      k = c.part.result.log2;
      first = c.part.result.first;
      height = c.part.ensures.log2;
      starts = c.part.ensures.first ∙ ap (λ n. c.args.pages.first + n * 2 ^ c.part.result.log2) c.place_at.ensures;
      own = c.in_ok-push_entry_in_order.ensures;
      half = c.part-half.result.log2;
      beside = c.part-half.result.first;
      place = c.sibling_index.result;
      below = c.part-half.ensures.log2;
      stands = c.part-half.ensures.first;
      leaf = c.in_ok-push_entry.ensures;
    }
    in
    elim (eq-zero-or-pos (place_at c.args.chain (l.depth + 1) % 2)) [
      | inl even ↦
          let s = split_at_lower c.args.chain tree l.depth some even in
          let parity = ap (λ n. n % 2) at ∙ even in
          let handed = c.halves_perm-perm.ensures (left_at c.args.chain (l.depth + 1) tree) (Uniform c.args.chain.behind)
          (last_is _ _ _ _ _ s i.ends) in (record {
            few = few;
            ends = lower_ends _ _ _ _ s i.ends;
            back = λ rest same. i.back rest (rest_is _ _ _ _ _ _ s i.ends same (sym (append-nil _)));
            walked = stepped_lower _ _ _ _ tree l.depth _ _ _ _ _ _ _ some even i.walked step (c.sibling_of-own.ensures.lower parity)
                (c.sibling_index.ensures.lower parity ∙ ap (λ n. n + 1) at) handed;
          })
      | inr more ↦
          let odd : place_at c.args.chain (l.depth + 1) % 2 ≡ 1 = omega (arith, more) in
          let s = split_at_upper c.args.chain tree l.depth some odd in
          let parity = ap (λ n. n % 2) at ∙ odd in
          let handed = c.halves_perm-perm.ensures (Uniform c.args.chain.before) (left_at c.args.chain (l.depth + 1) tree)
          (last_is _ _ _ _ _ s i.ends) in (record {
            few = few;
            ends = upper_ends _ _ _ _ _ s i.ends (sym (append-nil _));
            back = λ rest same. i.back rest (rest_is _ _ _ _ _ _ s i.ends (sym (append-nil _)) same);
            walked = stepped_upper _ _ _ _ tree l.depth _ _ _ _ _ _ _ some odd i.walked step (c.sibling_of-own.ensures.upper parity)
                (c.sibling_index.ensures.upper parity ∙ at) handed;
          })
    ]

pub place_chain-returns-clause-placed : goal.place_chain-returns-clause-placed
place_chain-returns-clause-placed g t c =
    let end : c.loop-depth.depth ≡ c.args.chain.levels = omega (arith, c.loop-depth-test.false, c.loop-depth.auto.depth-end) in
    ended _ _ _ c.args.chain (g.H.Halving.shape c.args.smallest.now) _ _ _ _ _ _ _ end c.loop-depth.invariant.walked c.part-block.ensures.log2
    c.part-block.ensures.first c.in_ok-others.ensures.placed
