-- The costs are the least, and the choices attain them.
use Rattle.std.proofs.Common.{◌≡◌, ℕ, ◌+◌, ◌/◌, ◌%◌, ap, ap₂, sym, subst, ◌∙◌, arith}
use Rattle.pmp_encoding.specs.declared.perm.Perm.{Perm}
use Rattle.pmp_encoding.specs.declared.perm.Perm.TheVariants.{NoAccess}
use Rattle.prefix_tree.specs.Counts.{first_perm, last_perm}
use Rattle.entry_planner.specs.Costs.{cost}
use Rattle.chain_planner.specs.ChainCosts.{change, covered}
use Rattle.chain_planner.specs.Choices.{AttainsThrough, AttainsBegins, AttainsOwn}
use Rattle.chain_planner.specs.Sixes.{across, at}
use Rattle.chain_planner.proofs.KeysLeast.{through_attains, begins_attains, own_attains, cover_attains}
use Rattle.chain_planner.proofs.costs.join.Goals as goal

pub returns-clause-costs : goal.returns-clause-costs
returns-clause-costs c = λ lower upper a b.
    let base : (p : Perm) → at c.sums-base.result p ≡ cost lower p + cost upper p = λ p. omega (arith, c.sums-base.ensures.sums p, a.own p, b.own p) in
    let covers = cover_attains (at c.sums-base.result) c.cover_key-best.result lower upper base c.cover_key-best.ensures.key in
    let cover : ℕ = 1 + c.cover_key-best.result / 8 in
    record {
      own = λ p.
          c.costs_in.ensures p
          ∙ ap (λ k. k / 64) (c.own_keys-own.ensures p)
          ∙ (own_attains (at c.sums-base.result) cover lower upper p (base p) covers.0).0;
      through = λ p q.
          c.table_costs.ensures p q
          ∙ ap (λ k. k / 64) (c.table_keys-through.ensures p q)
          ∙ (through_attains (at (at c.args.low.now.through p)) (across c.columns_of-columns.result) lower upper cover p q (a.through p)
          (λ n. c.columns_of-columns.ensures.values n q ∙ b.through n q) covers.0).0;
      begins = λ q.
          c.costs_in-2.ensures q
          ∙ ap (λ k. k / 64) (c.begins_keys-begins.ensures q)
          ∙ (begins_attains (at c.args.low.now.begins) (across c.columns_of-columns.result) lower upper cover
          (c.args.low.now.own.none + at c.args.high.now.begins q) q a.begins (λ n. c.columns_of-columns.ensures.values n q ∙ b.through n q) covers.0
          (omega (arith, a.own NoAccess, b.begins q))).0;
      changes =
          (let middle : change c.args.low.now.last c.args.high.now.first ≡ change (last_perm lower) (first_perm upper) = ap₂ change a.last b.first in
          omega (arith, c.change.ensures.value, middle, a.changes, b.changes));
      first = a.first;
      last = b.last;
    }

pub returns-clause-choices : goal.returns-clause-choices
returns-clause-choices c = λ lower upper a b.
    let base : (p : Perm) → at c.sums-base.result p ≡ cost lower p + cost upper p = λ p. omega (arith, c.sums-base.ensures.sums p, a.own p, b.own p) in
    let covers = cover_attains (at c.sums-base.result) c.cover_key-best.result lower upper base c.cover_key-best.ensures.key in
    let cover : ℕ = 1 + c.cover_key-best.result / 8 in
    record {
      own = λ p.
          subst (λ k. AttainsOwn lower upper p k) (sym (c.choices_in.ensures p ∙ ap (λ k. k % 64) (c.own_keys-own.ensures p)))
          (own_attains (at c.sums-base.result) cover lower upper p (base p) covers.0).1;
      through = λ p q.
          subst (λ k. AttainsThrough lower upper p q k) (sym (c.table_choices.ensures p q ∙ ap (λ k. k % 64) (c.table_keys-through.ensures p q)))
          (through_attains (at (at c.args.low.now.through p)) (across c.columns_of-columns.result) lower upper cover p q (a.through p)
          (λ n. c.columns_of-columns.ensures.values n q ∙ b.through n q) covers.0).1;
      begins = λ q.
          subst (λ k. AttainsBegins lower upper q k) (sym (c.choices_in-2.ensures q ∙ ap (λ k. k % 64) (c.begins_keys-begins.ensures q)))
          (begins_attains (at c.args.low.now.begins) (across c.columns_of-columns.result) lower upper cover
          (c.args.low.now.own.none + at c.args.high.now.begins q) q a.begins (λ n. c.columns_of-columns.ensures.values n q ∙ b.through n q) covers.0
          (omega (arith, a.own NoAccess, b.begins q))).1;
      cover =
          (let Best : Perm → Type 0 = λ r. 1 + (cost lower r + cost upper r) ≡ covered lower upper in
          subst Best (sym c.perm_at.ensures) covers.1);
    }
