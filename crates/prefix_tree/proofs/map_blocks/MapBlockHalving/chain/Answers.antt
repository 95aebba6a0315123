-- The one run of the block has its edges in the part.
use Rattle.std.proofs.Common.{◌-◌, List, subst, sym, ap, ◌∙◌, arith}
use Rattle.permission_map.specs.declared.runs.Run.{Run}
use Rattle.permission_map.specs.Runs.{view_of_runs}
use Rattle.prefix_tree.specs.Joined.{one_perm}
use Rattle.prefix_tree.specs.Slices.{AreBlockRuns}
use Rattle.prefix_tree.specs.TreeOf.{tree_at}
use Rattle.prefix_tree.specs.Chains.{nested}
use Rattle.prefix_tree.proofs.Nested.{one_run_is, part_runs, part_chained}
use Rattle.prefix_tree.proofs.map_blocks.MapBlockHalving.chain.Goals as goal

pub edges_of-edges-requires-clause-block : goal.edges_of-edges-requires-clause-block
edges_of-edges-requires-clause-block c =
    let B : List Run → Type 0 = λ runs. AreBlockRuns runs c.self.inside.first c.self.inside.height in
    subst B (one_run_is c.self.inside.runs.now _ c.in-len1.len_at_least c.in-len1.len_below) c.self.invariant

pub edges_of-edges-requires-clause-cut : goal.edges_of-edges-requires-clause-cut
edges_of-edges-requires-clause-cut c =
    ap (λ (runs : List Run). one_perm (tree_at (view_of_runs runs) c.self.inside.height c.self.inside.first))
    (sym (one_run_is c.self.inside.runs.now _ c.in-len1.len_at_least c.in-len1.len_below))
    ∙ ap one_perm c.self.view_is
    ∙ c.requires

pub part_around-part-requires-clause-height : goal.part_around-part-requires-clause-height
part_around-part-requires-clause-height c = c.self.invariant.low

pub part_around-part-requires-clause-space : goal.part_around-part-requires-clause-space
part_around-part-requires-clause-space c = c.self.invariant.inside

pub part_around-part-requires-clause-low : goal.part_around-part-requires-clause-low
part_around-part-requires-clause-low c = c.edges_of-edges.ensures.edges.low

pub part_around-part-requires-clause-rising : goal.part_around-part-requires-clause-rising
part_around-part-requires-clause-rising c = c.edges_of-edges.ensures.edges.rising

pub part_around-part-requires-clause-high : goal.part_around-part-requires-clause-high
part_around-part-requires-clause-high c = c.edges_of-edges.ensures.edges.high

pub overflow_sub-smallest : goal.overflow_sub-smallest
overflow_sub-smallest c = c.part_around-part.ensures.within

pub invariant_of-smallest : goal.invariant_of-smallest
invariant_of-smallest c =
    let A : List Run → Type 0 = λ runs. AreBlockRuns runs c.self.inside.first c.self.inside.height in
    let B : List Run → Type 0 = λ runs. AreBlockRuns runs c.part_around-part.result.first (c.self.inside.height - c.part_around-part.result.levels) in
    subst B (sym (one_run_is c.self.inside.runs.now _ c.in-len1.len_at_least c.in-len1.len_below))
    (part_runs _ _ _ c.edges_of-edges.result _ (subst A (one_run_is c.self.inside.runs.now _ c.in-len1.len_at_least c.in-len1.len_below) c.self.invariant)
    c.edges_of-edges.ensures.low c.edges_of-edges.ensures.high c.part_around-part.ensures)

pub returns : goal.returns
returns c =
    let height = c.self.inside.height in
    let part = c.part_around-part.result in
    let edges = c.edges_of-edges.result in
    let one = one_run_is c.self.inside.runs.now _ c.in-len1.len_at_least c.in-len1.len_below in (
      record {
        some = omega (arith, c.if-part-eq0.false);
        most = omega (arith, c.part_around-part.ensures.within, c.self.invariant.low);
        place =
            c.part_around-part.ensures.placed;
      },
      sym c.self.view_is
          ∙ ap (λ (runs : List Run). tree_at (view_of_runs runs) height c.self.inside.first) one
          ∙ part_chained _ _ _ edges part c.edges_of-edges.ensures.edges c.part_around-part.ensures
          ∙ ap (λ (runs : List Run). nested part.levels part.place edges.before edges.behind (tree_at (view_of_runs runs) (height - part.levels) part.first))
          (sym one),
    )
