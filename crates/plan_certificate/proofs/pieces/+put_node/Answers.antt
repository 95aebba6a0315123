use Rattle.std.proofs.Common.{◌+◌, List, ℕ, refl, subst, sym, arith}
use Rattle.prefix_tree.specs.Counts.{splits}
use Rattle.prefix_tree.specs.Trees.{PermTree, Fits}
use Rattle.entry_planner.specs.Plans.{costed}
use Rattle.certificate_format.specs.Spelling.{node_bytes, FitsNode}
use Rattle.plan_certificate.specs.Pieces.{taken, IsPut, IsCut}
use Rattle.prefix_tree.proofs.Nested.{splits-chained}
use Rattle.plan_certificate.specs.ChainBytes.{tail_bytes}
use Rattle.plan_certificate.proofs.ChainSpelled.{chain_put, chain_fits}
use Rattle.plan_certificate.proofs.Sent.{put_then, cut_then, cut_more, branch_spelled}
use Rattle.plan_certificate.proofs.pieces.+put_node.Goals as goal

pub returns-in_default-put-2-clause-cut : goal.returns-in_default-put-2-clause-cut
returns-in_default-put-2-clause-cut g t c =
    let costs = c.args.costs.now in
    let i = c.args.i in
    let lower = g.H.Halving.shape c.halves-lower.result.0 in
    let upper = g.H.Halving.shape c.halves-lower.result.1 in
    let now = taken g.W.Sink.contents g.W.Sink.failures g.W.Sink.stalls in
    let middle = i + 1 + splits lower in
    subst (λ (b : List ℕ). IsCut c.args.piece.now.items (now c.args.sink.now) (now c.put-2.new.sink) b)
    (branch_spelled costs i middle _ lower upper _ _ _ c.halves-lower.ensures c.as_slice-2.ensures c.front_of-front.ensures.bytes c.costs_of.ensures.costs refl)
    (cut_more _ _ _ _ (node_bytes (costed costs middle upper)) (cut_more _ _ _ _ (node_bytes (costed costs (i + 1) lower)) c.in_default-put-2.ensures.cut))

pub returns-in_default-put_node-2-clause-cut : goal.returns-in_default-put_node-2-clause-cut
returns-in_default-put_node-2-clause-cut g t c =
    let costs = c.args.costs.now in
    let i = c.args.i in
    let lower = g.H.Halving.shape c.halves-lower.result.0 in
    let upper = g.H.Halving.shape c.halves-lower.result.1 in
    let now = taken g.W.Sink.contents g.W.Sink.failures g.W.Sink.stalls in
    let middle = i + 1 + splits lower in
    subst (λ (b : List ℕ). IsCut c.args.piece.now.items (now c.args.sink.now) (now c.put_node-2.new.sink) b)
    (branch_spelled costs i middle _ lower upper _ _ _ c.halves-lower.ensures c.as_slice-2.ensures c.front_of-front.ensures.bytes c.costs_of.ensures.costs refl)
    (cut_more _ _ _ _ (node_bytes (costed costs middle upper)) (cut_then _ _ _ _ _ _ _ c.in-Ok-put.ensures.put c.in_default-put_node-2.ensures.cut))

pub returns-in_default-put_node-3-clause-cut : goal.returns-in_default-put_node-3-clause-cut
returns-in_default-put_node-3-clause-cut g t c =
    let costs = c.args.costs.now in
    let i = c.args.i in
    let lower = g.H.Halving.shape c.halves-lower.result.0 in
    let upper = g.H.Halving.shape c.halves-lower.result.1 in
    let now = taken g.W.Sink.contents g.W.Sink.failures g.W.Sink.stalls in
    subst (λ (b : List ℕ). IsCut c.args.piece.now.items (now c.args.sink.now) (now c.put_node-3.new.sink) b)
    (branch_spelled costs i c.in-Ok-put_node-2.middle _ lower upper _ _ _ c.halves-lower.ensures c.as_slice-2.ensures c.front_of-front.ensures.bytes
    c.costs_of.ensures.costs c.in-Ok-put_node-2.ensures.next)
    (cut_then _ _ _ _ _ _ _ (put_then _ _ _ _ _ _ _ _ c.in-Ok-put.ensures.put c.in-Ok-put_node-2.ensures.put) c.in_default-put_node-3.ensures.cut)

pub returns-clause-put : goal.returns-clause-put
returns-clause-put g t c =
    let costs = c.args.costs.now in
    let i = c.args.i in
    let lower = g.H.Halving.shape c.halves-lower.result.0 in
    let upper = g.H.Halving.shape c.halves-lower.result.1 in
    let now = taken g.W.Sink.contents g.W.Sink.failures g.W.Sink.stalls in
    subst (λ (b : List ℕ). IsPut c.args.piece.now.items c.put_node-3.new.piece.items (now c.args.sink.now) (now c.put_node-3.new.sink) b)
    (branch_spelled costs i c.in-Ok-put_node-2.middle _ lower upper _ _ _ c.halves-lower.ensures c.as_slice-2.ensures c.front_of-front.ensures.bytes
    c.costs_of.ensures.costs c.in-Ok-put_node-2.ensures.next)
    (put_then _ _ _ _ _ _ _ _ (put_then _ _ _ _ _ _ _ _ c.in-Ok-put.ensures.put c.in-Ok-put_node-2.ensures.put) c.in-Ok-put_node-3.ensures.put)

-- ---- of a chain

pub put_heads-requires-clause-counted : goal.put_heads-requires-clause-counted
put_heads-requires-clause-counted g t c =
    omega (arith, c.requires.counted, splits-chained _ (g.H.Halving.shape c.in-Some-chain.smallest) c.in-Some-chain.chain c.in-Some-chain.ensures.1)

pub overflow_add-inside : goal.overflow_add-inside
overflow_add-inside g t c =
    omega (
      arith,
      c.requires.counted,
      c.requires.small,
      splits-chained _ (g.H.Halving.shape c.in-Some-chain.smallest) c.in-Some-chain.chain
          c.in-Some-chain.ensures.1,
    )

pub put_node-requires : goal.put_node-requires
put_node-requires g t c = λ κs lives.
    let is = c.in-Some-chain.ensures in
    let count = splits-chained _ (g.H.Halving.shape c.in-Some-chain.smallest) c.in-Some-chain.chain is.1 in
    (omega (arith, c.decreases, is.0.some, count), (lives.0, (lives.1, (omega (arith, c.requires.counted, count), c.requires.small))))

pub returns-in_default-put_heads-clause-cut : goal.returns-in_default-put_heads-clause-cut
returns-in_default-put_heads-clause-cut g t c = c.in_default-put_heads.ensures.cut _

pub returns-in_default-put_node-clause-cut : goal.returns-in_default-put_node-clause-cut
returns-in_default-put_node-clause-cut g t c =
    let chain = c.in-Some-chain.chain in
    let tree = g.H.Halving.shape c.in-Some-chain.smallest in
    let now = taken g.W.Sink.contents g.W.Sink.failures g.W.Sink.stalls in
    subst (λ (b : List ℕ). IsCut c.args.piece.now.items (now c.args.sink.now) (now c.put_node.new.sink) b)
    (chain_put c.args.costs.now c.args.i chain _ tree c.in-Some-chain.ensures.1)
    (cut_more _ _ _ _ (tail_bytes chain.levels chain.place chain.behind) (cut_then _ _ _ _ _ _ _ c.in-Ok-put_heads.ensures.put
    c.in_default-put_node.ensures.cut))

pub returns-in_default-put_tails-clause-cut : goal.returns-in_default-put_tails-clause-cut
returns-in_default-put_tails-clause-cut g t c =
    let chain = c.in-Some-chain.chain in
    let tree = g.H.Halving.shape c.in-Some-chain.smallest in
    let now = taken g.W.Sink.contents g.W.Sink.failures g.W.Sink.stalls in
    subst (λ (b : List ℕ). IsCut c.args.piece.now.items (now c.args.sink.now) (now c.put_tails.new.sink) b)
    (chain_put c.args.costs.now c.args.i chain _ tree c.in-Some-chain.ensures.1)
    (cut_then _ _ _ _ _ _ _ (put_then _ _ _ _ _ _ _ _ c.in-Ok-put_heads.ensures.put c.in-Ok-put_node.ensures.put)
    (c.in_default-put_tails.ensures.cut (tail_bytes chain.levels chain.place chain.behind)))

pub returns-in-Some-chain-clause-put : goal.returns-in-Some-chain-clause-put
returns-in-Some-chain-clause-put g t c =
    let chain = c.in-Some-chain.chain in
    let tree = g.H.Halving.shape c.in-Some-chain.smallest in
    let now = taken g.W.Sink.contents g.W.Sink.failures g.W.Sink.stalls in
    subst (λ (b : List ℕ). IsPut c.args.piece.now.items c.put_tails.new.piece.items (now c.args.sink.now) (now c.put_tails.new.sink) b)
    (chain_put c.args.costs.now c.args.i chain _ tree c.in-Some-chain.ensures.1)
    (put_then _ _ _ _ _ _ _ _ (put_then _ _ _ _ _ _ _ _ c.in-Ok-put_heads.ensures.put c.in-Ok-put_node.ensures.put)
    (subst (λ (b : List ℕ). IsPut c.put_node.new.piece.items c.put_tails.new.piece.items (now c.put_node.new.sink) (now c.put_tails.new.sink) b)
    (c.in-Ok-put_heads.ensures.tails chain.behind) c.in-Ok-put_tails.ensures.put))

pub returns-in-Some-chain-clause-fits : goal.returns-in-Some-chain-clause-fits
returns-in-Some-chain-clause-fits g t c = λ k fits.
    let chain = c.in-Some-chain.chain in
    let tree = g.H.Halving.shape c.in-Some-chain.smallest in
    let F : PermTree → Type 0 = Fits k in
    let G : PermTree → Type 0 = λ t. FitsNode k (costed c.args.costs.now c.args.i t) in
    subst G (sym c.in-Some-chain.ensures.1)
    (chain_fits c.args.costs.now k c.args.i chain.levels chain.place chain.before chain.behind tree c.in-Ok-put_heads.ensures.fits c.in-Ok-put_node.ensures.fits
    (subst F c.in-Some-chain.ensures.1 fits))

pub returns-in-Some-chain-clause-next : goal.returns-in-Some-chain-clause-next
returns-in-Some-chain-clause-next g t c =
    let count = splits-chained _ (g.H.Halving.shape c.in-Some-chain.smallest) c.in-Some-chain.chain c.in-Some-chain.ensures.1 in
    omega (arith, c.in-Ok-put_node.ensures.next, count)
