use Rattle.std.proofs.Common.{◌≡◌, ◌∙◌, ◌++◌, List, [], ℕ, append-nil, ap₂, refl, subst}
use Rattle.std.specs.List.{flat_map}
use Rattle.pmp_encoding.specs.declared.region.Entry.{Entry}
use Rattle.prefix_tree.specs.Trees.{PermTree}
use Rattle.entry_planner.specs.declared.costs.BlockCost.{BlockCost}
use Rattle.entry_planner.specs.Plans.{costed}
use Rattle.certificate_format.specs.declared.header.Version.{Version}
use Rattle.certificate_format.specs.Spelling.{header_bytes, node_bytes}
use Rattle.plan_certificate.specs.Pieces.{taken, IsCut}
use Rattle.plan_certificate.specs.Written.{entry_bytes}
use Rattle.plan_certificate.proofs.Sent.{breaks_of_cut, put_then, cut_then, cut_more, cut_whole, cut_in_piece}
use Rattle.plan_certificate.proofs.pieces.send.Goals as goal

front : ℕ → Version → List ℕ
front count version = header_bytes (record { version = version; count = count })

-- the header, the entries and the root
parts :
    (held : List ℕ) (count n : ℕ) (version v : Version) (entries : List Entry) (listed costs : List BlockCost) (tree : PermTree) → held ≡ front count version
    → count ≡ n → version ≡ v → listed ≡ costs
    → held ++ (flat_map entry_bytes entries ++ node_bytes (costed listed 0 tree)) ≡ front n v ++
    (flat_map entry_bytes entries ++ node_bytes (costed costs 0 tree))
parts held count n version v entries listed costs tree is_held is_count is_version is_listed =
    ap₂ (λ (a : List ℕ) (cs : List BlockCost). a ++ (flat_map entry_bytes entries ++ node_bytes (costed cs 0 tree)))
    (is_held ∙ ap₂ front is_count is_version) is_listed

pub returns-in_default-clause-prints : goal.returns-in_default-clause-prints
unfolding front
returns-in_default-clause-prints g c =
    let now = taken g.W.Sink.contents g.W.Sink.failures g.W.Sink.stalls in
    let nodes = node_bytes (costed (g.P.WrittenPlan.planned c.args.plan.now).costs 0 (g.H.Halving.shape c.args.root.now)) in
    breaks_of_cut g.W.Sink.contents g.W.Sink.failures g.W.Sink.stalls _
    (subst (λ (b : List ℕ). IsCut [] (now c.args.sink.now) (now c.put_entries.new.sink) b)
    (parts _ _ _ _ _ _ _ _ _ c.header_piece-piece.ensures c.count.ensures c.version_for.ensures refl)
    (cut_whole _ _ _ _ (cut_more _ _ _ _ nodes c.in_default.ensures.cut)))

pub returns-in_default-put_node-clause-prints : goal.returns-in_default-put_node-clause-prints
unfolding front
returns-in_default-put_node-clause-prints g c =
    let now = taken g.W.Sink.contents g.W.Sink.failures g.W.Sink.stalls in
    let nodes = node_bytes (costed c.split_costs.result.now 0 (g.H.Halving.shape c.args.root.now)) in
    breaks_of_cut g.W.Sink.contents g.W.Sink.failures g.W.Sink.stalls _
    (subst (λ (b : List ℕ). IsCut [] (now c.args.sink.now) (now c.put_node.new.sink) b)
    (parts _ _ _ _ _ _ _ _ _ c.header_piece-piece.ensures c.count.ensures c.version_for.ensures c.split_costs.ensures)
    (cut_whole _ _ _ _ (cut_then _ _ _ _ _ _ _ c.in-Ok.ensures.put c.in_default-put_node.ensures.cut)))

pub returns-in_default-write_whole-clause-prints : goal.returns-in_default-write_whole-clause-prints
unfolding front
returns-in_default-write_whole-clause-prints g c =
    let now = taken g.W.Sink.contents g.W.Sink.failures g.W.Sink.stalls in
    let nodes = node_bytes (costed c.split_costs.result.now 0 (g.H.Halving.shape c.args.root.now)) in
    let put = put_then _ _ _ _ _ _ _ _ c.in-Ok.ensures.put c.in-Ok-put_node.ensures.put in
    let cut : IsCut c.put_node.new.piece.items (now c.put_node.new.sink) (now c.write_whole.new.sink) [] =
    cut_in_piece _ _ _ [] (rw c.as_slice.ensures.value at c.in_default-write_whole.ensures.part) c.in_default-write_whole.ensures.fails
    in
    breaks_of_cut g.W.Sink.contents g.W.Sink.failures g.W.Sink.stalls _
    (subst (λ (b : List ℕ). IsCut [] (now c.args.sink.now) (now c.write_whole.new.sink) b)
    (parts _ _ _ _ _ _ _ _ _ c.header_piece-piece.ensures c.count.ensures c.version_for.ensures c.split_costs.ensures)
    (cut_whole _ _ _ _
    (subst (λ (b : List ℕ). IsCut c.header_piece-piece.result.items (now c.args.sink.now) (now c.write_whole.new.sink) b)
    (append-nil (flat_map entry_bytes (g.P.WrittenPlan.planned c.args.plan.now).entries ++ nodes)) (cut_then _ _ _ _ _ _ _ put cut))))
