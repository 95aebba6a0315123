use Rattle.std.proofs.Common.{◌≡◌, ◌++◌, ◌∷◌, ◌∙◌, [], Bool, List, codes, map, ap, subst, sym, inr}
use Rattle.device_tree.specs.Pieces.{Part, begins, has, parts_of}
use Rattle.device_tree.specs.Windows.{path_of}
use Rattle.device_tree.specs.Meaning.{has_type, live_kind}
use Rattle.host_tree.specs.HostNodes.{node_settings}
use Rattle.host_tree.specs.HostTrees.{portion_of}
use Rattle.host_tree.specs.Settings.{host_settings}
use Rattle.host_tree.specs.Shares.{is_closed}
use Rattle.std.proofs.lemmas.Result.{err_from_is_err_and}
use Rattle.host_tree.specs.Refusals.{IsHeadFault}
use Rattle.host_tree.specs.declared.fault.MakeFault.{MakeFault}
use Rattle.host_tree.proofs.WriteFaults.{head_put, zero_first}
use Rattle.host_tree.proofs.Adding.{adds_both, adds_same}
use Rattle.host_tree.proofs.own_node.put_head.Goals as goal

pub returns-clause-put : goal.returns-clause-put
returns-clause-put c =
    let closed = c.in_ok-is_closed.ensures.ok in (
      closed.0,
      closed.1,
      λ own e.
          let Q = parts_of c.args.head.now.properties.now in
          let n = c.args.head.now.name.now in
          let way = path_of c.args.bus.1.now in
          let share = c.args.share.now in
          let place = c.args.place in
          let hart_is : c.is_hart.result ≡ has_type (codes "cpu") (map has own) = c.is_hart.ensures ∙ ap (λ (x : List Part). has_type (codes "cpu") x) e in
          let closed_is : c.in_ok-is_closed.is_closed ≡ is_closed share.harts share.ranges.now way (live_kind place (map has own)) closed.0 (map has own) =
          closed.2 ∙ ap (λ (x : List Part). is_closed share.harts share.ranges.now way (live_kind place x) closed.0 x) e in
          let same : map has (host_settings c.is_hart.result c.in_ok-is_closed.is_closed own) ≡ map has (node_settings (portion_of share) place way
          closed.0 own) =
          ap (λ (x : Bool). map has (host_settings x c.in_ok-is_closed.is_closed own)) hart_is
          ∙ ap (λ (x : Bool). map has (host_settings (has_type (codes "cpu") (map has own)) x own)) closed_is in
          adds_same _ _ ((begins n ∷ []) ++ map has (host_settings c.is_hart.result c.in_ok-is_closed.is_closed own))
          (begins n ∷ map has (node_settings (portion_of share) place way closed.0 own)) (ap (λ (x : List Part). begins n ∷ x) same)
          (adds_both _ _ _ (begins n ∷ []) (map has (host_settings c.is_hart.result c.in_ok-is_closed.is_closed own)) c.in_ok-put_begin.ensures.put
          (c.in_ok-put_properties.ensures.put own e)),
    )

pub returns-in_err-is_closed-clause-refused : goal.returns-in_err-is_closed-clause-refused
returns-in_err-is_closed-clause-refused c =
    let Q = parts_of c.args.head.now.properties.now in
    let n = c.args.head.now.name.now in
    let cells = c.args.bus.0.now in
    let p = err_from_is_err_and c.from_residual.result c.from_residual.ensures.1 in
    rw (p.1, p.2) (
    let why = c.in_err-is_closed.ensures.refused in
    subst (λ (x : MakeFault). IsHeadFault c.args.place cells Q (begins n ∷ Q) x) (sym why.1) why.2)

pub returns-in_err-put_begin-clause-refused : goal.returns-in_err-put_begin-clause-refused
returns-in_err-put_begin-clause-refused c =
    let Q = parts_of c.args.head.now.properties.now in
    let n = c.args.head.now.name.now in
    let cells = c.args.bus.0.now in
    let p = err_from_is_err_and c.from_residual-in_err-put_begin.result c.from_residual-in_err-put_begin.ensures.1 in
    rw (p.1, p.2) (head_put c.args.place cells Q (begins n ∷ []) (begins n ∷ Q) (λ zero. zero_first (begins n ∷ []) Q zero) _
    c.in_err-put_begin.ensures.refused)

pub returns-in_err-put_properties-clause-refused : goal.returns-in_err-put_properties-clause-refused
returns-in_err-put_properties-clause-refused c =
    let Q = parts_of c.args.head.now.properties.now in
    let n = c.args.head.now.name.now in
    let cells = c.args.bus.0.now in
    let p = err_from_is_err_and c.from_residual-in_err-put_properties.result c.from_residual-in_err-put_properties.ensures.1 in
    rw (p.1, p.2) (head_put c.args.place cells Q Q (begins n ∷ Q) (λ zero. inr zero) _ c.in_err-put_properties.ensures.refused)
