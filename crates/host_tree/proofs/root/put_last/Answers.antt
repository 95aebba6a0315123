use Rattle.std.proofs.Common.{◌++◌, ◌∷◌, []}
use Rattle.device_tree.specs.Pieces.{ends}
use Rattle.device_tree.specs.Nodes.{parts_of_nodes}
use Rattle.host_tree.specs.Ranges.{range_nodes}
use Rattle.std.proofs.lemmas.Result.{err_from_is_err_and}
use Rattle.device_tree.specs.declared.kinds.Place.TheVariants.{BelowRoot}
use Rattle.device_tree.specs.Windows.{same}
use Rattle.host_tree.proofs.Refused.{put_refused, range_refused, ranged}
use Rattle.host_tree.proofs.Adding.{adds_both}
use Rattle.host_tree.proofs.root.put_last.Goals as goal

pub returns-in-Ok-clause-ok : goal.returns-in-Ok-clause-ok
returns-in-Ok-clause-ok c = λ later behind e none.
    let rest = c.after_end-later.ensures.parts (parts_of_nodes later ++ behind) e in
    let noted = c.in-Ok.ensures.ok later behind rest none in (
      noted.1,
      noted.2,
      adds_both _ _ _ (parts_of_nodes (range_nodes c.args.cells.now c.args.ranges.now)) (ends ∷ parts_of_nodes noted.1) c.in_ok-put_ranges.ensures.written
          (adds_both _ _ _ (ends ∷ []) (parts_of_nodes noted.1) c.in_ok-put_end.ensures.put noted.3),
    )

pub returns-in_err-put_ranges-clause-refused : goal.returns-in_err-put_ranges-clause-refused
returns-in_err-put_ranges-clause-refused c =
    let p = err_from_is_err_and c.from_residual.result c.from_residual.ensures.1 in
    rw (p.1, p.2) (λ later behind e none. range_refused BelowRoot c.args.cells.now same c.args.ranges.now later _ c.in_err-put_ranges.ensures.refused)

pub returns-in_err-put_end-clause-refused : goal.returns-in_err-put_end-clause-refused
returns-in_err-put_end-clause-refused c =
    let p = err_from_is_err_and c.from_residual-in_err-put_end.result c.from_residual-in_err-put_end.ensures.1 in
    rw (p.1, p.2) (λ later behind e none. put_refused BelowRoot c.args.cells.now same c.args.ranges.now later _ c.in_err-put_end.ensures.refused)

pub returns-in-Err-clause-refused : goal.returns-in-Err-clause-refused
returns-in-Err-clause-refused c = λ later behind e none.
    let rest = c.after_end-later.ensures.parts (parts_of_nodes later ++ behind) e in
    ranged BelowRoot c.args.cells.now same c.args.ranges.now later c.in-Err.fault (c.in-Err.ensures.refused later behind rest none)
