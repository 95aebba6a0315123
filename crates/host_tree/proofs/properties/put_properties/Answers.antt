use Rattle.std.proofs.Common.{◌++◌, [], map, sym}
use Rattle.device_tree.specs.Pieces.{has, parts_of}
use Rattle.host_tree.specs.Settings.{host_settings, left_settings, status_of}
use Rattle.std.proofs.lemmas.Result.{err_from_is_err_and}
use Rattle.host_tree.proofs.WriteFaults.{put_in}
use Rattle.host_tree.proofs.Adding.{adds_both, adds_same, map-both}
use Rattle.host_tree.proofs.properties.put_properties.Goals as goal

pub returns-clause-put : goal.returns-clause-put
returns-clause-put c = λ own e.
    let status = status_of c.args.is_closed in
    let left = left_settings c.args.is_hart c.args.is_closed own in
    adds_same _ _ (map has status ++ map has left) (map has (host_settings c.args.is_hart c.args.is_closed own)) (sym (map-both status left))
    (adds_both _ _ _ (map has status) (map has left) c.in_ok-put_status.ensures.put (c.in_ok-put_all_left.ensures.put own e))

pub returns-in_err-put_status-clause-refused : goal.returns-in_err-put_status-clause-refused
returns-in_err-put_status-clause-refused c =
    let p = err_from_is_err_and c.from_residual.result c.from_residual.ensures.1 in
    rw (p.1, p.2) (put_in [] (parts_of c.args.properties.now) (λ zero. absurd zero) _ c.in_err-put_status.ensures.refused)
