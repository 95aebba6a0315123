-- Stretches that all agree give each byte the map's permission.
use Rattle.std.proofs.Common.{◌^◌, arith}
use Rattle.std.proofs.lemmas.List.Elements.{recursion_from_All}
use Rattle.permission_map.specs.Runs.{view_of_runs}
use Rattle.pmp_match.specs.RegisterDecision.{IsWords}
use Rattle.pmp_match.proofs.RegistersUncut.{means_from_bytes}
use Rattle.register_audit.proofs.Agreed.{agreed, difference}
use Rattle.register_audit.proofs.Cut.{never_cut}
use Rattle.register_audit.proofs.finding.compare.Goals as goal

pub returns-in-Some : goal.returns-in-Some
returns-in-Some c = difference (view_of_runs c.args.map.now) c.args.extents.now (2 ^ 56) _ c.in-Some.stretch c.in_ok-all.ensures
    (rw c.as_slice.ensures.value at c.in-Some.ensures)

pub returns-in-Some-first_cut : goal.returns-in-Some-first_cut
returns-in-Some-first_cut c = record {
  same = λ byte inside. agreed (view_of_runs c.args.map.now) c.args.extents.now 0 (2 ^ 56) _ c.in_ok-all.ensures
      (rw c.as_slice.ensures.value at c.in_default.ensures) byte (omega arith) inside;
  first = c.in-Some-first_cut.ensures;
}

pub returns : goal.returns
returns c =
    let view = view_of_runs c.args.map.now in
    let extents = c.args.extents.now in
    let words = recursion_from_All IsWords extents c.requires in
    means_from_bytes extents view words
    (λ byte inside. agreed view extents 0 (2 ^ 56) _ c.in_ok-all.ensures (rw c.as_slice.ensures.value at c.in_default.ensures) byte (omega arith) inside)
    (never_cut view extents words c.in_default-first_cut.ensures)
