use Rattle.std.proofs.Common.{inl, inr, ◌⊎◌, ◌+◌, ◌^◌, ◌<◌, slice_index_or, arith}
use Rattle.pmp_encoding.specs.declared.perm.Perm.TheVariants.{NoAccess}
use Rattle.permission_map.specs.declared.runs.Run.{Run}
use Rattle.permission_map.specs.Runs.{end_of}
use Rattle.prefix_tree.proofs.Canonical.{none_at, one_at, more_at}
use Rattle.prefix_tree.proofs.map_blocks.uniform_perm.Goals.{else-run-first-via-then-run-first+else-end-run, else-run-first-via-else-run-first}
use Rattle.prefix_tree.proofs.map_blocks.uniform_perm.Goals as goal

pub returns-in_default : goal.returns-in_default
returns-in_default c = none_at c.args.runs.now c.args.height c.args.first c.in_default.len_below

pub returns-then-end-run : goal.returns-then-end-run
returns-then-end-run c =
    one_at c.args.runs.now _ c.args.height c.args.first c.in-len1-up.len_at_least (omega (arith, c.if-run-first.true))
    (omega (arith, c.if-end-run.true, c.pages_of.ensures))

pub returns : goal.returns
returns c =
    let d : Run = record { first = 0; count = 0; perm = NoAccess } in
    let first = slice_index_or c.args.runs.now 0 d in
    let cut : (c.args.first < first.first) ⊎ (end_of first < c.args.first + 2 ^ c.args.height) =
    elim c.else-run-first.branch [
      | else-run-first-via-then-run-first+else-end-run w ↦ inr
          (omega (arith, w.if-end-run, w.if-run-first, c.pages_of.ensures))
      | else-run-first-via-else-run-first w ↦ inl (omega (arith, w.if-run-first))
    ] in
    more_at c.args.runs.now d c.args.height c.args.first c.in-len1-up.len_at_least c.requires cut
