-- The first extent that has the byte decides up to its end, or to where one before it begins.
use Rattle.std.proofs.Common.{None, Some, ap, get_or}
use Rattle.pmp_encoding.specs.declared.perm.Perm.TheVariants.{NoAccess}
use Rattle.pmp_match.specs.Tor.{nowhere}
use Rattle.map_table.proofs.Covered.{Says, says_first, says_none}
use Rattle.map_table.proofs.covering.covering_from.Goals as goal

nothing : (c : goal.After-next_cut-end) → Says c.args.extents.now c.args.at c.next_cut-end.result None NoAccess
nothing c = says_none c.args.extents.now c.args.at c.next_cut-end.result c.requires.at c.requires.words c.in_default.ensures
    (rw c.extents.ensures at c.next_cut-end.ensures)

first : (c : goal.After-next_cut-end-2) → Says c.args.extents.now c.args.at c.next_cut-end-2.result (Some c.in-Some.i)
    (get_or c.extents-2.result.now c.in-Some.i nowhere).perm
first c = says_first c.args.extents.now c.in-Some.i c.args.at c.next_cut-end-2.result (get_or c.extents-2.result.now c.in-Some.i nowhere)
    (ap (λ xs. get_or xs c.in-Some.i nowhere) c.extents-2.ensures) c.requires.words c.in-Some.ensures c.next_cut-end-2.ensures

pub returns-in_default-clause-some : goal.returns-in_default-clause-some
returns-in_default-clause-some c = (nothing c).some

pub returns-in_default-clause-decided : goal.returns-in_default-clause-decided
returns-in_default-clause-decided c = (nothing c).decided

pub returns-in_default-clause-given : goal.returns-in_default-clause-given
returns-in_default-clause-given c = (nothing c).given

pub returns-in_default-clause-changes : goal.returns-in_default-clause-changes
returns-in_default-clause-changes c = (nothing c).changes

pub returns-clause-some : goal.returns-clause-some
returns-clause-some c = (first c).some

pub returns-clause-inside : goal.returns-clause-inside
returns-clause-inside c = (first c).inside

pub returns-clause-decided : goal.returns-clause-decided
returns-clause-decided c = (first c).decided

pub returns-clause-given : goal.returns-clause-given
returns-clause-given c = (first c).given

pub returns-clause-changes : goal.returns-clause-changes
returns-clause-changes c = (first c).changes
