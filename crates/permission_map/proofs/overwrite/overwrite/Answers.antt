use Rattle.std.proofs.Common.{◌≤◌, ◌<◌, ◌+◌, ◌++◌, take, drop, length, All, option_to_list, arith, refl}
use Rattle.pmp_encoding.specs.declared.perm.Perm.TheVariants.{NoAccess}
use Rattle.permission_map.specs.Runs.{end_of}
use Rattle.permission_map.specs.Overwrite.{IsBelow, IsAbove}
use Rattle.permission_map.proofs.Answered.{none_wanted, in_order, wanted_is}
use Rattle.permission_map.proofs.overwrite.overwrite.Goals as goal

pub replace-requires-clause-order : goal.replace-requires-clause-order
replace-requires-clause-order c =
    let inside : c.clear_of-from.result ≤ length c.args.runs.now.items = rw c.deref.ensures.value at c.clear_of-from.ensures.bound in
    let low : All (λ run. end_of run < c.args.first) (take c.clear_of-from.result c.args.runs.now.items) = rw c.deref.ensures.value at
    c.clear_of-from.ensures.front in
    let high : All (λ run. c.args.first + c.args.count < run.first) (drop c.begun-to.result c.args.runs.now.items) = rw c.deref-2.ensures.value at
    c.begun-to.ensures.rest in
    in_order c.args.runs.now.items c.clear_of-from.result c.begun-to.result c.args.first (c.args.first + c.args.count)
    (record { first = 0; count = 0; perm = NoAccess })
    inside low high (omega arith)

pub returns-then-count-eq0 : goal.returns-then-count-eq0
returns-then-count-eq0 c =
    (c.args.runs.now.items, none_wanted c.args.runs.now.items c.args.first c.args.count c.args.perm c.requires.runs c.if-count-eq0.true, (refl, c.requires.few))

pub returns : goal.returns
returns c =
    let low : IsBelow c.args.runs.now.items c.args.first c.args.perm (take c.clear_of-from.result c.args.runs.now.items
    ++ option_to_list c.rest_below-below.result.0) c.rest_below-below.result.1 =
    rw c.deref-3.ensures.value at c.rest_below-below.ensures in
    let high : IsAbove c.args.runs.now.items (c.args.first + c.args.count) c.args.perm
    (option_to_list c.rest_above-above.result.0 ++ drop c.begun-to.result c.args.runs.now.items) c.rest_above-above.result.1 =
    rw c.deref-4.ensures.value at c.rest_above-above.ensures in (
      _,
      wanted_is c.args.runs.now.items c.args.first c.args.count c.clear_of-from.result c.begun-to.result c.args.perm c.rest_below-below.result.1
          c.rest_above-above.result.1
          c.rest_below-below.result.0 c.new_run-new.result c.rest_above-above.result.0 (omega arith) low high c.new_run-new.ensures,
      c.replace.ensures,
    )
