use Rattle.sbi_calls.proofs.HartLists.{all_named, fewer, listed, moved, some_named}
use Rattle.sbi_calls.proofs.hart_lists.hart_list.Goals as goal

pub returns-clause-value : goal.returns-clause-value
returns-clause-value c =
    listed c.args.count c.args.mask c.args.base c.requires c.if-base-eq18446744073709551615.false c.if-base-count.false
    c.all_harts-else-base-count.result c.all_harts-else-base-count.ensures c.if-mask-all_harts.false

pub returns-then-base-eq18446744073709551615-clause-named : goal.returns-then-base-eq18446744073709551615-clause-named
returns-then-base-eq18446744073709551615-clause-named c =
    rw c.all_harts.ensures (all_named c.args.count c.args.mask c.args.base c.if-base-eq18446744073709551615.true)

pub returns-clause-named : goal.returns-clause-named
returns-clause-named c =
    let few = fewer c.args.count c.args.mask c.args.base c.all_harts-else-base-count.result c.all_harts-else-base-count.ensures c.if-mask-all_harts.false in
    rw (moved c.args.count c.args.mask c.args.base c.requires c.if-base-count.false few)
    (some_named c.args.count c.args.mask c.args.base c.if-base-eq18446744073709551615.false c.if-base-count.false few)
