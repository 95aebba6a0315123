use Rattle.std.proofs.Common.{◌≡◌, ◌+◌, ◌-◌, ◌^◌, ◌<◌, suc, arith}
use Rattle.std.proofs.lemmas.Result.{IfOk-weaker}
use Rattle.permission_map.specs.Views.{overwritten}
use Rattle.prefix_tree.specs.Shapes.{shape_of}
use Rattle.prefix_tree.proofs.Counted.{Fits-more}
use Rattle.prefix_tree.proofs.Halved.{halves}
use Rattle.prefix_tree.proofs.Joins.{joined_canonical, joined_fits}
use Rattle.prefix_tree.proofs.Overwritten.{lower_fits, upper_fits, lower_canonical, upper_canonical, overwritten_means, apart_means}
use Rattle.prefix_tree.proofs.overwrite.+overwritten_block.Goals as goal

pub returns-in-Apart-clause-means : goal.returns-in-Apart-clause-means
returns-in-Apart-clause-means t c =
    let run = c.args.run.now in
    IfOk-weaker c.share.result _ _
    (λ b shape view means. rw shape (apart_means view c.args.height c.args.first c.args.run.now.first c.args.run.now.count c.args.run.now.perm
    (shape_of c.args.block.now) c.in-Apart.ensures means))
    c.share.ensures.shape

pub overwritten_block-requires : goal.overwritten_block-requires
overwritten_block-requires t c =
    let some : 0 < c.args.height = c.in-Partly.ensures in
    let e : c.args.height ≡ suc (c.args.height - 1) = omega arith in
    let halved : 2 ^ c.args.height ≡ 2 ^ (c.args.height - 1) + 2 ^ (c.args.height - 1) = halves c.args.height some in (
      omega arith,
      (
        omega arith,
        (
          omega arith,
          (
            c.requires.run,
            (
              rw c.halves_of.ensures.lower (lower_fits c.args.height (c.args.height - 1) (shape_of c.args.block.now) e c.requires.fits),
              (rw c.halves_of.ensures.lower (lower_canonical (shape_of c.args.block.now) c.requires.canonical), c.halves_of.ensures.lower_summed),
            ),
          ),
        ),
      ),
    )

pub overwritten_block-requires-2 : goal.overwritten_block-requires-2
overwritten_block-requires-2 t c =
    let some : 0 < c.args.height = c.in-Partly.ensures in
    let e : c.args.height ≡ suc (c.args.height - 1) = omega arith in
    let halved : 2 ^ c.args.height ≡ 2 ^ (c.args.height - 1) + 2 ^ (c.args.height - 1) = halves c.args.height some in (
      omega arith,
      (
        omega arith,
        (
          omega (arith, c.pages_of.ensures),
          (
            c.requires.run,
            (
              rw c.halves_of.ensures.upper (upper_fits c.args.height (c.args.height - 1) (shape_of c.args.block.now) e c.requires.fits),
              (rw c.halves_of.ensures.upper (upper_canonical (shape_of c.args.block.now) c.requires.canonical), c.halves_of.ensures.upper_summed),
            ),
          ),
        ),
      ),
    )

pub join-requires-clause-lower_fits : goal.join-requires-clause-lower_fits
join-requires-clause-lower_fits t c = Fits-more (c.args.height - 1) 43 (shape_of c.in_ok-lower.lower) (omega arith) c.in_ok-lower.ensures.fits

pub join-requires-clause-upper_fits : goal.join-requires-clause-upper_fits
join-requires-clause-upper_fits t c = Fits-more (c.args.height - 1) 43 (shape_of c.in_ok-upper.upper) (omega arith) c.in_ok-upper.ensures.fits

pub returns-clause-means : goal.returns-clause-means
returns-clause-means t c =
    let some : 0 < c.args.height = c.in-Partly.ensures in
    let e : c.args.height ≡ suc (c.args.height - 1) = omega arith in
    let low = rw c.halves_of.ensures.lower at c.in_ok-lower.ensures.means in
    let high = rw (c.halves_of.ensures.upper, c.pages_of.ensures) at c.in_ok-upper.ensures.means in
    IfOk-weaker c.join.result _ _
    (λ b shape view means.
    rw shape
    (overwritten_means view (overwritten view c.args.run.now.first c.args.run.now.count c.args.run.now.perm) c.args.height (c.args.height - 1) c.args.first
    (shape_of c.args.block.now) (shape_of c.in_ok-lower.lower) (shape_of c.in_ok-upper.upper) e means (low view) (high view)))
    c.join.ensures.shape

pub returns-clause-fits : goal.returns-clause-fits
returns-clause-fits t c =
    let some : 0 < c.args.height = c.in-Partly.ensures in
    let e : c.args.height ≡ suc (c.args.height - 1) = omega arith in
    IfOk-weaker c.join.result _ _
    (λ b shape. rw shape (joined_fits c.args.height (c.args.height - 1) (shape_of c.in_ok-lower.lower)
    (shape_of c.in_ok-upper.upper) e c.in_ok-lower.ensures.fits c.in_ok-upper.ensures.fits))
    c.join.ensures.shape

pub returns-clause-canonical : goal.returns-clause-canonical
returns-clause-canonical t c =
    IfOk-weaker c.join.result _ _
    (λ b shape. rw shape (joined_canonical (shape_of c.in_ok-lower.lower)
    (shape_of c.in_ok-upper.upper) c.in_ok-lower.ensures.canonical c.in_ok-upper.ensures.canonical))
    c.join.ensures.shape
