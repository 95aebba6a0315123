use Rattle.std.proofs.Common.{◌≡◌, ◌+◌, ◌-◌, arith, slice_index}
use Rattle.hart_sim.proofs.Bytes.{fits_more, fits_times, number_before, number_none, small_before, small_none}
use Rattle.hart_sim.proofs.page_bytes.number_of.Goals as goal

pub loop-left-init : goal.loop-left-init
loop-left-init c =
    let none : c.args.size - c.args.size ≡ 0 = omega arith in
    record {
      within = omega arith;
      value = number_none (slice_index c.args.page.now) (c.args.at + c.args.size) (c.args.size - c.args.size) none;
      small = small_none (c.args.size - c.args.size) none;
    }

pub overflow_mul-number : goal.overflow_mul-number
overflow_mul-number c = omega (
  arith,
  fits_times (c.args.size - c.loop-left.left) c.loop-left.number
      (omega (arith, c.requires.size, c.loop-left-test.true)) c.loop-left.invariant.small,
)

pub overflow_add-number : goal.overflow_add-number
overflow_add-number c =
    let byte = c.fits-page (c.args.at + (c.loop-left.left - 1)) in
    omega (
      arith,
      fits_more (c.args.size - c.loop-left.left) c.from.result c.loop-left.number (omega (arith, c.requires.size, c.loop-left-test.true))
          (omega (arith, byte, c.from.ensures)) c.loop-left.invariant.small,
    )

pub loop-left-preserved : goal.loop-left-preserved
loop-left-preserved c =
    let byte = c.fits-page (c.args.at + (c.loop-left.left - 1)) in
    record {
      within = omega (arith, c.loop-left.invariant.within);
      value = number_before (slice_index c.args.page.now) c.args.at c.loop-left.left c.args.size c.from.result c.loop-left.number c.loop-left-test.true
          c.loop-left.invariant.within c.from.ensures c.loop-left.invariant.value;
      small = small_before c.loop-left.left c.args.size c.from.result c.loop-left.number c.loop-left-test.true c.loop-left.invariant.within
          (omega (arith, byte, c.from.ensures)) c.loop-left.invariant.small;
    }
