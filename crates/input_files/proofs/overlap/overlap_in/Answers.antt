use Rattle.std.proofs.Common.{◌+◌, All, arith, drop, refl}
use Rattle.std.proofs.lemmas.Option.{slice_get-get_or}
use Rattle.platforms.specs.Ranges.{AreRangesApart}
use Rattle.platforms.proofs.Apart.{one_more, rest_is}
use Rattle.input_files.specs.declared.breach.PlacedRange.{PlacedRange}
use Rattle.input_files.proofs.Overlaps.{each_apart}
use Rattle.input_files.proofs.overlap.overlap_in.Goals as goal

pub returns-in-Some-clause-some : goal.returns-in-Some-clause-some
returns-in-Some-clause-some c =
    let ranges = c.args.ranges.now in
    let met = rw (rest_is c.loop-i.i ranges) at c.in-Some.ensures.some in
    record {
      before = c.loop-i.i;
      behind = met.0;
      other_is = slice_get-get_or ranges c.loop-i.i _ c.loop-i-test.true;
      one_is = met.1;
      not_apart = met.2;
      none_before = c.loop-i.invariant;
      none_between = met.3;
    }

pub loop-i-preserved : goal.loop-i-preserved
loop-i-preserved c =
    one_more (λ k (x : PlacedRange). All (λ (other : PlacedRange). AreRangesApart x.bounds other.bounds) (drop (k + 1) c.args.ranges.now)) c.args.ranges.now
    c.loop-i.i _ c.loop-i-test.true
    c.loop-i.invariant (rw (rest_is c.loop-i.i c.args.ranges.now) at (c.in_default.ensures.none refl))

pub returns-clause-none : goal.returns-clause-none
returns-clause-none c = λ none. each_apart c.args.ranges.now (λ k d low. c.loop-i.invariant k d (omega arith))
