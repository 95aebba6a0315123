-- Each segment that is put in its place is one of the bank's list.
use Rattle.std.proofs.lemmas.List.Elements.{All-replicate, All-set}
use Rattle.pmp_match.specs.Segments.{IsSegmentOf}
use Rattle.pmp_match.proofs.Segmented.{nowhere}
use Rattle.pmp_match.proofs.segments.Segments.of.Goals as goal
use Rattle.pmp_match.proofs.segments.Segments.of.Goals.{in-Some+then-used-lt-SEGMENTS, in-Some+else-used-lt-SEGMENTS, in_default}

pub loop-i-init : goal.loop-i-init
loop-i-init c = All-replicate (IsSegmentOf c.args.bank.now) 128 _ (nowhere c.args.bank.now)

pub loop-i-preserved : goal.loop-i-preserved
loop-i-preserved c =
    elim c.match-between.branch [
      | in-Some+then-used-lt-SEGMENTS w ↦ rw w.segments-is
          (All-set (IsSegmentOf c.args.bank.now) c.loop-i.segments c.loop-i.used _ w.in-Some.ensures c.loop-i.invariant)
      | in-Some+else-used-lt-SEGMENTS w ↦ rw w.segments-is c.loop-i.invariant
      | in_default w ↦ rw w.segments-is c.loop-i.invariant
    ]
