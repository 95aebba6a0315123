use Rattle.std.proofs.Common.{◌≡◌, ◌-◌, ◌<◌, ◌≤◌, ℕ, true}
use Rattle.platforms.proofs.ShortNames.{is_among}
use Rattle.platforms.proofs.ranges.are_among.Given as goal

abbrev pub invariant-loop-at : goal.invariant-loop-at
invariant-loop-at l = record {
  begins : l.first ≤ l.at;
  covered : (page : ℕ) → l.first ≤ page → page < l.at → is_among l.ranges page ≡ true;
}

abbrev pub decreases-loop-at : goal.decreases-loop-at
decreases-loop-at l = l.end - l.at
