use Rattle.std.proofs.Common.{◌≡◌, ◌≤◌, ◌-◌, ◌++◌, replicate}
use Rattle.host_tree.proofs.bytes.put_zeros.Given as goal

abbrev pub invariant-zeros : goal.invariant-zeros
invariant-zeros l = record {
  within : l.left ≤ l.count;
  items : l.out.items ≡ l.initial.out.items ++ replicate (l.count - l.left) 0;
}

abbrev pub decreases-zeros : goal.decreases-zeros
decreases-zeros l = l.left
