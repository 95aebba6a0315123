-- The costs of a block are small, by the number of its split blocks.
use Rattle.std.proofs.Common.{◌≡◌, ℕ, ◌+◌, ◌*◌, ◌^◌, ◌<◌, ◌≤◌, ◌&&◌, Bool, true, false, arith, Some, if◌then◌else◌}
use Rattle.pmp_encoding.specs.declared.perm.Perm.{Perm}
use Rattle.pmp_encoding.specs.declared.perm.Perm.TheVariants.{NoAccess, Read, ReadWrite, Execute, ReadExecute, ReadWriteExecute}
use Rattle.pmp_encoding.specs.Perms.{perm_eq}
use Rattle.prefix_tree.specs.Counts.{splits, first_perm, last_perm}
use Rattle.prefix_tree.specs.Trees.{PermTree, Uniform, Split}
use Rattle.prefix_tree.specs.Joined.{one_perm}
use Rattle.entry_planner.specs.Costs.{least_of, cost}
use Rattle.entry_planner.proofs.CostLemmas.{least_le}
use Rattle.chain_planner.specs.declared.costs.Costs.{Costs}
use Rattle.chain_planner.specs.declared.six.Six.{Six}
use Rattle.chain_planner.specs.ChainCosts.{change, past_middle, through, begins, changes_in}
use Rattle.chain_planner.specs.Choices.{AreCosts, AreSmall}
use Rattle.chain_planner.specs.Sixes.{AreBelow, AreAllBelow, at}
use Rattle.chain_planner.proofs.Changes.{change_same, change_one}

cost_most : (tree : PermTree) (p : Perm) → cost tree p ≤ splits tree + 1
cost_most (Uniform v) p = change_one v p
cost_most (Split lower upper) p = omega (arith, cost_most lower p, cost_most upper p)

through_most : (tree : PermTree) (p q : Perm) → through tree p q ≤ 3 * splits tree + 2
through_most (Uniform v) p q = go (perm_eq p v && perm_eq v q)
  where
    go : (t : Bool) → (if t then 0 else 1 + change p q) ≤ 3 * 0 + 2
    go true = omega arith
    go false = omega (arith, change_one p q)
through_most (Split lower upper) p q =
    let middle : past_middle (through lower p) NoAccess ≤ through lower p NoAccess + change NoAccess NoAccess =
    least_le (λ m. through lower p m + change m NoAccess) NoAccess in
    let all : least_of (λ n. past_middle (through lower p) n + through upper n q) ≤ past_middle (through lower p) NoAccess + through upper NoAccess q =
    least_le (λ n. past_middle (through lower p) n + through upper n q) NoAccess in
    omega (arith, middle, all, change_same NoAccess, through_most lower p NoAccess, through_most upper NoAccess q)

begins_most : (tree : PermTree) (q : Perm) → begins tree q ≤ 3 * splits tree + 2
begins_most (Uniform v) q = omega arith
begins_most (Split lower upper) q =
    let middle : past_middle (begins lower) NoAccess ≤ begins lower NoAccess + change NoAccess NoAccess =
    least_le (λ m. begins lower m + change m NoAccess) NoAccess in
    let all : least_of (λ n. past_middle (begins lower) n + through upper n q) ≤ past_middle (begins lower) NoAccess + through upper NoAccess q =
    least_le (λ n. past_middle (begins lower) n + through upper n q) NoAccess in
    omega (arith, middle, all, change_same NoAccess, begins_most lower NoAccess, through_most upper NoAccess q)

changes_most : (tree : PermTree) → changes_in tree ≤ splits tree
changes_most (Uniform v) = omega arith
changes_most (Split lower upper) =
    omega (arith, changes_most lower, changes_most upper, change_one (last_perm lower) (first_perm upper))

row_below : (n : ℕ) (row : Six ℕ) → ((p : Perm) → at row p < n) → AreBelow n row
row_below n row is = record {
  none = is NoAccess;
  read = is Read;
  read_write = is ReadWrite;
  execute = is Execute;
  read_execute = is ReadExecute;
  all = is ReadWriteExecute;
}

table_below : (n : ℕ) (table : Six (Six ℕ)) → ((p q : Perm) → at (at table p) q < n) → AreAllBelow n table
table_below n table is = record {
  none = row_below n table.none (is NoAccess);
  read = row_below n table.read (is Read);
  read_write = row_below n table.read_write (is ReadWrite);
  execute = row_below n table.execute (is Execute);
  read_execute = row_below n table.read_execute (is ReadExecute);
  all = row_below n table.all (is ReadWriteExecute);
}

pub costs_small : (costs : Costs) (tree : PermTree) → AreCosts costs tree → splits tree ≤ 88 * 4096 → AreSmall (2 ^ 22) costs
costs_small costs tree are few = record {
  own = row_below (2 ^ 22) costs.own (λ p. omega (arith, are.own p, cost_most tree p, few));
  through = table_below (2 ^ 22) costs.through (λ p q. omega (arith, are.through p q, through_most tree p q, few));
  begins = row_below (2 ^ 22) costs.begins (λ q. omega (arith, are.begins q, begins_most tree q, few));
  changes = omega (arith, are.changes, changes_most tree, few);
}

pub uniform_is : (tree : PermTree) (v : Perm) → one_perm tree ≡ Some v → tree ≡ Uniform v
uniform_is (Uniform u) v is = cc
uniform_is (Split lower upper) v is = cc
