-- A place that lacks room for a host's tree.
use Rattle.std.proofs.Common.{◌≡◌, ℕ, ◌+◌, ◌<◌, ◌≤◌, List, length, subst, arith}
use Rattle.device_tree.specs.declared.rows.Extent.{Extent}
use Rattle.host_tree.specs.declared.reserved.Reserved.{Reserved}
use Rattle.host_tree.specs.HostTrees.{LacksRoom, Needs}

-- a tree that has no more bytes than it needs, and is longer than its place
pub lacks : (harts : ℕ) (x ranges : List Extent) (y reserved : List Reserved) (place : List ℕ) (long free : ℕ) → x ≡ ranges → y ≡ reserved
    → (size : ℕ) × Needs (record { harts = harts; ranges = x }) y place size × (long ≤ size + free) → length place < long
    → LacksRoom (record { harts = harts; ranges = ranges }) reserved place free
lacks harts x ranges y reserved place long free e f needs longer = (
  needs.0,
  subst (λ (z : List Extent). Needs (record { harts = harts; ranges = z }) reserved place needs.0) e
      (subst (λ (z : List Reserved). Needs (record { harts = harts; ranges = x }) z place needs.0) f needs.1),
  omega (arith, needs.2, longer),
)
