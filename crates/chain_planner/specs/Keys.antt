-- Costs and choices in one number: 64 times a cost, and a choice that attains it.
use Rattle.std.specs.Prelude.{ℕ, ◌+◌, ◌*◌, min}
use Rattle.pmp_encoding.specs.declared.perm.Perm.{Perm}
use Rattle.pmp_encoding.specs.Perms.{index_of}
use Rattle.entry_planner.specs.Costs.{least_of}
use Rattle.chain_planner.specs.ChainCosts.{change}

-- with n just above the middle: 8 times the least of the lower half and a change to n, and the
-- permission just below the middle
abbrev pub middle_key : (Perm → ℕ) → Perm → ℕ
middle_key low n = min (8 * low n + index_of n) (least_of (λ m. 8 * low m + (8 + index_of m)))

-- the least over the permissions just above the middle, and the two permissions there
abbrev pub pass_key : (Perm → ℕ) → (Perm → Perm → ℕ) → Perm → ℕ
pass_key middle upper q = least_of (λ n. 8 * middle n + (64 * upper n q + index_of n))

-- or choice 48, an entry of the whole block
abbrev pub through_key : (Perm → ℕ) → (Perm → Perm → ℕ) → ℕ → Perm → Perm → ℕ
through_key low upper cover p q = min (pass_key (middle_key low) upper q)
    (64 * (cover + change p q) + 48)

-- for a chain that begins in the block: in the upper half is choice 49
abbrev pub begins_key : (Perm → ℕ) → (Perm → Perm → ℕ) → ℕ → ℕ → Perm → ℕ
begins_key low upper cover later q = min (pass_key (middle_key low) upper q)
    (min (64 * later + 49) (64 * cover + 48))

-- without a chain: choice 0 is the entries of the halves, choice 1 an entry of the block under them
abbrev pub own_key : (Perm → ℕ) → ℕ → Perm → ℕ
own_key base cover p = min (64 * base p) (64 * cover + 1)

-- the best permission of an entry of the block
abbrev pub cover_key : (Perm → ℕ) → ℕ
cover_key base = least_of (λ r. 8 * base r + index_of r)
