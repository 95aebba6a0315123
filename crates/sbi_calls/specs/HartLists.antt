-- The list of harts in a call. (SBI, chapter 3, "Hart list parameter")
use Rattle.std.specs.Prelude.{◌≡◌, ℕ, ◌-◌, ◌*◌, ◌^◌, ◌≤◌, ◌⊎◌, ◌==◌, ◌&&◌, nat_lt}
use Rattle.std.specs.Prelude.{Option, Some, None, if◌then◌else◌}
use Rattle.std.specs.Int.{bit_at}

-- the word with the bits of the first `count` harts
abbrev pub all_harts : ℕ → ℕ
all_harts count = 2 ^ count - 1

-- the harts of a mask, whose lowest bit is the base: all harts of the board if the base is all
-- ones; none if the base or a hart of the mask is not on the board
abbrev pub hart_list : ℕ → ℕ → ℕ → Option ℕ
hart_list count mask base =
    if base == all_harts 64 then Some (all_harts count)
    else if nat_lt base count && nat_lt mask (2 ^ (count - base)) then Some (mask * 2 ^ base)
    else None

-- the mask names the hart
abbrev pub Names : ℕ → ℕ → ℕ → Type 0
Names mask base hart = (base ≡ all_harts 64) ⊎ ((base ≤ hart) × (bit_at mask (hart - base) ≡ 1))
