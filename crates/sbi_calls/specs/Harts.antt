-- The states of the harts. (SBI, chapter 9, "Hart States")
use Rattle.std.specs.Prelude.{ℕ, ◌==◌, min, if◌then◌else◌}
use Rattle.std.specs.Int.{bit_at}
use Rattle.sbi_calls.specs.declared.harts.HartState.{HartState}
use Rattle.sbi_calls.specs.declared.harts.HartState.TheVariants.{Started, Stopped, StartPending}
use Rattle.sbi_calls.specs.declared.harts.Harts.{Harts}

-- the numbers of the states
abbrev pub state_number : HartState → ℕ
state_number Started = 0
state_number Stopped = 1
state_number StartPending = 2

-- the number of harts, at most 64 because they are bits of a word
abbrev pub hart_count : Harts → ℕ
hart_count harts = min harts.count 64

-- the state of a hart
abbrev pub state_of : Harts → ℕ → HartState
state_of harts hart =
    if bit_at harts.started hart == 1 then Started
    else if bit_at harts.pending hart == 1 then StartPending
    else Stopped

-- the state of a hart after the state of one hart has changed
abbrev pub with_state : Harts → ℕ → HartState → ℕ → HartState
with_state harts changed state hart = if hart == changed then state else state_of harts hart

-- the state of a hart that begins if it was started
abbrev pub begun : HartState → HartState
begun StartPending = Started
begun Started = Started
begun Stopped = Stopped
