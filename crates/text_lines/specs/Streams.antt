-- The failure counts of devices.
use Rattle.std.specs.Prelude.{◌≡◌, ◌⊎◌, ℕ, ◌+◌, ◌-◌, ◌^◌, ◌%◌, ◌<◌, ◌==◌, ◌&&◌, nat_lt}
use Rattle.std.specs.Prelude.{if◌then◌else◌, List, length, Result, MatchResult}
use Rattle.text_lines.specs.declared.streams.Counted.{Counted}
use Rattle.text_lines.specs.declared.streams.DeviceFault.{DeviceFault}

-- a count grows by one, unless it has reached the largest 64-bit number
unfoldable pub GrowsByOne : ℕ → ℕ → Type 0
GrowsByOne before after = before < 2 ^ 64 - 1 → after ≡ before + 1

-- the call is counted iff it failed
abbrev pub CountsFailure : {X : Type 0} → Result X DeviceFault → ℕ → ℕ → Type 0
CountsFailure result before after =
    MatchResult result (λ _. after ≡ before) (λ _. GrowsByOne before after)

-- a 64-bit count that wraps around
abbrev pub one_more : ℕ → ℕ
one_more n = (n + 1) % 2 ^ 64

-- a write is counted iff it accepted none of its bytes
abbrev pub CountsStall : Result ℕ DeviceFault → List ℕ → ℕ → ℕ → Type 0
CountsStall result offered before after =
    MatchResult result (λ n. after ≡ (if n == 0 && nat_lt 0 (length offered) then one_more before
    else before)) (λ _. after ≡ before)

-- a write failed or accepted none of its bytes
abbrev pub WriteFails : ℕ → ℕ → ℕ → ℕ → Type 0
WriteFails failures failed stalls stalled =
    (GrowsByOne failures failed × (stalled ≡ stalls))
    ⊎ ((failed ≡ failures) × (stalled ≡ one_more stalls))

-- the reader or writer in a device
abbrev pub inner_of : {T : Type 0} → Counted T → T
inner_of device = device.inner

-- the failures that a device has counted
abbrev pub failures_of : {T : Type 0} → Counted T → ℕ
failures_of device = device.failures

-- the number of writes that accepted none of their bytes
abbrev pub stalls_of : {T : Type 0} → Counted T → ℕ
stalls_of device = device.stalls
