-- The events of an enclave that lives on two harts.
use Rattle.std.specs.Prelude.{ℕ, List, [], ◌∷◌}
use Rattle.arrayvec.specs.declared.array_vec.ArrayVec.{ArrayVec}
use Rattle.hart_trace.specs.declared.event.Event.{Event}
use Rattle.hart_trace.specs.declared.event.Event.TheVariants.{Ecall, Irq}

-- the words of a call
abbrev pub Words : Type 0
Words = ArrayVec ℕ 8 (Unit {0})

-- the first hart creates and runs it, the timer stops it there, the second one resumes it, it exits
-- there, and the first one destroys it
abbrev pub life_of : Words → Words → Words → Words → Words → List (ℕ × Event)
life_of create enter resume leave destroy =
    (0, Ecall create) ∷ ((0, Ecall enter)
    ∷ ((0, Irq) ∷ ((1, Ecall resume) ∷ ((1, Ecall leave) ∷ ((0, Ecall destroy) ∷ [])))))
