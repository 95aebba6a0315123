-- Changes of a state, and the register writes of a call.
use Rattle.std.specs.Prelude.{ℕ, ◌/◌, true, false, ◌==◌, if◌then◌else◌, List, [], ◌∷◌, Option}
use Rattle.std.specs.Prelude.{unwrap_or, option_map}
use Rattle.pmp_encoding.specs.declared.pages.PageRange.{PageRange}
pub use Rattle.sbi_decode.specs.Registers.{with_x}
use Rattle.sbi_decode.specs.Registers.{RegisterFile}
use Rattle.monitor_core.specs.Changes.{past_call}
use Rattle.hart_sim.specs.Memory.{in_range, stored}
use Rattle.hart_sim.specs.States.{MachineState}
use Rattle.sbi_decode.specs.Runners.{runner_of}

-- the registers after writing words, one by one
abbrev pub with_words : RegisterFile → List ℕ → List ℕ → RegisterFile
with_words file (n ∷ ns) (word ∷ words) = with_words (with_x file n word) ns words
with_words file _ _ = file

-- the registers of the words of a call: a7, a6 and a0 to a5
abbrev pub call_places : List ℕ
call_places = 17 ∷ (16 ∷ (10 ∷ (11 ∷ (12 ∷ (13 ∷ (14 ∷ (15 ∷ [])))))))

-- the registers on a hart after a call with these words, with the pc after its instruction
abbrev pub calling : MachineState → ℕ → List ℕ → RegisterFile
calling s hart words =
    past_call (with_words (s.registers (runner_of hart (s.worlds hart))) call_places words)

-- the state after storing a value, with its page written
abbrev pub storing : MachineState → ℕ → ℕ → ℕ → MachineState
storing s address size value = record s {
  bytes = stored s.bytes address size value;
  written = λ page. if page == address / 4096 then true else s.written page;
}

-- the state after zeroing these pages, if any, which are then not written
abbrev pub zeroing : MachineState → Option PageRange → MachineState
zeroing s pages =
    let zeroed = λ (page : ℕ). unwrap_or
    (option_map (λ range. in_range range.first range.count page) pages) false in
    record s {
      bytes = λ address. if zeroed (address / 4096) then 0 else s.bytes address;
      written = λ page. if zeroed page then false else s.written page;
    }
