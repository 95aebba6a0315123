use Rattle.std.proofs.Common.{◌≡◌, ◌+◌, ◌-◌, ◌++◌, ◌≤◌, length, option_map, replicate}
use Rattle.text_lines.specs.Columns.{placed_at, words_in}
use Rattle.hart_trace.specs.declared.fault.EventKind.TheVariants.{Ecall}
use Rattle.hart_trace.specs.declared.fault.Slot.TheVariants.{Argument}
use Rattle.hart_trace.specs.Events.{numbers_of}
use Rattle.hart_trace.specs.Faults.{slots_fault}
use Rattle.hart_trace.proofs.event_words.call_in.Given as goal

abbrev pub invariant-loop-placed : goal.invariant-loop-placed
invariant-loop-placed l = record {
  few : length l.numbers.items ≤ 8;
  within : l.end ≤ length l.text;
  told : option_map (λ ns. l.numbers.items ++ ns) (numbers_of (words_in (placed_at l.text l.end))) ≡ numbers_of (words_in (placed_at l.text l.at));
  count : length l.numbers.items + length (words_in (placed_at l.text l.end)) ≡ length (words_in (placed_at l.text l.at));
  right : slots_fault Ecall (replicate (8 - length l.numbers.items) Argument) (placed_at l.text l.end) l.end
      ≡ slots_fault Ecall (replicate 8 Argument) (placed_at l.text l.at) l.at;
}

abbrev pub decreases-loop-placed : goal.decreases-loop-placed
decreases-loop-placed l = length (placed_at l.text l.end)
