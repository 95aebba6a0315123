use Rattle.std.proofs.Common.{◌≤◌, List, ℕ, length}
use Rattle.hart_trace.proofs.PlainEvents.{Read}
use Rattle.hart_trace.proofs.plain_events.plain_words.Given as goal

abbrev pub invariant-words : goal.invariant-words
invariant-words l = record {
  few : length l.words.items ≤ 8;
  read : (front : List ℕ) × Read l.fn.rest l.left front l.words.items;
}

abbrev pub decreases-words : goal.decreases-words
decreases-words l = length l.left
