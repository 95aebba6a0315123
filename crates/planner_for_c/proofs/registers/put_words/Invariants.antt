use Rattle.std.proofs.Common.{◌≡◌, ◌*◌, ◌<◌, ℕ, slice_index}
use Rattle.pmp_encoding.specs.Banks.{word_at}
use Rattle.planner_for_c.proofs.registers.put_words.Given as goal

abbrev pub invariant-loop-i : goal.invariant-loop-i
invariant-loop-i l = (j : ℕ) → j < l.i → slice_index l.cfg j ≡ word_at l.bank (2 * j)
