use Rattle.std.proofs.Common.{rules}
use Rattle.input_files.proofs.Members.{first_there}
use Rattle.input_files.proofs.document.unknown_key.Goals as goal

pub returns-then-not-is_known-clause-some : goal.returns-then-not-is_known-clause-some
returns-then-not-is_known-clause-some c = (
  λ none. first_there _ c.in-Some.key.now c.in-Some._value.now c.next.new.self c.as_str-then-not-is_known.ensures.value
      (rw c.in-Some.ensures.steps at (c.keys.invariant.3 _ none)),
  search rules,
)
