-- The results of judgements for C.
use Rattle.std.specs.Prelude.{ℕ, ℤ, List, Result}
use Rattle.pmp_encoding.specs.declared.fault.EncodingFault.{EncodingFault}
use Rattle.pmp_encoding.specs.declared.region.Entry.{Entry}
use Rattle.pmp_encoding.specs.Lists.{MeansList}
use Rattle.pmp_match.specs.declared.access.Access.{Access}
use Rattle.pmp_match.specs.declared.cause.Cause.{Cause}
use Rattle.pmp_match.specs.Judgement.{Judges}
use Rattle.planner_for_c.specs.declared.access.AccessWords.{AccessWords}
use Rattle.planner_for_c.specs.declared.registers.Registers.{Registers}
use Rattle.planner_for_c.specs.Accesses.{Says}
use Rattle.planner_for_c.specs.Codes.{answer_code, pair_code, unknown_access}
use Rattle.planner_for_c.specs.Registers.{HasFault, pairs_to}

-- the words encode an access, which is judged by the list of the first `count` pairs; or the first
-- of these pairs that has a fault is reported; or the words encode no access
pub data IsJudged (registers : Registers) (count : ℕ) (words : AccessWords) : ℤ → Type 0 where
  judged :
      (a : Access) (entries : List Entry) (answer : Result (Unit {0}) Cause) → Says words a
      → MeansList (pairs_to registers count) entries → Judges entries a answer
      → IsJudged registers count words (answer_code answer)
  faulty : (a : Access) (fault : EncodingFault) → Says words a → HasFault registers count fault
      → IsJudged registers count words (pair_code fault)
  unknown : ((a : Access) → ¬ Says words a) → IsJudged registers count words unknown_access
