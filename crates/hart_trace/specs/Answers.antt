-- The output of `judge` for a trace of accesses.
use Rattle.std.specs.Prelude.{◌≡◌, ℕ, ◌+◌, List, ◌++◌, Option, Some, None, Result, Ok, Err, codes}
use Rattle.std.specs.Prelude.{decimal}
use Rattle.pmp_encoding.specs.declared.bank.Bank.{Bank}
use Rattle.pmp_encoding.specs.declared.region.Entry.{Entry}
use Rattle.pmp_encoding.specs.Banks.{HasList}
use Rattle.pmp_match.specs.declared.access.Access.{Access}
use Rattle.pmp_match.specs.declared.cause.Cause.{Cause}
use Rattle.pmp_match.specs.Causes.{cause_number}
use Rattle.pmp_match.specs.Judgement.{Judges}
use Rattle.text_lines.specs.LineLoop.{Meaning}
use Rattle.hart_trace.specs.declared.event.Event.{Event}
use Rattle.hart_trace.specs.declared.event.Event.TheVariants as events
use Rattle.hart_trace.specs.Events.{meaning_of}

-- the part of an answer after its number: ` ok` or ` fault CAUSE`
abbrev pub answer_end : Result (Unit {0}) Cause → List ℕ
answer_end (Ok done) = codes " ok\n"
answer_end (Err cause) = codes " fault " ++ decimal (cause_number cause) ++ codes "\n"

-- the index of this ending among all: 0 for an allowed access, then by exception code
abbrev pub place_of : Result (Unit {0}) Cause → ℕ
place_of (Ok done) = 0
place_of (Err cause) = cause_number cause + 1

-- the text of one answer: `N ok` or `N fault CAUSE`
abbrev pub answer_text : ℕ → Result (Unit {0}) Cause → List ℕ
answer_text n answer = decimal n ++ answer_end answer

-- the access of an event; other events are rejected
abbrev pub only_access : Option (Option (ℕ × Event)) → Option (Option Access)
only_access None = None
only_access (Some None) = Some None
only_access (Some (Some (hart, events.Access access value))) = Some (Some access)
only_access (Some (Some (hart, _))) = None

-- the access of a line, which may name no hart; a line without words has none
abbrev pub access_on : List ℕ → Option (Option Access)
access_on line = only_access (meaning_of 0 line)

-- the outcome of each access, as a relation
abbrev pub Outcomes : Type 1
Outcomes = Access → Result (Unit {0}) Cause → Type 0

-- the answer after n others: none without an access, otherwise its outcome
abbrev pub IsAnswer : Outcomes → ℕ → Option Access → Option (List ℕ) → Type 0
IsAnswer outcomes n None answer = answer ≡ None
IsAnswer outcomes n (Some access) answer = (result : Result (Unit {0}) Cause)
    × outcomes access result × (answer ≡ Some (answer_text (n + 1) result))

-- a line is an access or has no words, and has this answer and no other effect
abbrev pub answered_by : Outcomes → Meaning (Unit {0})
answered_by outcomes = λ old n line answer new. (access : Option Access)
    × (access_on line ≡ Some access) × IsAnswer outcomes n access answer

-- the outcomes by the list that a bank's registers mean
abbrev pub by_list : Bank → Outcomes
by_list bank = λ access result. (entries : List Entry) → HasList bank entries
    → Judges entries access result

-- the answers by that list
abbrev pub judged_by : Bank → Meaning (Unit {0})
judged_by bank = answered_by (by_list bank)

-- the line has words and is not an access
abbrev pub is_no_access : Unit {0} → List ℕ → Type 0
is_no_access now line = access_on line ≡ None
