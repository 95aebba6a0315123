-- What a line means for four harts, and for `judge`, which has none.
use Rattle.std.proofs.Common.{◌≡◌, ◌∙◌, ℕ, Bool, true, false, List, [], ◌∷◌, Option, Some, None, option_map, ap, refl, sym, arith}
use Rattle.std.specs.Prelude.{if◌then◌else◌}
use Rattle.std.specs.List.{list_all}
use Rattle.std.proofs.lemmas.Bool.Decides.{nat_tests}
use Rattle.std.proofs.lemmas.Grind.{common_steps}
use Rattle.text_lines.specs.Columns.{PlacedWord, placed_words, words_in}
use Rattle.text_lines.specs.Words.{content_of, is_allowed, is_blank, split_words, words_of}
use Rattle.text_lines.proofs.PlacedWords.{words_placed}
use Rattle.hart_trace.specs.declared.event.Event.{Event}
use Rattle.hart_trace.specs.declared.event.Event.TheVariants as events
use Rattle.hart_trace.specs.Answers.{access_on, only_access}
use Rattle.hart_trace.specs.Events.{Word, ◌>>=◌, event_of, hart_of, kind_of, meaning_of, said_by}
use Rattle.hart_trace.specs.EventWords.{named_or_first}
use Rattle.hart_trace.specs.Faults.{access_fault, access_of_event, judged, line_fault, run_fault}
use Rattle.hart_trace.proofs.PlainLines.{no_hart}

-- the words of a line whose bytes are allowed
pub meaning_is : (harts : ℕ) (line content : List ℕ) → content ≡ content_of line → list_all is_allowed content ≡ true
    → said_by harts (words_in (placed_words content)) ≡ meaning_of harts line
meaning_is harts line content is allowed =
    let words = words_placed is_blank 0 content in
    let all : list_all is_allowed (content_of line) ≡ true = rw (← is) allowed in
    rw (all, words, is) refl

-- a word that names a hart begins no event
no_kind : (harts : ℕ) (word : Word) (hart : ℕ) → hart_of harts word ≡ Some hart → kind_of word ≡ None
no_kind harts [] hart h = cc
no_kind harts (at ∷ []) hart h = cc
no_kind harts (at ∷ digit ∷ []) hart h = grind (arith, nat_tests, common_steps)
no_kind harts (at ∷ digit ∷ b ∷ word) hart h = cc

-- without a hart the first word begins the event
abbrev alone : List Word → Option (Option (ℕ × Event))
alone words = option_map Some (option_map {U = ℕ × Event} (λ event. (0, event)) (event_of words))

unnamed : (harts : ℕ) (first : Word) (words : List Word) → hart_of harts first ≡ None → said_by harts (first ∷ words) ≡ alone (first ∷ words)
unnamed harts first words none = rw none refl

for_none : (first : Word) (words : List Word) → said_by 0 (first ∷ words) ≡ alone (first ∷ words)
for_none first words = unnamed 0 first words (no_hart first)

named_alone : (harts : ℕ) (first : Word) (words : List Word) (hart : ℕ) → hart_of harts first ≡ Some hart → alone (first ∷ words) ≡ None
named_alone harts first words hart h = let none = no_kind harts first hart h in rw none refl

none_said : (first : Word) (words : List Word) (hart : Option ℕ) → hart_of 4 first ≡ hart → said_by 4 (first ∷ words) ≡ None → said_by 0 (first ∷ words) ≡ None
none_said first words None h none = for_none first words ∙ (sym (unnamed 4 first words h) ∙ none)
none_said first words (Some hart) h none = for_none first words ∙ named_alone 4 first words hart h

by_words : (found : Option (List Word)) → (found >>= said_by 4) ≡ None → (found >>= said_by 0) ≡ None
by_words None none = refl
by_words (Some []) none = cc
by_words (Some (first ∷ words)) none = none_said first words (hart_of 4 first) refl none

-- what four harts do not understand, `judge` does not
pub none_for_judge : (line : List ℕ) → meaning_of 4 line ≡ None → access_on line ≡ None
none_for_judge line none = ap only_access (by_words (words_of line) none)

-- a line that means something has its words
words_there : (line : List ℕ) (said : Option (ℕ × Event)) → meaning_of 4 line ≡ Some said
    → words_of line ≡ Some (words_in (placed_words (content_of line)))
words_there line said means = by_test (list_all is_allowed (content_of line)) refl means
  where
    by_test : (t : Bool) → list_all is_allowed (content_of line) ≡ t
        → ((if t then Some (split_words (content_of line)) else None) >>= said_by 4) ≡ Some said
        → words_of line ≡ Some (words_in (placed_words (content_of line)))
    by_test true e h = rw e (ap Some (sym (words_placed is_blank 0 (content_of line))))
    by_test false e h = cc

words_begin : (line : List ℕ) (said : Option (ℕ × Event)) (first : PlacedWord) (rest : List PlacedWord) → meaning_of 4 line ≡ Some said
    → placed_words (content_of line) ≡ first ∷ rest → words_of line ≡ Some (first.1 ∷ words_in rest)
words_begin line said first rest means begins = words_there line said means ∙ ap (λ words. Some (words_in words)) begins

-- a line that names a hart says nothing to `judge`
named_for_judge :
    (line : List ℕ) (said : Option (ℕ × Event)) (first : PlacedWord) (rest : List PlacedWord) (hart : ℕ) → meaning_of 4 line ≡ Some said
    → placed_words (content_of line) ≡ first ∷ rest → hart_of 4 first.1 ≡ Some hart → access_on line ≡ None
named_for_judge line said first rest hart means begins named =
    ap (λ found. only_access (found >>= said_by 0)) (words_begin line said first rest means begins)
    ∙ ap only_access (for_none first.1 (words_in rest) ∙ named_alone 4 first.1 (words_in rest) hart named)

only_is : (hart : ℕ) (event : Event) → only_access (Some (Some (hart, event))) ≡ option_map Some (access_of_event event)
only_is hart (events.Access access value) = refl
only_is hart (events.Reg n value) = refl
only_is hart (events.Ecall words) = refl
only_is hart events.Irq = refl

-- one that names none says to it what it says to four harts
same_for_judge :
    (line : List ℕ) (hart : ℕ) (event : Event) (first : PlacedWord) (rest : List PlacedWord) → meaning_of 4 line ≡ Some (Some (hart, event))
    → placed_words (content_of line) ≡ first ∷ rest → hart_of 4 first.1 ≡ None → access_on line ≡ option_map Some (access_of_event event)
same_for_judge line hart event first rest means begins none =
    let words = words_begin line (Some (hart, event)) first rest means begins in
    let said : said_by 4 (first.1 ∷ words_in rest) ≡ Some (Some (hart, event)) = sym (ap (λ found. found >>= said_by 4) words) ∙ means in
    ap (λ found. only_access (found >>= said_by 0)) words
    ∙ ap only_access (for_none first.1 (words_in rest) ∙ (sym (unnamed 4 first.1 (words_in rest) none) ∙ said))
    ∙ only_is hart event

-- the access that `judge` takes of a line with words
pub access_is :
    (line : List ℕ) (hart : Option ℕ) (event : Event) (first : PlacedWord) (rest : List PlacedWord)
    → meaning_of 4 line ≡ Some (Some (named_or_first hart, event))
    → placed_words (content_of line) ≡ first ∷ rest → hart_of 4 first.1 ≡ hart → access_on line ≡ option_map Some (judged hart event)
access_is line None event first rest means begins named = same_for_judge line 0 event first rest means begins named
access_is line (Some hart) event first rest means begins named = named_for_judge line (Some (hart, event)) first rest hart means begins named

-- and why it takes none
pub fault_is :
    (line : List ℕ) (hart : Option ℕ) (event : Event) (first : PlacedWord) (rest : List PlacedWord)
    → meaning_of 4 line ≡ Some (Some (named_or_first hart, event))
    → placed_words (content_of line) ≡ first ∷ rest → hart_of 4 first.1 ≡ hart → access_fault line ≡ run_fault hart first event
fault_is line hart event first rest means begins named = rw (means, begins, named) refl

-- for nobody
pub fault_for_nobody : (line : List ℕ) → meaning_of 4 line ≡ None → access_fault line ≡ line_fault 4 line
fault_for_nobody line none = rw none refl
