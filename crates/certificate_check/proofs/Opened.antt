-- Entries that have begun, one for each size.
use Rattle.std.proofs.Common.{length, get_or, set, ◌≡◌, ◌≢◌, ℕ, ◌<◌, ◌≤◌, List, replicate, ⊎_elim, ◌⊎◌, arith, sym, subst, ap, refl, ◌∙◌}
use Rattle.std.proofs.lemmas.Bool.{cases_lt}
use Rattle.std.proofs.lemmas.Grind.{common_steps}
use Rattle.std.proofs.lemmas.List.{get_or-set_same, get_or-set_other}
use Rattle.certificate_check.specs.declared.entries.Span.{Span}
use Rattle.certificate_check.specs.declared.begun.Begun.{Begun}
use Rattle.certificate_check.specs.declared.sizes.Sizes.{Sizes}
use Rattle.certificate_check.specs.Spans.{Covers, Decides, first, none, AreBlocks}
use Rattle.pmp_encoding.specs.declared.perm.Perm.TheVariants.{NoAccess}
use Rattle.certificate_check.proofs.Gathered.{same_element}
use Rattle.certificate_check.specs.InOrder.{key_of, StandsFor, IsEntryOf, AreBegun, HaveEndedBut, NoneBegins}

-- one number is another, or it is not
same_or_not : (a b : ℕ) → (a ≡ b) ⊎ (a ≢ b)
same_or_not a b = grind arith

-- an entry takes the place of its size
pub entry_begins :
    (spans : ℕ → Span) (count below later page : ℕ) (slots : List Begun) (number : ℕ) (s : Span) → AreBlocks spans count → AreBegun spans count below page slots
    → number < count
    → s ≡ spans number → s.first ≡ page → s.first < s.end → s.size < length slots
    → ((j : ℕ) → j < count → key_of spans j < later → (key_of spans j < below) ⊎ (j ≡ number))
    → (e : Begun) → ((get_or slots s.size e).span.end ≤ page) ⊎ ((page < (get_or slots s.size e).span.end) × (number < (get_or slots s.size e).number))
    → AreBegun spans count later page (set slots s.size (record { number = number; span = s }))
entry_begins spans count below later page slots number s blocks are small is begins some inside between e free = record {
  entries = entries';
  begun = λ j less early. ⊎_elim (λ before. are.begun j less before) (λ same. let f : (spans j).first ≡ s.first = ap (λ n. (spans n).first) same
      ∙ ap (λ (x : Span). x.first) (sym is) in omega arith) (between j less early);
  kept = λ j d less early open'. ⊎_elim (λ before. older j d less before open')
      (λ same. subst (λ (n : ℕ). StandsFor spans (get_or (set slots s.size new) (spans n).size d) n) (sym same) (itself d)) (between j less early);
}
  where
    new : Begun
    new = record { number = number; span = s }

    here : (d : Begun) → get_or (set slots s.size new) s.size d ≡ new
    here d = get_or-set_same slots s.size new d inside

    there : (k : ℕ) (d : Begun) → k ≢ s.size → get_or (set slots s.size new) k d ≡ get_or slots k d
    there k d differ = get_or-set_other slots s.size k new d differ

    entries' :
        (k : ℕ) (d : Begun) → k < length (set slots s.size new) → 0 < (get_or (set slots s.size new) k d).span.end
        → IsEntryOf spans count k page (get_or (set slots s.size new) k d)
    entries' k d less some' =
        ⊎_elim
        (λ same. subst (λ (n : ℕ). IsEntryOf spans count n page (get_or (set slots s.size new) n d)) (sym same)
        (subst (λ (x : Begun). IsEntryOf spans count s.size page x) (sym (here d)) (record { number = small; span = is; first = omega arith; sized = refl })))
        (λ differ. subst (λ (x : Begun). IsEntryOf spans count k page x) (sym (there k d differ))
        (are.entries k d (grind (arith, common_steps)) (subst (λ (x : Begun). 0 < x.span.end) (there k d differ) some')))
        (same_or_not k s.size)

    itself : (d : Begun) → StandsFor spans (get_or (set slots s.size new) (spans number).size d) number
    itself d =
        let sizes : s.size ≡ (spans number).size = ap (λ (x : Span). x.size) is in
        subst (λ (n : ℕ). StandsFor spans (get_or (set slots s.size new) n d) number) sizes
        (subst (λ (x : Begun). StandsFor spans x number) (sym (here d))
        (record { first = ap (λ (x : Span). x.first) is; end = ap (λ (x : Span). x.end) is; number = omega arith }))

    older : (j : ℕ) (d : Begun) → j < count → key_of spans j < below → page < (spans j).end → StandsFor spans (get_or (set slots s.size new) (spans j).size d) j
    older j d less before open' =
        let was = are.kept j d less before open' in
        ⊎_elim
        (λ same.
        let sizes : (spans number).size ≡ (spans j).size = ap (λ (x : Span). x.size) (sym is) ∙ sym same in
        let covers : Covers (spans number) page = subst (λ (x : Span). Covers x page) is (omega arith, omega arith) in
        let one = blocks.same number j page small less sizes covers (are.begun j less before, open') in
        let was' : StandsFor spans (get_or slots s.size e) j = subst (λ (n : ℕ). StandsFor spans (get_or slots n e) j) same (are.kept j e less before open') in
        let lesser : number ≤ j = ⊎_elim (λ ended. let last = was'.end in absurd (omega arith))
        (λ under. let n = was'.number in let m = under.1 in omega arith) free in
        subst (λ (n : ℕ). StandsFor spans (get_or (set slots s.size new) n d) j) (sym same)
        (subst (λ (x : Begun). StandsFor spans x j) (sym (here d))
        (record { first = ap (λ (x : Span). x.first) is ∙ one.0; end = ap (λ (x : Span). x.end) is ∙ one.1; number = lesser })))
        (λ differ. subst (λ (x : Begun). StandsFor spans x j) (sym (there (spans j).size d differ)) was)
        (same_or_not (spans j).size s.size)

-- an entry with the same pages stands before it in the list
pub entry_hidden :
    (spans : ℕ → Span) (count below later page : ℕ) (slots : List Begun) (number : ℕ) (s : Span) → AreBlocks spans count → AreBegun spans count below page slots
    → number < count
    → s ≡ spans number → s.first ≡ page → s.first < s.end → s.size < length slots
    → ((j : ℕ) → j < count → key_of spans j < later → (key_of spans j < below) ⊎ (j ≡ number))
    → (e : Begun) → page < (get_or slots s.size e).span.end → (get_or slots s.size e).number ≤ number
    → AreBegun spans count later page slots
entry_hidden spans count below later page slots number s blocks are small is begins some inside between e stays lesser = record {
  entries = are.entries;
  begun = λ j less early. ⊎_elim (λ before. are.begun j less before) (λ same. let f : (spans j).first ≡ s.first = ap (λ n. (spans n).first) same
      ∙ ap (λ (x : Span). x.first) (sym is) in omega arith) (between j less early);
  kept = λ j d less early open'. ⊎_elim (λ before. are.kept j d less before open')
      (λ same. subst (λ (n : ℕ). StandsFor spans (get_or slots (spans n).size d) n) (sym same) (itself d)) (between j less early);
}
  where
    itself : (d : Begun) → StandsFor spans (get_or slots (spans number).size d) number
    itself d =
        let by : s.size ≡ (spans number).size = ap (λ (x : Span). x.size) is in
        let one_slot : get_or slots s.size d ≡ get_or slots s.size e = same_element slots s.size d e inside in
        let now : (page < (get_or slots s.size d).span.end) × ((get_or slots s.size d).number ≤ number) = subst
        (λ (x : Begun). (page < x.span.end) × (x.number ≤ number)) (sym one_slot) (stays, lesser) in
        let other = are.entries s.size d inside (let n = now.0 in omega arith) in
        let sizes : (spans (get_or slots s.size d).number).size ≡ (spans number).size = ap (λ (x : Span). x.size) (sym other.span) ∙ other.sized ∙ by in
        let covers : Covers (spans number) page = subst (λ (x : Span). Covers x page) is (omega arith, omega arith) in
        let covers' : Covers (spans (get_or slots s.size d).number) page = subst (λ (x : Span). Covers x page) other.span (other.first, now.0) in
        let one = blocks.same (get_or slots s.size d).number number page other.number small sizes covers' covers in
        subst (λ (n : ℕ). StandsFor spans (get_or slots n d) number) by
        (record { first = ap (λ (x : Span). x.first) other.span ∙ one.0; end = ap (λ (x : Span). x.end) other.span ∙ one.1; number = now.1 })

-- the pages go on
pub begun_later :
    (spans : ℕ → Span) (count below page later : ℕ) (slots : List Begun) → page ≤ later → AreBegun spans count below page slots
    → AreBegun spans count below later slots
begun_later spans count below page later slots h are = record {
  entries = λ k d less some. let e = are.entries k d less some in record {
    number = e.number;
    span = e.span;
    first =
        (let f = e.first in omega arith);
    sized = e.sized;
  };
  begun = λ j less early. let f = are.begun j less early in omega arith;
  kept = λ j d less early open'. are.kept j d less early (omega arith);
}

pub ended_later : (sizes : Sizes) (page later : ℕ) (slots : List Begun) → page ≤ later → HaveEndedBut sizes page slots → HaveEndedBut sizes later slots
ended_later sizes page later slots h ended = λ k d less lacks. let e = ended k d less lacks in omega (arith, h, e)

-- keys that are no entry's may pass
pub begun_among :
    (spans : ℕ → Span) (count below later page : ℕ) (slots : List Begun) → ((j : ℕ) → j < count → key_of spans j < later → key_of spans j < below)
    → AreBegun spans count below page slots → AreBegun spans count later page slots
begun_among spans count below later page slots among are = record {
  entries = are.entries;
  begun = λ j less early. are.begun j less (among j less early);
  kept = λ j d less early open'. are.kept j d less (among j less early) open';
}

-- before all entries
pub begun_none : (spans : ℕ → Span) (count page n : ℕ) (p : Begun) → p.span.end ≡ 0 → AreBegun spans count 0 page (replicate n p)
begun_none spans count page n p ended = record {
  entries = λ k d less some. absurd (let is : get_or (replicate n p) k d ≡ p = grind
      (arith, common_steps) in let e : (get_or (replicate n p) k d).span.end ≡ 0 = ap (λ (x : Begun). x.span.end) is ∙ ended in omega arith);
  begun = λ j less early. absurd (omega arith);
  kept = λ j d less early open'. absurd (omega arith);
}

read_none : (n k : ℕ) (p d : Begun) → k < n → get_or (replicate n p) k d ≡ p
read_none n k p d less = grind (arith, common_steps)

pub ended_none : (sizes : Sizes) (page : ℕ) (p : Begun) → p.span.end ≡ 0 → HaveEndedBut sizes page (replicate 45 p)
ended_none sizes page p ended = λ k d less lacks. let e : (get_or (replicate 45 p) k d).span.end ≡ 0 = ap (λ (x : Begun). x.span.end) (read_none 45 k p d less)
    ∙ ended in omega (arith, e)

-- the first in the list of those that have begun decides, up to where it ends or another begins
pub open_decides :
    (spans : ℕ → Span) (count below page to k : ℕ) (slots : List Begun) (slot : Begun) → AreBegun spans count below page slots → NoneBegins spans count below to
    → k < length slots
    → ((d : Begun) → get_or slots k d ≡ slot) → page < slot.span.end
    → ((i : ℕ) (d : Begun) → i < length slots → page < (get_or slots i d).span.end → slot.number ≤ (get_or slots i d).number)
    → length slots ≡ 45 → AreBlocks spans count
    → (at : ℕ) → page ≤ at → at < to → at < slot.span.end → Decides spans count at slot.span.perm
open_decides spans count below page to k slots slot are later less is open' least long blocks at after before inside =
    let here = are.entries k slot less (let e : (get_or slots k slot).span.end ≡ slot.span.end = ap (λ (x : Begun). x.span.end) (is slot) in omega arith) in
    let entry : IsEntryOf spans count k page slot = subst (λ (x : Begun). IsEntryOf spans count k page x) (is slot) here in
    let begins = entry.first in
    let covers : Covers (spans slot.number) at = subst (λ (x : Span). Covers x at) entry.span (omega arith, inside) in
    subst (λ (x : Span). Decides spans count at x.perm) (sym entry.span)
    (first slot.number entry.number covers (λ j lesser over.
    ⊎_elim
    (λ early.
    let end : at < (spans j).end = over.1 in
    let for' = are.kept j slot (let n = entry.number in omega arith) early (omega arith) in
    let e = for'.end in
    let n = for'.number in
    let m = least (spans j).size slot (let b = blocks.small j (let n = entry.number in omega arith) in omega (arith, long, b)) (omega arith) in
    omega arith)
    (λ late. let f = later j (let n = entry.number in omega arith) late in let g : (spans j).first ≤ at = over.0 in omega arith)
    (cases_lt (key_of spans j) below)))

-- where none of them is open, none decides
pub none_decides :
    (spans : ℕ → Span) (count below page to : ℕ) (slots : List Begun) → AreBegun spans count below page slots → NoneBegins spans count below to
    → ((i : ℕ) (d : Begun) → i < length slots → (get_or slots i d).span.end ≤ page) → length slots ≡ 45 → AreBlocks spans count
    → (at : ℕ) → page ≤ at → at < to → Decides spans count at NoAccess
none_decides spans count below page to slots are later ended long blocks at after before =
    none (λ j less over.
    ⊎_elim
    (λ early.
    let end : at < (spans j).end = over.1 in
    let d : Begun = record { number = 0; span = spans j } in
    let for' = are.kept j d less early (omega arith) in
    let e = for'.end in
    let m = ended (spans j).size d (let b = blocks.small j less in omega (arith, long, b)) in
    omega arith)
    (λ late. let f = later j less late in let g : (spans j).first ≤ at = over.0 in omega arith)
    (cases_lt (key_of spans j) below))
