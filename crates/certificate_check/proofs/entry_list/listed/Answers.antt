use Rattle.std.proofs.Common.{◌≡◌, ℕ, ◌-◌, List, length, take, sym, subst, ap, ap₂, ◌∙◌}
use Rattle.certificate_format.specs.Spelling.{SpellsEntries}
use Rattle.certificate_check.specs.Spans.{AreEntries, count_in}
use Rattle.certificate_check.proofs.Entered.{spans_of, reads_listed, cut_listed, count_listed}
use Rattle.certificate_check.proofs.entry_list.listed.Goals as goal

pub returns-in_err-entries-clause-given : goal.returns-in_err-entries-clause-given
returns-in_err-entries-clause-given c = λ es rest listed all. absurd (let e = (c.in_err-entries.ensures.given es rest listed all).0 in cc)

pub returns-clause-given : goal.returns-clause-given
returns-clause-given c =
    λ es rest listed all.
    let new = (c.in_ok-entries.ensures.given es rest listed all).1 in
    let cut = cut_listed c.args.reader.now listed.listed rest listed.split in
    let same : take (length c.rest-whole.result.now - length c.rest-left.result.now) c.rest-whole.result.now ≡ listed.listed =
    ap₂ (λ (xs ys : List ℕ). take (length xs - length ys) xs) c.rest-whole.ensures (c.rest-left.ensures ∙ new) ∙ cut in
    (subst (λ (xs : List ℕ). SpellsEntries xs es) (sym same) listed.spelled, new)

pub returns-clause-count : goal.returns-clause-count
returns-clause-count c =
    let read = c.in_ok-entries.ensures.read in
    let listed = read.1 in
    let cut = cut_listed c.args.reader.now listed.listed c.entries.new.reader listed.split in
    let same : take (length c.rest-whole.result.now - length c.rest-left.result.now) c.rest-whole.result.now ≡ listed.listed =
    ap₂ (λ (xs ys : List ℕ). take (length xs - length ys) xs) c.rest-whole.ensures c.rest-left.ensures ∙ cut in
    ap count_in same ∙ count_listed listed.listed read.0 listed.spelled ∙ read.2

pub invariant_of-result : goal.invariant_of-result
invariant_of-result c =
    let read = c.in_ok-entries.ensures.read in
    let listed = read.1 in
    let cut = cut_listed c.args.reader.now listed.listed c.entries.new.reader listed.split in
    let same : take (length c.rest-whole.result.now - length c.rest-left.result.now) c.rest-whole.result.now ≡ listed.listed =
    ap₂ (λ (xs ys : List ℕ). take (length xs - length ys) xs) c.rest-whole.ensures c.rest-left.ensures ∙ cut in
    subst (λ (xs : List ℕ). AreEntries xs) (sym same) (λ i less. (spans_of read.0 i, reads_listed listed.listed read.0 listed.spelled listed.pages i less))
