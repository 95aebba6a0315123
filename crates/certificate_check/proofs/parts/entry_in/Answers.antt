use Rattle.std.proofs.Common.{ℕ, ◌≡◌, List, ◌++◌, length, take, subst, sym, ap, ◌∙◌, take_at, length-append, arith}
use Rattle.certificate_format.specs.Spelling.{SpellsEntry}
use Rattle.certificate_format.proofs.CostBytes.{length-pair_bytes}
use Rattle.certificate_check.specs.Listed.{EntryFault}
use Rattle.certificate_check.proofs.parts.entry_in.Goals as goal

pub nine_of-requires : goal.nine_of-requires
nine_of-requires c =
    let read = c.in-Ok.ensures.read in
    let split = sym c.new-reader.ensures ∙ read.2 in
    let long : length read.1 ≡ 9 = ap length read.3.spelled ∙ length-pair_bytes read.3.pair in
    omega (arith, ap length split, length-append read.1 c.entry.new.reader, long)

pub returns-in-Ok : goal.returns-in-Ok
returns-in-Ok c =
    let read = c.in-Ok.ensures.read in
    let split = sym c.new-reader.ensures ∙ read.2 in
    let long : length read.1 ≡ 9 = ap length read.3.spelled ∙ length-pair_bytes read.3.pair in
    let nine : c.nine_of.result ≡ read.1 = c.nine_of.ensures ∙ ap (take 9) split ∙ take_at read.1 c.entry.new.reader 9 long in (
      read.0,
      c.entry.new.reader,
      split ∙ ap (λ xs. xs ++ c.entry.new.reader) (sym nine),
      subst (λ (xs : List ℕ). SpellsEntry xs read.0)
          (sym nine) read.3,
      read.4,
    )

pub returns-in-Err : goal.returns-in-Err
returns-in-Err c = subst (λ (xs : List ℕ). EntryFault xs c.in-Err.refusal) c.new-reader.ensures c.in-Err.ensures.fault
