use Rattle.std.proofs.Common.{◌≡◌, ℕ, ◌++◌, arith, sym, ap, refl, ◌∙◌, Ok}
use Rattle.pmp_encoding.specs.declared.region.Entry.{Entry}
use Rattle.pmp_encoding.specs.Encoding.{MeansEntry}
use Rattle.certificate_format.specs.Spelling.{pair_bytes}
use Rattle.certificate_check.specs.Listed.{EntryFault}
use Rattle.certificate_check.proofs.Refused.{refused}
use Rattle.certificate_check.proofs.InTurn.{short_entry, means_small}
use Rattle.certificate_check.proofs.entry_list.entry.Goals as goal

pub returns-in_err-pair-clause-fault : goal.returns-in_err-pair-clause-fault
returns-in_err-pair-clause-fault c =
    refused c.from_residual.result c.in_err-pair.field-0.0 (EntryFault c.args.reader.now) c.from_residual.ensures.1
    (short_entry c.args.reader.now c.in_err-pair.field-0.0 ((c.in_err-pair.ensures.fault c.in_err-pair.field-0.0).0 refl))

pub returns-then-entry-lt12-clause-given : goal.returns-then-entry-lt12-clause-given
returns-then-entry-lt12-clause-given c =
    λ e front rest split spells page.
    let read = c.in_ok-pair.ensures.whole spells.pair rest (means_small _ _ e spells.means) (split ∙ ap (λ xs. xs ++ rest) spells.spelled) in
    let same : c.in_ok-pair.pair ≡ spells.pair = (let h = read.0 in cc) in
    let cfg : c.cfg.result ≡ spells.pair.0 = c.cfg.ensures ∙ ap (λ (p : ℕ × ℕ). p.0) same in
    let address : c.address.result ≡ spells.pair.1 = c.address.ensures ∙ ap (λ (p : ℕ × ℕ). p.1) same in
    let means : MeansEntry c.cfg.result c.address.result e = rw (cfg, address) spells.means in
    let is = sym (c.decode.ensures.entry e means) ∙ c.in-Ok-Some.is ∙ ap (λ o. Ok o) c.in-Ok-Some.field-0-is in
    let entry : e ≡ c.in-Ok-Some.entry = cc in
    absurd (let size = ap (λ (x : Entry). x.region.log2) entry in omega arith)

pub returns-then-entry-lt12-clause-fault : goal.returns-then-entry-lt12-clause-fault
returns-then-entry-lt12-clause-fault c =
    let meaning = rw c.in-Ok-Some.field-0-is at c.in-Ok-Some.ensures.meaning in
    let means : MeansEntry c.in_ok-pair.pair.0 c.in_ok-pair.pair.1 c.in-Ok-Some.entry = rw (sym c.cfg.ensures, sym c.address.ensures) meaning in
    (c.in_ok-pair.pair, c.entry.new.self, c.in_ok-pair.ensures.read, c.in-Ok-Some.entry, means, c.if-entry-lt12.true)

pub returns-clause-read : goal.returns-clause-read
returns-clause-read c =
    let meaning = rw c.in-Ok-Some.field-0-is at c.in-Ok-Some.ensures.meaning in
    let means : MeansEntry c.in_ok-pair.pair.0 c.in_ok-pair.pair.1 c.in-Ok-Some.entry = rw (sym c.cfg.ensures, sym c.address.ensures) meaning in (
      c.in-Ok-Some.entry,
      pair_bytes c.in_ok-pair.pair,
      c.in_ok-pair.ensures.read,
      record { pair = c.in_ok-pair.pair; means = means; spelled = refl },
      c.if-entry-lt12.false,
    )

pub returns-clause-given : goal.returns-clause-given
returns-clause-given c =
    λ e front rest split spells page.
    let read = c.in_ok-pair.ensures.whole spells.pair rest (means_small _ _ e spells.means) (split ∙ ap (λ xs. xs ++ rest) spells.spelled) in
    (refl, read.1)
