use Rattle.std.proofs.Common.{Err, ◌∙◌, ap, inl, inr, refl}
use Rattle.std.proofs.lemmas.Result.{err_from_is_err_and}
use Rattle.monitor_cli.proofs.ListingTroubles.{by_fault}
use Rattle.monitor_cli.proofs.show.show_registers.Goals as goal

pub returns-in_err-listing : goal.returns-in_err-listing
returns-in_err-listing g c =
    let p = err_from_is_err_and c.from_residual.result c.from_residual.ensures.1 in
    rw (p.1, p.2) (inr (inr (inl c.in_err-listing.ensures.refused), refl))

pub returns-in-Ok : goal.returns-in-Ok
returns-in-Ok g c =
    let w = rw c.as_slice.ensures.value at c.in-Ok.ensures.written in
    (w.1, (_, c.in_ok-listing.ensures.whole, w.0), w.2)

pub returns : goal.returns
returns g c =
    let trouble = c.listing_trouble.ensures in
    elim (by_fault c.args.file c.in-Err.fault) [
      | inl line ↦
          let unknown = rw c.as_slice.ensures.value at c.in-Err.ensures.line line.0 (ap (λ f. Err f) line.1) in
          rw (trouble ∙ line.2) (inr (inr (inr (_, line.0, c.in_ok-listing.ensures.whole, unknown.0, refl)), unknown.1))
      | inr (inl memory) ↦ rw (trouble ∙ memory.1) (inr (inl refl, c.in-Err.ensures.untouched (ap (λ f. Err f) memory.0)))
      | inr (inr device) ↦
          let w = rw c.as_slice.ensures.value at c.in-Err.ensures.broken (ap (λ f. Err f) device.0) in
          rw (trouble ∙ device.1) (inl (refl, (w.2, w.0, (_, c.in_ok-listing.ensures.whole, w.1), w.3)))
    ]
