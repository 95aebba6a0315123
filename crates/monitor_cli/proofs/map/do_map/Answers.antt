use Rattle.std.proofs.Common.{Err, ◌∙◌, ap, inl, inr, refl, sym}
use Rattle.std.proofs.lemmas.Result.{err_from_is_err_and}
use Rattle.register_audit.specs.declared.fault.MapOfFault.TheVariants.{Listing}
use Rattle.monitor_cli.proofs.ListingTroubles.{by_fault}
use Rattle.monitor_cli.proofs.MapEnds.{of_tree}
use Rattle.monitor_cli.proofs.map.do_map.Goals as goal

pub returns-in_err-bytes : goal.returns-in_err-bytes
returns-in_err-bytes g c =
    let p = err_from_is_err_and c.from_residual.result c.from_residual.ensures.1 in
    rw (p.1, p.2) (inr (inr (inl (inl c.in_err-bytes.ensures.refused)), refl))

pub returns-then-is_tree : goal.returns-then-is_tree
returns-then-is_tree g c =
    let is = rw c.as_slice.ensures.value at (sym c.is_tree.ensures ∙ c.if-is_tree.true) in
    let told = rw c.as_slice-then-is_tree.ensures.value at c.print_map_of_tree.ensures in
    rw c.quiet.ensures (of_tree c.args.options.now c.args.file _ _ c.in_ok-bytes.bytes.items c.print_map_of_tree.result c.in_ok-bytes.ensures.whole is told)

pub returns-then-is_log_of_machine : goal.returns-then-is_log_of_machine
returns-then-is_log_of_machine g c =
    let asked = c.is_log_of_machine.ensures.yes c.if-is_log_of_machine.true in
    let log = rw c.as_slice-2.ensures.value at asked.1 in
    inr (inr (inr (_, c.in_ok-bytes.ensures.whole, inr (inl (asked.0, log, _, refl)))), refl)

pub returns-in-Ok : goal.returns-in-Ok
returns-in-Ok g c =
    let none = rw c.as_slice.ensures.value at (sym c.is_tree.ensures ∙ c.if-is_tree.false) in
    let w = rw c.as_slice-3.ensures.value at c.in-Ok.ensures.written in
    let no_log = rw c.as_slice-2.ensures.value at (c.is_log_of_machine.ensures.no c.if-is_log_of_machine.false) in
    (w.0, (_, c.in_ok-bytes.ensures.whole, inr (none, (no_log, _, w.1, c.noted.ensures ∙ c.answer_status.ensures))), w.2)

pub returns-in-Err-TooManyRanges : goal.returns-in-Err-TooManyRanges
returns-in-Err-TooManyRanges g c =
    let fine = rw c.as_slice-3.ensures.value at c.in-Err-TooManyRanges.ensures.many (ap (λ f. Err f) c.in-Err-TooManyRanges.field-0-is) in
    inr (inr (inr (_, c.in_ok-bytes.ensures.whole, inr (inr (fine.0, fine.1, fine.2, refl)))), fine.3)

pub returns : goal.returns
returns g c =
    let of_listing = ap (λ f. Err f) c.in-Err-Listing.field-0-is in
    let trouble = c.listing_trouble.ensures in
    let none = rw c.as_slice.ensures.value at (sym c.is_tree.ensures ∙ c.if-is_tree.false) in
    elim (by_fault c.args.file c.in-Err-Listing.fault) [
      | inl line ↦
          let unknown = rw c.as_slice-3.ensures.value at c.in-Err-Listing.ensures.line line.0 (of_listing ∙ ap (λ f. Err (Listing f)) line.1) in
          rw (trouble ∙ line.2) (inr (inr (inl (inr (_, line.0, c.in_ok-bytes.ensures.whole, unknown.0, refl))), unknown.1))
      | inr (inl memory) ↦
          rw (trouble ∙ memory.1) (inr (inl refl, c.in-Err-Listing.ensures.untouched (of_listing ∙ ap (λ f. Err (Listing f)) memory.0)))
      | inr (inr device) ↦
          let w = rw c.as_slice-3.ensures.value at c.in-Err-Listing.ensures.broken (of_listing ∙ ap (λ f. Err (Listing f)) device.0) in
          let no_log = rw c.as_slice-2.ensures.value at (c.is_log_of_machine.ensures.no c.if-is_log_of_machine.false) in
          rw (trouble ∙ device.1) (inl (refl, (w.0, _, (_, c.in_ok-bytes.ensures.whole, inr (none, (no_log, w.1, w.2, refl))), w.3)))
    ]
