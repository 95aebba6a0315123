-- Place after place is decoded, and so the extents are those of the bank's list.
use Rattle.std.proofs.Common.{refl, ◌≡◌, subst, arith}
use Rattle.pmp_encoding.specs.Extents.{AreExtents}
use Rattle.pmp_encoding.specs.Limits.{limit_number}
use Rattle.pmp_encoding.proofs.Filled.{limit_most}
use Rattle.pmp_encoding.proofs.Decoded.{decoded_none, decoded_off, decoded_entry, decoded_extents}
use Rattle.pmp_encoding.proofs.bank.Bank.holding.Goals as goal
use Rattle.pmp_encoding.proofs.bank.Bank.holding.Goals.{in-Some, in_default}

pub loop-i-init : goal.loop-i-init
loop-i-init c = decoded_none c.args.words c.args.addresses _ refl

pub offset_bounds-extents-used : goal.offset_bounds-extents-used
offset_bounds-extents-used c = record {
  fits = omega (arith, c.loop-i.invariant.few, c.loop-i-test.true, limit_most c.args.limit, c.number-count.ensures.value);
}

pub bounds-extents-used : goal.bounds-extents-used
bounds-extents-used c = omega (arith, c.loop-i.invariant.few, c.loop-i-test.true, limit_most c.args.limit, c.number-count.ensures.value)

pub overflow_add-used : goal.overflow_add-used
overflow_add-used c = record { fits = omega (arith, c.loop-i.invariant.few, c.loop-i-test.true, limit_most c.args.limit, c.number-count.ensures.value) }

pub loop-i-preserved : goal.loop-i-preserved
loop-i-preserved c =
    elim c.match-entry_of.branch [
      | in-Some w ↦ rw (w.extents-is, w.used-is, w.put.ensures)
          (decoded_entry c.args.words c.args.addresses c.loop-i.i c.loop-i.extents c.loop-i.used c.loop-i.invariant
          (omega (arith, c.loop-i-test.true, limit_most c.args.limit, c.number-count.ensures.value))
          w.in-Some.entry (rw c.byte_of-cfg.ensures at w.in-Some.ensures))
      | in_default w ↦ rw (w.extents-is, w.used-is)
          (decoded_off c.args.words c.args.addresses c.loop-i.i c.loop-i.extents c.loop-i.used c.loop-i.invariant
          (rw c.byte_of-cfg.ensures at w.in_default.ensures))
    ]

pub invariant_of-result : goal.invariant_of-result
invariant_of-result c =
    let all : c.loop-i.i ≡ limit_number c.args.limit = omega (arith, c.loop-i-test.false, c.loop-i.auto.i-end, c.number-count.ensures.value) in
    record {
      registers = c.requires;
      decoded =
          subst (λ n. AreExtents c.args.words c.args.addresses n c.loop-i.extents c.loop-i.used) all
          (decoded_extents c.args.words c.args.addresses c.loop-i.i c.loop-i.extents c.loop-i.used c.loop-i.invariant
          (omega (arith, all, limit_most c.args.limit)));
    }
