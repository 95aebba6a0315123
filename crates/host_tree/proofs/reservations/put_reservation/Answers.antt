use Rattle.std.proofs.Common.{◌≡◌, ℕ, ◌++◌, length, length-append, arith}
use Rattle.host_tree.specs.Written.{double_word_bytes}
use Rattle.host_tree.proofs.Numbers.{length-double}
use Rattle.host_tree.proofs.Fronts.{two_joined}
use Rattle.host_tree.proofs.Laid.{pair_front}
use Rattle.host_tree.proofs.reservations.put_reservation.Goals as goal

sixteen : (x y : ℕ) → length (double_word_bytes x ++ double_word_bytes y) ≡ 16
sixteen x y = omega (arith, length-append (double_word_bytes x) (double_word_bytes y), length-double x, length-double y)

pub returns-clause-put : goal.returns-clause-put
returns-clause-put c =
    let address = c.args.address in
    let size = c.args.size in
    let a = double_word_bytes address in
    let s = double_word_bytes size in (
      a ++ s,
      two_joined c.args.out.now.items _ _ a s c.in_ok-put_double_word.ensures.put c.in_ok-put_double_word-2.ensures.put,
      sixteen address size,
      λ rest one later ea es h. pair_front address size rest one later (omega arith) (omega arith) ea es
          (λ p q. let yes = c.is_end.ensures.1 (p, q) in cc (yes, c.if-is_end.false)) h,
    )
