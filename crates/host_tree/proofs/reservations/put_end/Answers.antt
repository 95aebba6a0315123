use Rattle.std.proofs.Common.{◌≡◌, ℕ, ◌++◌, length, length-append, arith}
use Rattle.host_tree.specs.Written.{double_word_bytes}
use Rattle.host_tree.proofs.Numbers.{length-double}
use Rattle.host_tree.proofs.Fronts.{two_joined}
use Rattle.host_tree.proofs.Laid.{ends_front}
use Rattle.host_tree.proofs.reservations.put_end.Goals as goal

sixteen : (x y : ℕ) → length (double_word_bytes x ++ double_word_bytes y) ≡ 16
sixteen x y = omega (arith, length-append (double_word_bytes x) (double_word_bytes y), length-double x, length-double y)

pub returns-clause-put : goal.returns-clause-put
returns-clause-put c =
    let z = double_word_bytes 0 in
    let both = two_joined c.args.out.now.items _ _ z z c.in_ok-put_double_word.ensures.put c.in_ok-put_double_word-2.ensures.put in
    (z ++ z, both, sixteen 0 0, λ rest. ends_front rest)
