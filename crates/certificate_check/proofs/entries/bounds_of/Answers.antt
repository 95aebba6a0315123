use Rattle.std.proofs.Common.{◌+◌, ◌%◌, ◌^◌, arith, rules}
use Rattle.std.proofs.lemmas.Nat.{or_lt}
use Rattle.certificate_check.proofs.Spanned.{pages_by_address}
use Rattle.certificate_check.proofs.entries.bounds_of.Goals as goal

pub overflow_add-end : goal.overflow_add-end
overflow_add-end c = let small = or_lt 64 c.args.address ((c.args.address + 1) % 2 ^ 64) (search rules) (omega arith) in omega (arith, small)

pub returns : goal.returns
returns c = λ cfg e means page. pages_by_address cfg c.args.address _ e c.min.ensures means page
