use Rattle.std.proofs.Common.{◌≡◌, ◌&&◌, Bool, true, false, ap, is_some, length, nat_le, refl, sym}
use Rattle.input_files.proofs.taker.fault_of.Goals as goal

never : (a b : Bool) → b ≡ false → (a && b) ≡ false
never true b none = none
never false b none = refl

pub returns-in-Err-clause-untaken : goal.returns-in-Err-clause-untaken
returns-in-Err-clause-untaken c =
    rw (c.in-Run.is, ← c.without_return-line.ensures) (never (nat_le (length c.args.raw.now) 1023) _ (ap is_some (sym c.in-Err.ensures.value)))
