-- An extent that begins before the end of the access has a byte of it where it ends after the first.
use Rattle.std.proofs.Common.{◌<◌, ◌+◌, arith}
use Rattle.std.proofs.lemmas.Bool.{and_from, lt-ltb}
use Rattle.pmp_match.proofs.RegistersDecided.{Meets-from_test}
use Rattle.register_audit.proofs.extents.meets.Goals as goal

pub returns-then-extent-access : goal.returns-then-extent-access
returns-then-extent-access c =
    let x = c.args.extent.now in
    let a = c.args.access.now in
    let low : x.base < a.address + a.size = rw c.from.ensures at c.if-extent-access.true in (
      (λ h. Meets-from_test x a c.requires.words (and_from _ _ (lt-ltb _ _ low) h)),
      (λ m. lt-ltb _ _ (omega (arith, m.1.0, m.2.1))),
    )
