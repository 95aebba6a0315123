-- The segments of a bank's list, and the judgement of an access within one.
use Rattle.std.proofs.Common.{◌≡◌, ◌%◌, ◌^◌, ◌<◌, ◌||◌, List, true, cond, Result, Ok, Err, nat_eq, arith}
use Rattle.std.proofs.lemmas.Bool.{lt-ltb}
use Rattle.pmp_encoding.specs.declared.bank.Bank.{Bank}
use Rattle.pmp_encoding.specs.declared.region.Entry.{Entry}
use Rattle.pmp_encoding.specs.declared.perm.Perm.TheVariants.{NoAccess}
use Rattle.pmp_encoding.specs.Banks.{HasList}
use Rattle.pmp_match.specs.declared.access.Access.{Access}
use Rattle.pmp_match.specs.declared.cause.Cause.{Cause}
use Rattle.pmp_match.specs.declared.segments.Segment.{Segment}
use Rattle.pmp_match.specs.Decision.{is_machine}
use Rattle.pmp_match.specs.Judgement.{Judges, access_fault}
use Rattle.pmp_match.specs.Kinds.{holds}
use Rattle.pmp_match.specs.Segments.{IsWithin, IsSegmentOf}
use Rattle.pmp_match.proofs.Decided.{size_positive}
use Rattle.pmp_match.proofs.Judged.{Judges-from_computed}

-- no access is within a segment without addresses
pub nowhere : (bank : Bank) → IsSegmentOf bank (record { base = 2 ^ 56; end = 2 ^ 56; perm = NoAccess })
nowhere bank = record {
  inside = omega arith;
  decides = λ entries list a within. let some : 0 < a.size = size_positive a.kind a.size a.sized in absurd (omega arith);
}

pub judged_within :
    (bank : Bank) (segment : Segment) (a : Access) (answer : Result (Unit {0}) Cause) → IsSegmentOf bank segment → IsWithin segment.base segment.end a
    → nat_eq (a.address % a.size) 0 ≡ true → answer ≡ cond (is_machine a.mode || holds segment.perm a.kind) (Ok tt) (Err (access_fault a.kind))
    → (entries : List Entry) → HasList bank entries → Judges entries a answer
judged_within bank segment a answer cut within aligned is entries list =
    let some : 0 < a.size = size_positive a.kind a.size a.sized in
    let low : a.address < 2 ^ 56 = omega (arith, cut.inside, within.1) in
    Judges-from_computed entries a answer (rw (aligned, lt-ltb a.address (2 ^ 56) low, cut.decides entries list a within) is)
