-- What a view says of an access is what a list says of it that means the view.
use Rattle.std.proofs.Common.{◌≡◌, ◌≢◌, ◌/◌, ◌%◌, ◌^◌, ◌==◌, ℕ, nat_lt, List, Ok, Err, sym, subst}
use Rattle.std.proofs.lemmas.Bool.{both_ways, eq-eqb, eqb-true, ltb-true, ltb-false}
use Rattle.pmp_encoding.specs.declared.perm.Perm.{Perm}
use Rattle.pmp_encoding.specs.declared.region.Entry.{Entry}
use Rattle.pmp_match.specs.Causes.{access_fault, misaligned}
use Rattle.pmp_match.specs.Judgement.{Judges, allowed, denied, off_its_size, outside}
use Rattle.pmp_match.specs.Kinds.{holds}
use Rattle.pmp_match.specs.Meaning.{Means}
use Rattle.pmp_match.specs.declared.access.Access.{Access}
use Rattle.pmp_match.specs.declared.access.Mode.TheVariants.{Machine}
use Rattle.monitor_core.proofs.Cases.{both}
use Rattle.hart_sim.specs.Steps.{verdict}

pub judged : (view : ℕ → Perm) (entries : List Entry) (a : Access) → Means entries view → a.mode ≢ Machine → Judges entries a (verdict view a)
judged view entries a means mode = both (a.address % a.size == 0)
    (λ on.
    let aligned = eqb-true (a.address % a.size) 0 on in
    both (nat_lt a.address (2 ^ 56))
    (λ low.
    let inside = ltb-true a.address (2 ^ 56) low in
    both (holds (view (a.address / 4096)) a.kind)
    (λ yes.
    let is : verdict view a ≡ Ok tt = rw (on, low, yes) in
    subst (Judges entries a) (sym is) (allowed aligned inside ((means a aligned inside mode).1 yes)))
    (λ no.
    let is : verdict view a ≡ Err (access_fault a.kind) = rw (on, low, no) in
    subst (Judges entries a) (sym is) (denied aligned inside
    (λ granted. both_ways (holds (view (a.address / 4096)) a.kind) no ((means a aligned inside mode).0 granted)))))
    (λ high.
    let is : verdict view a ≡ Err (access_fault a.kind) = rw (on, high) in
    subst (Judges entries a) (sym is) (outside aligned (ltb-false a.address (2 ^ 56) high))))
    (λ off.
    let is : verdict view a ≡ Err (misaligned a.kind) = rw off in
    subst (Judges entries a) (sym is) (off_its_size (λ aligned. both_ways (a.address % a.size == 0) off (eq-eqb (a.address % a.size) 0 aligned))))
