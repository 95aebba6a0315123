-- The marks after each other hart in the host's world was marked.
use Rattle.std.proofs.Common.{◌≡◌, Bool, true, false, not, ◌&&◌, ◌||◌, if◌then◌else◌, refl}
use Rattle.sbi_decode.specs.declared.world.World.{World}
use Rattle.sbi_decode.specs.declared.world.World.TheVariants.{Host, Enclave as InEnclave}
use Rattle.monitor_core.specs.Changes.{is_host}

pub mark_is : (a b c m : Bool) → (if a && not b && c then true else m) ≡ (if b then m else (a && c || m))
mark_is true true true m = refl
mark_is true true false m = refl
mark_is true false true m = refl
mark_is true false false m = refl
mark_is false true true m = refl
mark_is false true false m = refl
mark_is false false true m = refl
mark_is false false false m = refl

-- a hart that has its own mark, or another that is marked for the host, is in the host's world
pub hosted : (mine known was : Bool) (w : World) → (was ≡ true → is_host w ≡ true) → (if mine then was else (known && is_host w || was)) ≡ true
    → is_host w ≡ true
hosted true known was w so on = so on
hosted false true was Host so on = refl
hosted false true was (InEnclave id) so on = so on
hosted false false was w so on = so on

-- a mark that is there after one was taken away was there before
pub was_marked : (mine was : Bool) → (if mine then false else was) ≡ true → was ≡ true
was_marked true was e = absurd (let z : false ≡ true = e in cc)
was_marked false was e = e
