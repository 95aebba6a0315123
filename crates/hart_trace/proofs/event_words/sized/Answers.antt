use Rattle.std.proofs.Common.{◌≡◌, ℕ, Bool, true, false, Some, ap, refl}
use Rattle.std.proofs.Math.Bool.{Bool-set}
use Rattle.std.proofs.lemmas.Bool.{both_ways}
use Rattle.pmp_match.specs.declared.access.Mode.{Mode}
use Rattle.pmp_match.specs.declared.access.Kind.{Kind}
use Rattle.pmp_match.specs.Kinds.{has_size}
use Rattle.hart_trace.specs.Events.{sized}
use Rattle.hart_trace.proofs.event_words.sized.Goals as goal

-- it doesn't matter by which proof the size fits
sized_is : (mode : Mode) (kind : Kind) (size address : ℕ) (b : Bool) (fits : has_size kind size ≡ b) (also : has_size kind size ≡ true)
    → Some (record { mode = mode; kind = kind; size = size; address = address; sized = also }) ≡ sized mode kind size address b fits
sized_is mode kind size address true fits also =
    ap (λ s. Some (record { mode = mode; kind = kind; size = size; address = address; sized = s })) (Bool-set (has_size kind size) true also fits)
sized_is mode kind size address false fits also = absurd (both_ways (has_size kind size) fits also)

pub returns : goal.returns
returns c = sized_is c.args.mode c.args.kind c.args.size c.args.address _ refl _
