-- Whether a flag is given, by the text that is read of it.
use Rattle.std.proofs.Common.{◌≡◌, ◌↔◌, Option, Some, None, Bool, true, false, ap, codes, refl, sym, true≢false}
use Rattle.std.specs.Prelude.{unwrap_or}
use Rattle.std.specs.Str.Parse.{ParsesBool}
use Rattle.clap.specs.Words.{ReadsOne, Text}

apart : {P : Type 0} (b : Bool) → Some b ≡ None → P
apart b e = cc

same : (t u : Text) → Some t ≡ Some u → t ≡ u
same t u e = cc

other : {P : Type 0} (t : Text) → t ≡ codes "false" → Some t ≡ Some (codes "true") → P
other t e f = cc

pub read : (E : Type 0) (text : Option Text) (flag : Option Bool) → (text ≡ None → flag ≡ None)
    → ((t : Text) → text ≡ Some t → ReadsOne {T = Bool} {E = E} ParsesBool t flag) → (unwrap_or flag false ≡ true) ↔ (text ≡ Some (codes "true"))
read E None None none value = (λ e. absurd (true≢false (sym e)), λ e. cc)
read E None (Some b) none value = (λ e. apart b (none refl), λ e. cc)
read E (Some t) (Some true) none value = (λ e. ap (λ x. Some x) (value t refl), λ e. refl)
read E (Some t) (Some false) none value = (λ e. absurd (true≢false (sym e)), λ e. other t (value t refl) e)
read E (Some t) None none value = (λ e. absurd (true≢false (sym e)), λ e. absurd (((value t refl).1).0 (same t _ e)))
