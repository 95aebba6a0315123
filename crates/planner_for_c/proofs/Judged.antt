-- An access has one judgement by registers, and it comes to C as it is.
use Rattle.std.proofs.Common.{◌≡◌, ◌∙◌, ◌^◌, ◌<◌, ℕ, List, Result, sym, subst}
use Rattle.std.proofs.lemmas.Int.{to_z-of_z}
use Rattle.std.specs.Prelude.{ℤ}
use lib.Signed.{mag}
use mir.Val.{to_z, of_z}
use mir.Syntax.{w64}
use Rattle.pmp_encoding.specs.declared.region.Entry.{Entry}
use Rattle.pmp_encoding.specs.Lists.{MeansList}
use Rattle.pmp_encoding.proofs.Pairs.{one_list}
use Rattle.pmp_match.specs.declared.access.Access.{Access}
use Rattle.pmp_match.specs.declared.cause.Cause.{Cause}
use Rattle.pmp_match.specs.Judgement.{Judges}
use Rattle.pmp_match.proofs.Judged.{judgement_law_proof}
use Rattle.planner_for_c.specs.declared.access.AccessWords.{AccessWords}
use Rattle.planner_for_c.specs.declared.registers.Registers.{Registers}
use Rattle.planner_for_c.specs.Accesses.{Says}
use Rattle.planner_for_c.specs.Registers.{pairs_to}
use Rattle.planner_for_c.proofs.Said.{one_access}

-- a signed number comes to C as it is
pub crosses : (z w : ℤ) → z ≡ w → mag z < 2 ^ 63 → to_z w64 (of_z w64 z) ≡ w
crosses z w is small = to_z-of_z w64 z (record { sfits = small }) ∙ is

one_answer : (entries : List Entry) (a : Access) (r s : Result (Unit {0}) Cause) → Judges entries a r → Judges entries a s → r ≡ s
one_answer entries a r s x y = sym ((judgement_law_proof entries a r).0 x) ∙ (judgement_law_proof entries a s).0 y

pub one_judgement :
    (registers : Registers) (count : ℕ) (words : AccessWords) (a b : Access) (es fs : List Entry) (r s : Result (Unit {0}) Cause) → Says words a → Says words b
    → MeansList (pairs_to registers count) es → MeansList (pairs_to registers count) fs → Judges es a r → Judges fs b s → r ≡ s
one_judgement registers count words a b es fs r s says says' list list' x y =
    let same : fs ≡ es = one_list (pairs_to registers count) fs es list' list in
    let moved : Judges es a s = subst (λ c. Judges es c s) (one_access words b a says' says) (subst (λ l. Judges l b s) same y) in
    one_answer es a r s x moved
