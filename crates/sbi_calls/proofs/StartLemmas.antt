-- A list of entries that grows at its front, and what it says of a fetch.
use Rattle.std.proofs.Common.{◌≡◌, ◌∙◌, ℕ, suc, ◌+◌, ◌-◌, ◌%◌, ◌^◌, ◌<◌, ◌↔◌, zero, List, [], ◌∷◌, Bool, true, false, take, sym, refl, ap, subst, arith, Option, Some, None, Result, Ok, Err}
use Rattle.std.proofs.lemmas.Bool.Decides.{nat_tests}
use Rattle.std.proofs.lemmas.Grind.{common_steps}
use Rattle.std.specs.Prelude.{is_ok}
use Rattle.pmp_encoding.specs.Encoding.{IsOff, MeansEntry}
use Rattle.pmp_encoding.specs.Lists.{MeansList, done, skip, keep}
use Rattle.pmp_encoding.specs.Registers.{pairs_from}
use Rattle.pmp_encoding.specs.declared.fault.EncodingFault.{EncodingFault}
use Rattle.pmp_encoding.specs.declared.region.Entry.{Entry}
use Rattle.pmp_match.specs.Accesses.{meets}
use Rattle.pmp_match.specs.Decision.{allows}
use Rattle.pmp_match.specs.Judgement.{judgement}
use Rattle.sbi_calls.specs.StartAddresses.{FirstAllow, FirstPermit, IsExecutable, ListsAnswer, answer_of, fetch_at, pair_at}
use Rattle.sbi_calls.specs.declared.bank_words.BankWords.{BankWords}

-- what a decoded pair says, by what decoding promises of it
module _ (decoded : Result (Option Entry) EncodingFault) (pair : ℕ × ℕ) (pairs : List (ℕ × ℕ)) (address : ℕ) (below : Bool)
    (entry : (e : Entry) → MeansEntry pair.0 pair.1 e → decoded ≡ Ok (Some e)) (off : IsOff pair.0 pair.1 → decoded ≡ Ok None)
    (before : ListsAnswer pairs address below) where
  pub passed_over : decoded ≡ Ok None → ListsAnswer (pair ∷ pairs) address below
  passed_over is entries (skip o list) = before entries list
  passed_over is (e ∷ entries) (keep m list) = let clash : Ok None ≡ Ok (Some e) = sym is ∙ entry e m in absurd cc

  pub put_first : (x : Entry) → decoded ≡ Ok (Some x) → ListsAnswer (pair ∷ pairs) address (answer_of x (fetch_at address) below)
  put_first x is entries (skip o list) = let clash : Ok (Some x) ≡ Ok None = sym is ∙ off o in absurd cc
  put_first x is (e ∷ entries) (keep m list) =
      let told : Ok (Some x) ≡ Ok (Some e) = sym is ∙ entry e m in
      let same : x ≡ e = cc in
      let rest : below ≡ allows entries (fetch_at address) = before entries list in
      rw (same, rest) (ap (λ b. b) (λ i. allows (e ∷ entries) (fetch_at address)))

  pub refused : (fault : EncodingFault) → decoded ≡ Err fault → ListsAnswer (pair ∷ pairs) address false
  refused fault is entries (skip o list) = let clash : Err fault ≡ Ok None = sym is ∙ off o in absurd cc
  refused fault is (e ∷ entries) (keep m list) = let clash : Err fault ≡ Ok (Some e) = sym is ∙ entry e m in absurd cc

-- what the first pairs allow, by what decoding promises of one more before them
module _ (decoded : Result (Option Entry) EncodingFault) (pair : ℕ × ℕ) (pairs : List (ℕ × ℕ)) (address : ℕ) (below : Bool)
    (entry : (e : Entry) → MeansEntry pair.0 pair.1 e → decoded ≡ Ok (Some e)) (off : IsOff pair.0 pair.1 → decoded ≡ Ok None)
    (before : (below ≡ true) ↔ FirstAllow pairs address) where
  passed_back : decoded ≡ Ok None → (count : ℕ) (entries : List Entry) → MeansList (take count (pair ∷ pairs)) entries
      → allows entries (fetch_at address) ≡ true → below ≡ true
  passed_back is zero [] done lets = absurd cc
  passed_back is zero (e ∷ entries) none lets = elim none [ ]
  passed_back is (suc n) entries (skip o list) lets = before.1 (n, entries, list, lets)
  passed_back is (suc n) (e ∷ entries) (keep m list) lets = let clash : Ok None ≡ Ok (Some e) = sym is ∙ entry e m in absurd cc

  pub first_passed_over : IsOff pair.0 pair.1 → decoded ≡ Ok None → (below ≡ true) ↔ FirstAllow (pair ∷ pairs) address
  first_passed_over o is = (
    (λ lets. let was = before.0 lets in (suc was.0, was.1, skip o was.2, was.3)),
    (λ now. passed_back is now.0 now.1 now.2 now.3),
  )

  put_front : (x : Entry) → MeansEntry pair.0 pair.1 x → (m : Bool) → meets x.region (fetch_at address) ≡ m
      → answer_of x (fetch_at address) below ≡ true → FirstAllow (pair ∷ pairs) address
  put_front x means true met lets = (1, x ∷ [], keep means done, grind (arith, common_steps, met, lets))
  put_front x means false met lets =
      let was = before.0 (grind (arith, common_steps, met, lets)) in
      (suc was.0, x ∷ was.1, keep means was.2, grind (arith, common_steps, met, was.3))

  put_back : (x : Entry) → decoded ≡ Ok (Some x) → (m : Bool) → meets x.region (fetch_at address) ≡ m → (count : ℕ) (entries : List Entry)
      → MeansList (take count (pair ∷ pairs)) entries → allows entries (fetch_at address) ≡ true → answer_of x (fetch_at address) below ≡ true
  put_back x is m met zero [] done lets = absurd cc
  put_back x is m met zero (e ∷ entries) none lets = elim none [ ]
  put_back x is m met (suc n) entries (skip o list) lets = let clash : Ok (Some x) ≡ Ok None = sym is ∙ off o in absurd cc
  put_back x is true met (suc n) (e ∷ entries) (keep means list) lets =
      let known : Ok (Some x) ≡ Ok (Some e) = sym is ∙ entry e means in
      let same : e ≡ x = cc in
      let own = rw same at lets in
      grind (arith, common_steps, met, own)
  put_back x is false met (suc n) (e ∷ entries) (keep means list) lets =
      let known : Ok (Some x) ≡ Ok (Some e) = sym is ∙ entry e means in
      let same : e ≡ x = cc in
      let own = rw same at lets in
      let later = before.1 (n, entries, list, grind (arith, common_steps, met, own)) in
      grind (arith, common_steps, met, later)

  pub first_put : (x : Entry) → MeansEntry pair.0 pair.1 x → decoded ≡ Ok (Some x)
      → (answer_of x (fetch_at address) below ≡ true) ↔ FirstAllow (pair ∷ pairs) address
  first_put x means is = (
    (λ lets. put_front x means (meets x.region (fetch_at address)) refl lets),
    (λ now. put_back x is (meets x.region (fetch_at address)) refl now.0 now.1 now.2 now.3),
  )

  refused_back : (fault : EncodingFault) → decoded ≡ Err fault → (count : ℕ) (entries : List Entry)
      → MeansList (take count (pair ∷ pairs)) entries → allows entries (fetch_at address) ≡ true → false ≡ true
  refused_back fault is zero [] done lets = lets
  refused_back fault is zero (e ∷ entries) none lets = elim none [ ]
  refused_back fault is (suc n) entries (skip o list) lets = let clash : Err fault ≡ Ok None = sym is ∙ off o in absurd cc
  refused_back fault is (suc n) (e ∷ entries) (keep m list) lets = let clash : Err fault ≡ Ok (Some e) = sym is ∙ entry e m in absurd cc

  pub first_refused : (fault : EncodingFault) → decoded ≡ Err fault → (false ≡ true) ↔ FirstAllow (pair ∷ pairs) address
  first_refused fault is = ((λ no. absurd cc), (λ now. refused_back fault is now.0 now.1 now.2 now.3))

-- one pair more at the front of those from a place on
pub one_more : (bank : BankWords) (after : ℕ) (P : List (ℕ × ℕ) → Type 0) → after < 64
    → P (pair_at bank (63 - after) ∷ pairs_from bank.cfg bank.addr (64 - after) after)
    → P (pairs_from bank.cfg bank.addr (64 - (after + 1)) (after + 1))
one_more bank after P inside list =
    let place : 64 - after ≡ suc (63 - after) = omega (arith, inside) in
    let first : 64 - (after + 1) ≡ 63 - after = omega (arith, inside) in
    let grown : after + 1 ≡ suc after = omega arith in
    let at_place = subst (λ n. P (pair_at bank (63 - after) ∷ pairs_from bank.cfg bank.addr n after)) place list in
    subst (λ n. P (pairs_from bank.cfg bank.addr n (after + 1))) (sym first)
    (subst (λ n. P (pairs_from bank.cfg bank.addr (63 - after) n)) (sym grown) at_place)

-- an even address in the space is judged by the list alone
pub judged_by_list : (entries : List Entry) (address : ℕ) → address % 2 ≡ 0 → address < 2 ^ 56
    → is_ok (judgement entries (fetch_at address)) ≡ allows entries (fetch_at address)
judged_by_list entries address even inside = grind (arith, nat_tests, common_steps, even, inside)

pub first_permitted : (pairs : List (ℕ × ℕ)) (address : ℕ) (answer : Bool) → address % 2 ≡ 0 → address < 2 ^ 56
    → (answer ≡ true) ↔ FirstAllow pairs address → (answer ≡ true) ↔ FirstPermit pairs address
first_permitted pairs address answer even inside by = (
  (λ lets. let was = by.0 lets in (was.0, was.1, was.2, judged_by_list was.1 address even inside ∙ was.3)),
  (λ now. by.1 (now.0, now.1, now.2, sym (judged_by_list now.1 address even inside) ∙ now.3)),
)

-- there is one answer at most
pub one_answer : (bank : BankWords) (address : ℕ) (answer other : Bool) → IsExecutable bank address answer → IsExecutable bank address other
    → answer ≡ other
one_answer bank address true true is was = refl
one_answer bank address true false is was = sym (was.first.1 (is.first.0 refl))
one_answer bank address false true is was = is.first.1 (was.first.0 refl)
one_answer bank address false false is was = refl
