use Rattle.std.proofs.Common.{◌≡◌, ℕ, List, [], ◌++◌, ◌+◌, ◌*◌, length, length-append, append_assoc, drop, subst, sym, ⊎_elim, inl, inr, arith}
use Rattle.std.proofs.lemmas.List.{drop_all}
use Rattle.device_tree.specs.Trees.{BeginsWithReservations}
use Rattle.device_tree.specs.declared.reservations.Reservation.{Reservation}
use Rattle.std.proofs.lemmas.Result.{err_from_is_err_and}
use Rattle.host_tree.proofs.WriteFaults.{empty_at}
use Rattle.host_tree.proofs.Fronts.{two_joined}
use Rattle.host_tree.proofs.Steps.{held_step}
use Rattle.host_tree.proofs.reservations.put_reservations.Goals as goal

all_there : (a b d i n : ℕ) → a ≡ 16 * i → b ≡ 16 → i ≡ n → d ≡ a + b → d ≡ 16 * (n + 1)
all_there a b d i n p q e r = omega arith

last : (added end : List ℕ) (list : List Reservation) (i : ℕ) → length list ≡ i
    → ((rest : List ℕ) → BeginsWithReservations rest (drop i list) → BeginsWithReservations (added ++ rest) list)
    → ((rest : List ℕ) → BeginsWithReservations (end ++ rest) []) → (rest : List ℕ) → BeginsWithReservations ((added ++ end) ++ rest) list
last added end list i e was ends rest =
    let none = drop_all i list (omega (arith, e)) in
    subst (λ (x : List ℕ). BeginsWithReservations x list) (sym (append_assoc added end rest))
    (was (end ++ rest) (subst (λ (x : List Reservation). BeginsWithReservations (end ++ rest) x) (sym none) (ends rest)))

pub loop-one-preserved : goal.loop-one-preserved
loop-one-preserved c =
    let was = c.loop-one.invariant in
    let one = c.in_ok-put_reservation.ensures.put in
    let both = length-append was.0 one.0 in (
      was.0 ++ one.0,
      two_joined c.args.out.now.items _ _ was.0 one.0 was.1 one.1,
      omega (arith, was.2, one.2, both),
      held_step was.0 one.0 c.args.list.now c.loop-one.one-index _ (omega arith) was.3 one.3,
    )

pub returns-clause-put : goal.returns-clause-put
returns-clause-put c =
    let was = c.loop-one.invariant in
    let ended = c.in_ok-put_end.ensures.put in
    let list = c.args.list.now in
    let at_end : length list ≡ c.loop-one.one-index = omega arith in (
      was.0 ++ ended.0,
      two_joined c.args.out.now.items _ _ was.0 ended.0 was.1 ended.1,
      all_there (length was.0) (length ended.0) _ c.loop-one.one-index (length list) was.2 ended.2 (sym at_end) (length-append was.0 ended.0),
      last was.0 ended.0 list c.loop-one.one-index at_end was.3 ended.3,
    )

pub returns-in_err-put_reservation-clause-refused : goal.returns-in_err-put_reservation-clause-refused
returns-in_err-put_reservation-clause-refused c =
    let p = err_from_is_err_and c.from_residual.result c.from_residual.ensures.1 in
    rw (p.1, p.2) (⊎_elim (λ is. inl is)
    (λ one. inr (one.0, empty_at c.args.list.now c.loop-one.one-index _ (omega arith) (one.1, one.2))) c.in_err-put_reservation.ensures.refused)

pub returns-in_err-put_end-clause-refused : goal.returns-in_err-put_end-clause-refused
returns-in_err-put_end-clause-refused c =
    let p = err_from_is_err_and c.from_residual-in_err-put_end.result c.from_residual-in_err-put_end.ensures.1 in
    rw (p.1, p.2) (inl c.in_err-put_end.ensures.refused)
