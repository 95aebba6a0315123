-- Why parts are not written, and why those around them are not.
use Rattle.std.proofs.Common.{◌≡◌, ◌⊎◌, ℕ, zero, suc, ◌+◌, ◌*◌, ◌^◌, ◌<◌, ◌≤◌, List, [], ◌∷◌, ◌++◌, get_or, length, ⊎_elim, inl, inr, subst, sym, arith}
use Rattle.device_tree.specs.declared.pieces.PlacedPiece.{PlacedPiece}
use Rattle.device_tree.specs.declared.kinds.Place.{Place}
use Rattle.device_tree.specs.declared.reservations.Reservation.{Reservation}
use Rattle.device_tree.specs.Pieces.{Part, begins, has, ends, part_of, parts_of}
use Rattle.device_tree.specs.declared.cells.Cells.{Cells}
use Rattle.host_tree.specs.declared.fault.MakeFault.{MakeFault}
use Rattle.host_tree.specs.declared.fault.MakeFault.TheVariants.{NotUnderstood, BadCells, NotWritten}
use Rattle.host_tree.specs.declared.reserved.Reserved.{Reserved}
use Rattle.host_tree.specs.declared.write_fault.WriteFault.{WriteFault}
use Rattle.host_tree.specs.declared.write_fault.WriteFault.TheVariants.{EmptyReservation, Memory, TooLarge, ZeroInName}
use Rattle.host_tree.specs.Refusals.{HasEmpty, HasZeroName, HasUnfitRange, IsBeginFault, IsFinishFault, IsHeadFault, IsPropertyFault, IsPutFault, IsRangeFault}
use Rattle.host_tree.specs.Refusals.{IsUnfitRange, IsWriteFault}
use Rattle.host_tree.specs.Written.{IsText, setting, whole_size}
use Rattle.host_tree.specs.declared.writer.TreeWriter.{TreeWriter}

pub zero_first : (x y : List Part) → HasZeroName x → HasZeroName (x ++ y)
zero_first [] y h = absurd h
zero_first (begins n ∷ x) y h = ⊎_elim (λ a. inl a) (λ b. inr (zero_first x y b)) h
zero_first (has s ∷ x) y h = ⊎_elim (λ a. inl a) (λ b. inr (zero_first x y b)) h
zero_first (ends ∷ x) y h = zero_first x y h

pub zero_last : (x y : List Part) → HasZeroName y → HasZeroName (x ++ y)
zero_last [] y h = h
zero_last (begins n ∷ x) y h = inr (zero_last x y h)
zero_last (has s ∷ x) y h = inr (zero_last x y h)
zero_last (ends ∷ x) y h = zero_last x y h

pub write_in : (x y : List Part) (r s : List Reservation) → (HasZeroName x → HasZeroName y) → (HasEmpty r → HasEmpty s)
    → (fault : WriteFault) → IsWriteFault x r fault → IsWriteFault y s fault
write_in x y r s into empty ZeroInName h = into h
write_in x y r s into empty EmptyReservation h = empty h
write_in x y r s into empty TooLarge h = h
write_in x y r s into empty Memory h = h

pub put_in : (x y : List Part) → (HasZeroName x → HasZeroName y) → (fault : MakeFault) → IsPutFault x fault → IsPutFault y fault
put_in x y into (NotUnderstood reason) h = h
put_in x y into BadCells h = h
put_in x y into (NotWritten fault) h = write_in x y [] [] into (λ e. e) fault h

-- a part whose name is a text
pub begun_text : (name : List ℕ) → IsText name → HasZeroName (begins name ∷ []) → ⊥
begun_text name text h = ⊎_elim (λ zero. zero text) (λ none. none) h

pub set_text : (name value : List ℕ) → IsText name → HasZeroName (has (setting name value) ∷ []) → ⊥
set_text name value text h = ⊎_elim (λ zero. zero text) (λ none. none) h

-- a zero in the name of one piece
zero_at : (xs : List PlacedPiece) (i : ℕ) (d : PlacedPiece) → i < length xs → HasZeroName (part_of (get_or xs i d).piece ∷ [])
    → HasZeroName (parts_of xs)
zero_at [] i d less h = absurd (omega (arith, less))
zero_at (x ∷ xs) zero d less h = zero_first (part_of x.piece ∷ []) (parts_of xs) h
zero_at (x ∷ xs) (suc i) d less h = zero_last (part_of x.piece ∷ []) (parts_of xs) (zero_at xs i d (omega (arith, less)) h)

pub piece_at : (xs : List PlacedPiece) (i : ℕ) (d : PlacedPiece) → i < length xs → (fault : MakeFault)
    → IsPutFault (part_of (get_or xs i d).piece ∷ []) fault → IsPutFault (parts_of xs) fault
piece_at xs i d less fault h = put_in (part_of (get_or xs i d).piece ∷ []) (parts_of xs) (zero_at xs i d less) fault h

-- parts whose names are texts
pub put_none : (x : List Part) → (HasZeroName x → ⊥) → (fault : MakeFault) → IsPutFault x fault → IsPutFault [] fault
put_none x text fault h = put_in x [] text fault h

pub put_ranged : (x : List Part) (cells : Cells) (ranges : List Reserved) → (HasZeroName x → ⊥) → (fault : MakeFault) → IsPutFault x fault
    → IsRangeFault cells ranges fault
put_ranged x cells ranges text (NotUnderstood reason) h = h
put_ranged x cells ranges text BadCells h = absurd h
put_ranged x cells ranges text (NotWritten fault) h = write_in x [] [] [] text (λ e. e) fault h

pub head_put : (place : Place) (cells : Cells) (Q x parts : List Part) → (HasZeroName x → HasZeroName parts) → (fault : MakeFault)
    → IsPutFault x fault → IsHeadFault place cells Q parts fault
head_put place cells Q x parts into (NotUnderstood reason) h = absurd h
head_put place cells Q x parts into BadCells h = h
head_put place cells Q x parts into (NotWritten fault) h = write_in x parts [] [] into (λ e. e) fault h

-- one of the ranges does not fit
unfit_at : (cells : Cells) (xs : List Reserved) (i : ℕ) (d : Reserved) → i < length xs → IsUnfitRange cells (get_or xs i d).extent → HasUnfitRange cells xs
unfit_at cells [] i d less h = absurd (omega (arith, less))
unfit_at cells (x ∷ xs) zero d less h = inl h
unfit_at cells (x ∷ xs) (suc i) d less h = inr (unfit_at cells xs i d (omega (arith, less)) h)

pub range_at : (cells : Cells) (xs : List Reserved) (i : ℕ) (d : Reserved) → i < length xs → (fault : MakeFault)
    → IsRangeFault cells (get_or xs i d ∷ []) fault → IsRangeFault cells xs fault
range_at cells xs i d less (NotUnderstood reason) h = h
range_at cells xs i d less BadCells h = ⊎_elim (λ one. unfit_at cells xs i d less one) (λ none. absurd none) h
range_at cells xs i d less (NotWritten fault) h = h

-- memory was refused
pub put_no_memory : (x : List Part) (fault : MakeFault) → fault ≡ NotWritten Memory → IsPutFault x fault
put_no_memory x fault is = subst (λ (f : MakeFault). IsPutFault x f) (sym is) tt

pub range_no_memory : (cells : Cells) (xs : List Reserved) (fault : MakeFault) → fault ≡ NotWritten Memory → IsRangeFault cells xs fault
range_no_memory cells xs fault is = subst (λ (f : MakeFault). IsRangeFault cells xs f) (sym is) tt

pub range_unfit : (cells : Cells) (one : Reserved) (fault : MakeFault)
    → ((fault ≡ NotWritten Memory) ⊎ ((fault ≡ BadCells) × IsUnfitRange cells one.extent)) → IsRangeFault cells (one ∷ []) fault
range_unfit cells one fault why = ⊎_elim (λ is. range_no_memory cells (one ∷ []) fault is)
    (λ unfit. subst (λ (f : MakeFault). IsRangeFault cells (one ∷ []) f) (sym unfit.0) (inl unfit.1)) why

-- what a writer tells, by what it is told
pub begin_no_memory : (name : List ℕ) (fault : WriteFault) → fault ≡ Memory → IsBeginFault name fault
begin_no_memory name fault is = subst (λ (f : WriteFault). IsBeginFault name f) (sym is) tt

pub property_no_memory : (writer : TreeWriter) (name value : List ℕ) (fault : WriteFault) → fault ≡ Memory → IsPropertyFault writer name value fault
property_no_memory writer name value fault is = subst (λ (f : WriteFault). IsPropertyFault writer name value f) (sym is) tt

pub property_refused : (writer : TreeWriter) (name value : List ℕ) (place : ℕ) (fault : WriteFault) → place ≤ length writer.names.items
    → ((fault ≡ Memory) ⊎ ((fault ≡ TooLarge) × ((2 ^ 32 ≤ length value) ⊎ (2 ^ 32 ≤ place)))) → IsPropertyFault writer name value fault
property_refused writer name value place fault inside why = ⊎_elim (λ is. property_no_memory writer name value fault is)
    (λ large. subst (λ (f : WriteFault). IsPropertyFault writer name value f) (sym large.0)
    (⊎_elim (λ long. inl long) (λ far. inr (omega (arith, far, inside))) large.1)) why

pub finish_no_memory : (writer : TreeWriter) (reservations : List Reservation) (free : ℕ) (fault : WriteFault) → fault ≡ Memory
    → IsFinishFault writer reservations free fault
finish_no_memory writer reservations free fault is = subst (λ (f : WriteFault). IsFinishFault writer reservations free f) (sym is) tt

pub finish_large : (writer : TreeWriter) (reservations : List Reservation) (free : ℕ) (fault : WriteFault) (r b n : ℕ)
    → r ≡ length reservations → b ≡ length writer.block.items → n ≡ length writer.names.items
    → (fault ≡ TooLarge) × (2 ^ 32 ≤ 40 + 16 * (r + 1) + (b + 4) + n + free) → IsFinishFault writer reservations free fault
finish_large writer reservations free fault r b n e f g why =
    let large : 2 ^ 32 ≤ whole_size writer (length reservations) free = omega (arith, why.1, e, f, g) in
    subst (λ (f : WriteFault). IsFinishFault writer reservations free f) (sym why.0) large

-- of reservations one is empty, or memory was refused
pub finish_empty : (writer : TreeWriter) (reservations : List Reservation) (free : ℕ) (fault : WriteFault)
    → ((fault ≡ Memory) ⊎ ((fault ≡ EmptyReservation) × HasEmpty reservations)) → IsFinishFault writer reservations free fault
finish_empty writer reservations free fault why = ⊎_elim (λ is. finish_no_memory writer reservations free fault is)
    (λ one. subst (λ (f : WriteFault). IsFinishFault writer reservations free f) (sym one.0) one.1) why

-- and what comes of it for a whole tree
pub begin_put : (name : List ℕ) (fault : WriteFault) → IsBeginFault name fault → IsPutFault (begins name ∷ []) (NotWritten fault)
begin_put name ZeroInName h = inl h
begin_put name EmptyReservation h = h
begin_put name TooLarge h = absurd h
begin_put name Memory h = h

pub property_put : (writer : TreeWriter) (name value : List ℕ) (fault : WriteFault) → IsPropertyFault writer name value fault
    → IsPutFault (has (setting name value) ∷ []) (NotWritten fault)
property_put writer name value ZeroInName h = inl h
property_put writer name value EmptyReservation h = h
property_put writer name value TooLarge h = tt
property_put writer name value Memory h = h

pub finish_written : (writer : TreeWriter) (parts : List Part) (reservations : List Reservation) (free : ℕ) (fault : WriteFault)
    → IsFinishFault writer reservations free fault → IsWriteFault parts reservations fault
finish_written writer parts reservations free ZeroInName h = absurd h
finish_written writer parts reservations free EmptyReservation h = h
finish_written writer parts reservations free TooLarge h = tt
finish_written writer parts reservations free Memory h = h

pub empty_at : (xs : List Reservation) (i : ℕ) (d : Reservation) → i < length xs → ((get_or xs i d).address ≡ 0) × ((get_or xs i d).size ≡ 0) → HasEmpty xs
empty_at [] i d less h = absurd (omega (arith, less))
empty_at (x ∷ xs) zero d less h = inl h
empty_at (x ∷ xs) (suc i) d less h = inr (empty_at xs i d (omega (arith, less)) h)
