-- What a mode may do by registers is what the list of what they give it permits.
use Rattle.std.proofs.Common.{◌≡◌, ◌≢◌, ◌∙◌, ℕ, ◌+◌, ◌%◌, ◌<◌, ◌≤◌, ◌⊎◌, ◌↔◌, inl, inr, List, [], ◌∷◌, ◌++◌, length, Bool, true, false, cond, nat_le}
use Rattle.std.proofs.Common.{All, refl, sym, subst, arith}
use Rattle.std.specs.List.{AllByRecursion}
use Rattle.std.proofs.lemmas.Bool.{leb-true, le-leb, and_from, and_parts, both_ways}
use Rattle.std.proofs.lemmas.List.Elements.{All-from_recursion, recursion_from_All}
use Rattle.pmp_encoding.specs.declared.extent.Extent.{Extent}
use Rattle.pmp_encoding.specs.declared.perm.Perm.{Perm}
use Rattle.pmp_encoding.specs.declared.xlen.Xlen.{Xlen}
use Rattle.pmp_encoding.specs.declared.xlen.Xlen.TheVariants.{Rv32, Rv64}
use Rattle.pmp_encoding.specs.Views.{View}
use Rattle.pmp_encoding.specs.Widths.{space_end}
use Rattle.pmp_match.specs.declared.access.Access.{Access}
use Rattle.pmp_match.specs.declared.access.Kind.{Kind}
use Rattle.pmp_match.specs.declared.access.Mode.{Mode}
use Rattle.pmp_match.specs.declared.access.Mode.TheVariants.{Machine, User}
use Rattle.pmp_match.specs.declared.registers.Registers.{Registers}
use Rattle.pmp_match.specs.Accesses.{IsAligned}
use Rattle.pmp_match.specs.Kinds.{holds}
use Rattle.pmp_match.specs.Matching.{touches, grants, lets_through}
use Rattle.pmp_match.specs.RegisterDecision.{ContainsAll, ExtentsMean, IsWords, Meets, Permits, RegistersMean}
use Rattle.pmp_match.specs.RegisterMatching.{AreExtents, AreExtentsFrom}
use Rattle.pmp_match.proofs.Decided.{size_positive}
use Rattle.pmp_match.proofs.Matched.{all_inside, each_words, extent_words}
use Rattle.pmp_match.proofs.RegistersDecided.{Meets-from_test, contains_from_ends, ends_from_contains, permits_from_test, test_from_Meets, test_from_permits}
use Rattle.pmp_match.proofs.RegistersEachByte.{IsSmall}
use Rattle.register_audit.specs.Decision.{LetsThrough, RegistersAllow, default_perm, perm_in}
use Rattle.register_audit.specs.Modes.{AreGiven, MeanFor, entries_from, everywhere, given_by, with_perm}
use Rattle.register_audit.proofs.Cut.{Size, size_of, eight, small}
use Rattle.register_audit.proofs.Places.{AllowFrom, allow_all, allow_met, allow_missed, allow_past, misses_by}
use Rattle.register_audit.proofs.Same.{permits, through, back}

-- the same access by another mode
abbrev pub as_mode : Mode → Access → Access
as_mode mode a = record { mode = mode; kind = a.kind; size = a.size; address = a.address; sized = a.sized }

-- what is permitted does not look at the mode
moved : (xs : List Extent) (a : Access) (mode : Mode) → Permits xs a → Permits xs (as_mode mode a)
moved xs a mode p = record {
  extent = p.extent;
  first = record { before = p.first.before; after = p.first.after; split = p.first.split; missed = p.first.missed; met = p.first.met };
  whole = p.whole;
  may = p.may;
}

unmoved : (xs : List Extent) (a : Access) (mode : Mode) → Permits xs (as_mode mode a) → Permits xs a
unmoved xs a mode p = record {
  extent = p.extent;
  first = record { before = p.first.before; after = p.first.after; split = p.first.split; missed = p.first.missed; met = p.first.met };
  whole = p.whole;
  may = p.may;
}

-- ---- whole words

everywhere_words : (xlen : Xlen) (perm : Perm) → IsWords (everywhere xlen perm)
everywhere_words Rv32 perm = record { base = refl; end = refl; inside = omega arith; some = inl (omega arith) }
everywhere_words Rv64 perm = record { base = refl; end = refl; inside = omega arith; some = inl (omega arith) }

with_words : (x : Extent) (perm : Perm) → IsWords x → IsWords (with_perm x perm)
with_words x perm words = record { base = words.base; end = words.end; inside = words.inside; some = words.some }

entries_words : (registers : Registers) (mode : Mode) (place : ℕ) (xs : List Extent) → AllByRecursion IsWords xs
    → AllByRecursion IsWords (entries_from registers mode place xs)
entries_words registers mode place [] words = tt
entries_words registers mode place (x ∷ xs) words =
    (with_words x (perm_in registers mode place x) words.0, entries_words registers mode (place + 1) xs words.1)

behind_words : (xs : List Extent) (x : Extent) → AllByRecursion IsWords xs → IsWords x → AllByRecursion IsWords (xs ++ x ∷ [])
behind_words [] x words last = (last, tt)
behind_words (y ∷ xs) x words last = (words.0, behind_words xs x words.1 last)

given_words : (registers : Registers) (mode : Mode) (xs : List Extent) → AreExtents registers xs → AllByRecursion IsWords (given_by registers mode xs)
given_words registers mode xs are =
    behind_words (entries_from registers mode 0 xs) (everywhere registers.xlen (default_perm registers mode))
    (entries_words registers mode 0 xs (each_words registers xs are)) (everywhere_words registers.xlen (default_perm registers mode))

pub are_words : (registers : Registers) (mode : Mode) (given : List Extent) → AreGiven mode registers given → AllByRecursion IsWords given
are_words registers mode given are = subst (AllByRecursion IsWords) (sym are.2) (given_words registers mode are.0 are.1)

pub all_given : (registers : Registers) (mode : Mode) (given : List Extent) → AreGiven mode registers given → All IsWords given
all_given registers mode given are = All-from_recursion IsWords given (are_words registers mode given are)

pub all_entries : (registers : Registers) (mode : Mode) (xs : List Extent) → AreExtents registers xs → All IsWords (entries_from registers mode 0 xs)
all_entries registers mode xs are = All-from_recursion IsWords _ (entries_words registers mode 0 xs (each_words registers xs are))

-- ---- an access in the space

space_eights : (xlen : Xlen) → space_end xlen % 8 ≡ 0
space_eights Rv32 = refl
space_eights Rv64 = refl

inside_by : (at size end : ℕ) → end % 8 ≡ 0 → at % size ≡ 0 → at < end → IsSmall size ⊎ (size ≡ 8) → at + size ≤ end
inside_by at size end whole on less (inl (inl e)) = omega (arith, e, less)
inside_by at size end whole on less (inl (inr (inl e))) = let even : at % 2 ≡ 0 = subst (λ s. at % s ≡ 0) e on in omega (arith, e, even, less, whole)
inside_by at size end whole on less (inl (inr (inr e))) = let even : at % 4 ≡ 0 = subst (λ s. at % s ≡ 0) e on in omega (arith, e, even, less, whole)
inside_by at size end whole on less (inr e) = let even : at % 8 ≡ 0 = subst (λ s. at % s ≡ 0) e on in omega (arith, e, even, less, whole)

one_size : (kind : Kind) (size : ℕ) → Size kind size → IsSmall size ⊎ (size ≡ 8)
one_size kind size (small is) = inl is
one_size kind size (eight is other) = inr is

module _ (registers : Registers) (a : Access) (aligned : IsAligned a) (inside : a.address < space_end registers.xlen) where
  ends_inside : a.address + a.size ≤ space_end registers.xlen
  ends_inside =
      inside_by a.address a.size (space_end registers.xlen) (space_eights registers.xlen) aligned inside
      (one_size a.kind a.size (size_of a.kind a.size a.sized))

  met_somewhere : (perm : Perm) → Meets (everywhere registers.xlen perm) (as_mode User a)
  met_somewhere perm =
      let some = size_positive a.kind a.size a.sized in (a.address, (omega arith, omega (arith, some)), (omega arith, inside))

  -- what the whole space lets through
  last_is : (perm : Perm) → lets_through (everywhere registers.xlen perm ∷ []) (as_mode User a) ≡ holds perm a.kind
  last_is perm =
      rw (
        test_from_Meets (everywhere registers.xlen perm) (as_mode User a) (met_somewhere perm),
        le-leb 0 a.address (omega arith),
        le-leb (a.address + a.size) (space_end registers.xlen) ends_inside,
      ) refl

  granted : (place : ℕ) (x : Extent) → ContainsAll x a × LetsThrough registers a place x
      → grants (with_perm x (perm_in registers a.mode place x)) (as_mode User a) ≡ true
  granted place x h =
      let ends = ends_from_contains x a h.0 in
      and_from _ _ (and_from _ _ (le-leb _ _ ends.0) (le-leb _ _ ends.1)) h.1

  let_through : (place : ℕ) (x : Extent) → grants (with_perm x (perm_in registers a.mode place x)) (as_mode User a) ≡ true
      → ContainsAll x a × LetsThrough registers a place x
  let_through place x h =
      let both = and_parts _ _ h in
      let ends : (nat_le x.base a.address ≡ true) × (nat_le (a.address + a.size) x.end ≡ true) = and_parts _ _ both.0 in
      (contains_from_ends x a (leb-true _ _ ends.0) (leb-true _ _ ends.1), both.1)

  -- what the entries from a place on give, and what may be done where none matches, let the access through
  abbrev passes_from : ℕ → List Extent → Bool
  passes_from first xs =
      lets_through (entries_from registers a.mode first xs ++ everywhere registers.xlen (default_perm registers a.mode) ∷ []) (as_mode User a)

  -- they do so exactly where the entries say yes
  given_from : (first : ℕ) (xs : List Extent) → AreExtentsFrom registers first xs → first + length xs ≡ 64
      → AllowFrom registers a first ↔ (passes_from first xs ≡ true)
  given_from first [] are all =
      let same = last_is (default_perm registers a.mode) in
      through (allow_past registers a first (omega (arith, all))) ((λ h. same ∙ h), (λ h. sym same ∙ h))
  given_from first (x ∷ xs) are all = go (touches x a) refl (given_from (first + 1) xs are.1 (omega (arith, all)))
    where
      here : first < 64
      here = omega (arith, all)

      go : (t : Bool) → touches x a ≡ t → AllowFrom registers a (first + 1) ↔ (passes_from (first + 1) xs ≡ true)
          → AllowFrom registers a first
          ↔ (cond t (grants (with_perm x (perm_in registers a.mode first x)) (as_mode User a)) (passes_from (first + 1) xs) ≡ true)
      go true is rest =
          through (allow_met registers a first x here are.0 (Meets-from_test x a (extent_words registers first x are.0) is))
          (granted first x, let_through first x)
      go false is rest = through (allow_missed registers a first (misses_by registers a first x are.0
          (λ m. both_ways (touches x a) is (test_from_Meets x a m)))) rest

  inside_permits : (xs : List Extent) → AreExtents registers xs → RegistersAllow registers a ↔ Permits (given_by registers a.mode xs) (as_mode User a)
  inside_permits xs are =
      let words = given_words registers a.mode xs are in
      through (through (allow_all registers a) (given_from 0 xs are.each (omega (arith, are.count))))
      (permits_from_test (given_by registers a.mode xs) (as_mode User a) refl words, test_from_permits (given_by registers a.mode xs) (as_mode User a) words)

-- ---- an access past the space

-- an extent ends in the space of a hart of that width
abbrev IsWithin : Xlen → Extent → Type 0
IsWithin xlen x = x.end ≤ space_end xlen

in_middle : (P : Extent → Type 0) (before : List Extent) (x : Extent) (after : List Extent) → AllByRecursion P (before ++ x ∷ after) → P x
in_middle P [] x after all = all.0
in_middle P (y ∷ before) x after all = in_middle P before x after all.1

has_address : (xlen : Xlen) (xs : List Extent) (a : Access) → AllByRecursion (IsWithin xlen) xs → Permits xs a → a.address < space_end xlen
has_address xlen xs a within p =
    let end : p.extent.end ≤ space_end xlen = in_middle (IsWithin xlen) p.first.before p.extent p.first.after (rw p.first.split at within) in
    let met = p.first.met in
    omega (arith, end, met.1.0, met.2.1)

extents_within : (registers : Registers) (xs : List Extent) → AreExtents registers xs → AllByRecursion (IsWithin registers.xlen) xs
extents_within registers xs are = recursion_from_All (IsWithin registers.xlen) xs (all_inside registers xs are)

entries_within : (registers : Registers) (mode : Mode) (last : Perm) (place : ℕ) (xs : List Extent) → AllByRecursion (IsWithin registers.xlen) xs
    → AllByRecursion (IsWithin registers.xlen) (entries_from registers mode place xs ++ everywhere registers.xlen last ∷ [])
entries_within registers mode last place [] within = (omega arith, tt)
entries_within registers mode last place (x ∷ xs) within = (within.0, entries_within registers mode last (place + 1) xs within.1)

given_within : (registers : Registers) (mode : Mode) (xs : List Extent) → AreExtents registers xs
    → AllByRecursion (IsWithin registers.xlen) (given_by registers mode xs)
given_within registers mode xs are = entries_within registers mode (default_perm registers mode) 0 xs (extents_within registers xs are)

-- what the mode may do at an address that the hart has is what the list permits
pub given_permits : (registers : Registers) (a : Access) → IsAligned a → (xs : List Extent) → AreExtents registers xs
    → ((a.address < space_end registers.xlen) × RegistersAllow registers a) ↔ Permits (given_by registers a.mode xs) (as_mode User a)
given_permits registers a aligned xs are = (
  λ h. (inside_permits registers a aligned h.0 xs are).0 h.1,
  λ p.
      let inside = has_address registers.xlen (given_by registers a.mode xs) (as_mode User a) (given_within registers a.mode xs are) p in
      (inside, (inside_permits registers a aligned inside xs are).1 p),
)

-- ---- a view

list_means : (mode : Mode) (registers : Registers) (view : View) (xs : List Extent) → AreExtents registers xs
    → ExtentsMean (given_by registers mode xs) view → MeanFor mode registers view
list_means mode registers view xs are means = record {
  extents = xs;
  are_extents = are;
  means = λ a is aligned inside. through (subst
      (λ m. ((a.address < space_end registers.xlen) × RegistersAllow registers a) ↔ Permits (given_by registers m xs) (as_mode User a)) is
      (given_permits registers a aligned xs are)) (means (as_mode User a) aligned inside (λ m. cc));
}

-- registers mean a view for a mode where the list of what they give it means the view
pub means_by : (mode : Mode) (registers : Registers) (view : View) (given : List Extent) → AreGiven mode registers given → ExtentsMean given view
    → MeanFor mode registers view
means_by mode registers view given are means =
    list_means mode registers view are.0 are.1 (subst (λ (ys : List Extent). ExtentsMean ys view) are.2 means)

means_list : (mode : Mode) (registers : Registers) (view : View) (xs : List Extent) → AreExtents registers xs → MeanFor mode registers view
    → ExtentsMean (given_by registers mode xs) view
means_list mode registers view xs are m = λ a aligned inside user.
    let moves : Permits (given_by registers mode xs) a ↔ Permits (given_by registers mode xs) (as_mode User (as_mode mode a)) =
    (moved (given_by registers mode xs) a User, unmoved (given_by registers mode xs) a User) in
    through moves (through (back (given_permits registers (as_mode mode a) aligned xs are)) (m.means (as_mode mode a) refl aligned inside))

-- and there alone
pub by_means : (mode : Mode) (registers : Registers) (view : View) (given : List Extent) → AreGiven mode registers given → MeanFor mode registers view
    → ExtentsMean given view
by_means mode registers view given are m =
    subst (λ (ys : List Extent). ExtentsMean ys view) (sym are.2) (means_list mode registers view are.0 are.1 m)

-- ---- supervisor and user mode

-- what extents permit these modes is what they may do at an address that the hart has
user_permits : (mode : Mode) (registers : Registers) (xs : List Extent) → mode ≢ Machine → AreExtents registers xs → (a : Access)
    → Permits xs a ↔ ((a.address < space_end registers.xlen) × RegistersAllow registers (as_mode mode a))
user_permits mode registers xs user are a = (
  λ p. (has_address registers.xlen xs a (extents_within registers xs are) p, (permits registers xs are (as_mode mode a) user).1 (moved xs a mode p)),
  λ h. unmoved xs a mode ((permits registers xs are (as_mode mode a) user).0 h.1),
)

as_before : (mode : Mode) (registers : Registers) (view : View) → mode ≢ Machine → MeanFor mode registers view → RegistersMean registers view
as_before mode registers view user m = record {
  extents = m.extents;
  are_extents = m.are_extents;
  means = λ a aligned inside other. through (user_permits mode registers m.extents user m.are_extents a)
      (m.means (as_mode mode a) refl aligned inside);
}

to_mode : (mode : Mode) (registers : Registers) (view : View) → mode ≢ Machine → RegistersMean registers view → MeanFor mode registers view
to_mode mode registers view user m = record {
  extents = m.extents;
  are_extents = m.are_extents;
  means = λ a is aligned inside.
      let other : a.mode ≢ Machine = λ e. user (sym is ∙ e) in
      through (back (user_permits a.mode registers m.extents other m.are_extents a)) (m.means a aligned inside other);
}

pub same_mean : (mode : Mode) (registers : Registers) (view : View) → mode ≢ Machine → MeanFor mode registers view ↔ RegistersMean registers view
same_mean mode registers view user = (as_before mode registers view user, to_mode mode registers view user)
