-- What registers say is what their extents say, where no lock binds the mode, and what the list says that they hold.
use Rattle.std.proofs.Common.{◌≡◌, ◌≢◌, ℕ, ◌+◌, ◌<◌, ◌/◌, ◌%◌, ◌^◌, ◌↔◌, List, [], ◌∷◌, length, Bool, true, false, cond, nat_le}
use Rattle.std.proofs.Common.{◌==◌, ◌||◌, Result, refl, sym, ap, ◌∙◌}
use Rattle.std.proofs.Common.{arith}
use Rattle.std.proofs.lemmas.Bool.{leb-true, le-leb, eqb-true, false_from_ne_true, and_from, and_parts, both_ways}
use Rattle.pmp_encoding.specs.declared.extent.Extent.{Extent}
use Rattle.pmp_encoding.specs.declared.region.Entry.{Entry}
use Rattle.pmp_encoding.specs.Lists.{MeansList}
use Rattle.pmp_match.specs.declared.access.Access.{Access}
use Rattle.pmp_match.specs.declared.access.Kind.{Kind}
use Rattle.pmp_match.specs.declared.access.Kind.TheVariants.{Fetch, Load, Store}
use Rattle.pmp_match.specs.declared.access.Mode.{Mode}
use Rattle.pmp_match.specs.declared.access.Mode.TheVariants.{Machine, Supervisor, User}
use Rattle.pmp_encoding.specs.declared.perm.Perm.TheVariants.{NoAccess, ReadWriteExecute}
use Rattle.pmp_encoding.specs.Perms.{perm_for}
use Rattle.pmp_match.specs.declared.smepmp.Security.{Security}
use Rattle.pmp_match.specs.Smepmp.{machine_default, machine_perm, security_of}
use Rattle.pmp_match.specs.declared.cause.Cause.{Cause}
use Rattle.pmp_match.specs.Decision.{Allows, is_machine}
use Rattle.pmp_match.specs.Judgement as lists
use Rattle.pmp_match.specs.Kinds.{holds}
use Rattle.pmp_match.specs.Matching.{touches, grants, lets_through}
use Rattle.pmp_match.proofs.Decided.{Allows-from_test, test_from_Allows}
use Rattle.pmp_match.specs.declared.registers.Registers.{Registers}
use Rattle.pmp_match.specs.RegisterDecision.{ContainsAll, Permits}
use Rattle.pmp_match.specs.RegisterMatching.{AreExtents, AreExtentsFrom}
use Rattle.pmp_match.specs.Registers.{cfg_at, pairs_of}
use Rattle.pmp_match.proofs.RegistersDecided.{Meets-from_test, contains_from_ends, ends_from_contains, not_machine, permits_from_test, test_from_Meets}
use Rattle.pmp_match.proofs.RegistersDecided.{test_from_permits}
use Rattle.pmp_match.proofs.Matched.{each_words, extent_words}
use Rattle.pmp_encoding.specs.Widths.{AreReached}
use Rattle.register_audit.specs.Decision.{LetsThrough, RegistersAllow, default_perm, perm_in}
use Rattle.register_audit.specs.Judgement.{RegistersJudge}
use Rattle.register_audit.specs.Judgement as registers_spec
use Rattle.register_audit.proofs.Lists.{none_locked, says_as}
use Rattle.register_audit.proofs.Places.{AllowFrom, allow_all, allow_met, allow_missed, allow_past, misses_by}

pub through : {A B C : Type 0} → A ↔ B → B ↔ C → A ↔ C
through p q = ((λ a. q.0 (p.0 a)), (λ c. p.1 (q.1 c)))

pub back : {A B : Type 0} → A ↔ B → B ↔ A
back p = (p.1, p.0)

-- entries give the mode of the access what extents say of it: machine mode everything
pub record IsPlain (registers : Registers) (a : Access) : Type 0 where
  pub entry : (place : ℕ) (x : Extent) → place < 64 → holds (perm_in registers a.mode place x) a.kind ≡ (is_machine a.mode || holds x.perm a.kind)
  pub none : holds (default_perm registers a.mode) a.kind ≡ is_machine a.mode

module _ (registers : Registers) (a : Access) (plain : IsPlain registers a) where
  granted : (place : ℕ) (x : Extent) → place < 64 → ContainsAll x a × LetsThrough registers a place x → grants x a ≡ true
  granted place x inside h =
      let ends = ends_from_contains x a h.0 in
      and_from _ _ (and_from _ _ (le-leb _ _ ends.0) (le-leb _ _ ends.1)) (sym (plain.entry place x inside) ∙ h.1)

  let_through : (place : ℕ) (x : Extent) → place < 64 → grants x a ≡ true → ContainsAll x a × LetsThrough registers a place x
  let_through place x inside h =
      let both = and_parts _ _ h in
      let ends : (nat_le x.base a.address ≡ true) × (nat_le (a.address + a.size) x.end ≡ true) = and_parts _ _ both.0 in
      (contains_from_ends x a (leb-true _ _ ends.0) (leb-true _ _ ends.1), plain.entry place x inside ∙ both.1)

  default_test : (holds (default_perm registers a.mode) a.kind ≡ true) ↔ (is_machine a.mode ≡ true)
  default_test = ((λ h. sym plain.none ∙ h), (λ h. plain.none ∙ h))

  -- the entries from a place on say what their extents say
  says_from : (first : ℕ) (xs : List Extent) → AreExtentsFrom registers first xs → first + length xs ≡ 64
      → AllowFrom registers a first ↔ (lets_through xs a ≡ true)
  says_from first [] are all = through (allow_past registers a first (omega (arith, all))) default_test
  says_from first (x ∷ xs) are all = go (touches x a) refl (says_from (first + 1) xs are.1 (omega (arith, all)))
    where
      inside : first < 64
      inside = omega (arith, all)

      go : (t : Bool) → touches x a ≡ t → AllowFrom registers a (first + 1) ↔ (lets_through xs a ≡ true)
          → AllowFrom registers a first ↔ (cond t (grants x a) (lets_through xs a) ≡ true)
      go true is rest =
          through (allow_met registers a first x inside are.0 (Meets-from_test x a (extent_words registers first x are.0) is))
          (granted first x inside, let_through first x inside)
      go false is rest = through (allow_missed registers a first (misses_by registers a first x are.0
          (λ m. both_ways (touches x a) is (test_from_Meets x a m)))) rest

  pub says : (xs : List Extent) → AreExtents registers xs → RegistersAllow registers a ↔ (lets_through xs a ≡ true)
  says xs are = through (allow_all registers a) (says_from 0 xs are.each (omega (arith, are.count)))

-- ---- by mode

-- what entries give is what they give the mode
by_mode : (registers : Registers) (a : Access) (mode : Mode) → a.mode ≡ mode
    → ((place : ℕ) (x : Extent) → place < 64 → holds (perm_in registers mode place x) a.kind ≡ (is_machine mode || holds x.perm a.kind))
    → holds (default_perm registers mode) a.kind ≡ is_machine mode → IsPlain registers a
by_mode registers a mode is entry none = record {
  entry = λ place x inside. rw is (entry place x inside);
  none = rw is none;
}

no_access : (kind : Kind) → holds NoAccess kind ≡ false
no_access Fetch = refl
no_access Load = refl
no_access Store = refl

-- ---- supervisor and user mode

user_plain : (registers : Registers) (a : Access) (mode : Mode) → a.mode ≡ mode → mode ≢ Machine → IsPlain registers a
user_plain registers a Machine is user = absurd (user refl)
user_plain registers a Supervisor is user = by_mode registers a Supervisor is (λ place x inside. refl) (no_access a.kind)
user_plain registers a User is user = by_mode registers a User is (λ place x inside. refl) (no_access a.kind)

pub permits : (registers : Registers) (xs : List Extent) → AreExtents registers xs → (a : Access) → a.mode ≢ Machine → RegistersAllow registers a ↔ Permits xs a
permits registers xs are a user =
    let words = each_words registers xs are in
    through (says registers a (user_plain registers a a.mode refl user) xs are)
    (permits_from_test xs a (not_machine a.mode user) words, test_from_permits xs a words)

-- ---- a list

-- machine mode may do everything by entries that are not locked where `mseccfg` is zero
everything : (kind : Kind) → holds ReadWriteExecute kind ≡ true
everything Fetch = refl
everything Load = refl
everything Store = refl

unlocked_perm : (s : Security) (cfg : ℕ) (kind : Kind) → s ≡ security_of 0 → ¬ (cfg / 2 ^ 7 % 2 ≡ 1) → holds (machine_perm s cfg) kind ≡ true
unlocked_perm s cfg kind off free =
    ap (λ t. holds (machine_perm t cfg) kind) off
    ∙ ap (λ t. holds (cond t (perm_for (cfg % 8)) ReadWriteExecute) kind)
    (false_from_ne_true (cfg / 2 ^ 7 % 2 == 1) (λ is. free (eqb-true (cfg / 2 ^ 7 % 2) 1 is)))
    ∙ everything kind

list_plain : (registers : Registers) (entries : List Entry) → MeansList (pairs_of registers) entries → (a : Access) (mode : Mode) → a.mode ≡ mode
    → (mode ≡ Machine → registers.security ≡ security_of 0) → IsPlain registers a
list_plain registers entries list a Machine is off =
    by_mode registers a Machine is
    (λ place x inside. unlocked_perm registers.security (cfg_at registers place) a.kind (off refl)
    (none_locked registers 0 64 entries list place (omega arith) (omega (arith, inside))))
    (ap (λ s. holds (machine_default s) a.kind) (off refl) ∙ everything a.kind)
list_plain registers entries list a Supervisor is off = user_plain registers a Supervisor is (λ m. cc)
list_plain registers entries list a User is off = user_plain registers a User is (λ m. cc)

allows_as : (registers : Registers) (entries : List Entry) → MeansList (pairs_of registers) entries → AreReached registers.xlen entries → (a : Access)
    → (a.mode ≡ Machine → registers.security ≡ security_of 0) → RegistersAllow registers a ↔ Allows entries a
allows_as registers entries list near a off =
    let alike = says_as registers 0 64 entries list near in
    through (says registers a (list_plain registers entries list a a.mode refl off) alike.extents (record { count = alike.number; each = alike.each }))
    ((λ h. Allows-from_test entries a (sym (alike.same a) ∙ h)), (λ h. alike.same a ∙ test_from_Allows entries a h))

by_list : (registers : Registers) (entries : List Entry) (a : Access) → RegistersAllow registers a ↔ Allows entries a → (answer : Result (Unit {0}) Cause)
    → RegistersJudge registers a answer → lists.Judges entries a answer
by_list registers entries a same _ (registers_spec.RegistersJudge.off_its_size off) = lists.Judges.off_its_size off
by_list registers entries a same _ (registers_spec.RegistersJudge.outside on out) = lists.Judges.outside on out
by_list registers entries a same _ (registers_spec.RegistersJudge.denied on inside no') = lists.Judges.denied on inside (λ h. no' (same.1 h))
by_list registers entries a same _ (registers_spec.RegistersJudge.allowed on inside may) = lists.Judges.allowed on inside (same.0 may)

by_registers : (registers : Registers) (entries : List Entry) (a : Access) → RegistersAllow registers a ↔ Allows entries a → (answer : Result (Unit {0}) Cause)
    → lists.Judges entries a answer → RegistersJudge registers a answer
by_registers registers entries a same _ (lists.Judges.off_its_size off) = registers_spec.RegistersJudge.off_its_size off
by_registers registers entries a same _ (lists.Judges.outside on out) = registers_spec.RegistersJudge.outside on out
by_registers registers entries a same _ (lists.Judges.denied on inside no') = registers_spec.RegistersJudge.denied on inside (λ h. no' (same.0 h))
by_registers registers entries a same _ (lists.Judges.allowed on inside may) = registers_spec.RegistersJudge.allowed on inside (same.1 may)

pub judged_as : (registers : Registers) (entries : List Entry) → MeansList (pairs_of registers) entries → AreReached registers.xlen entries
    → (a : Access) → (a.mode ≡ Machine → registers.security ≡ security_of 0) → (answer : Result (Unit {0}) Cause)
    → RegistersJudge registers a answer ↔ lists.Judges entries a answer
judged_as registers entries list near a off answer =
    let same = allows_as registers entries list near a off in
    (by_list registers entries a same answer, by_registers registers entries a same answer)
