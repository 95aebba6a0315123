-- A list of NA4 and NAPOT entries says what its extents say, and registers that mean such a list what theirs say.
use Rattle.std.proofs.Common.{◌≡◌, ◌≢◌, ℕ, ◌+◌, ◌^◌, ◌≤◌, ◌↔◌, suc, zero, List, [], ◌∷◌, length, map, Bool, true, false, cond, ◌&&◌}
use Rattle.std.proofs.Common.{nat_lt, refl, sym, ap, ap₂, subst, ◌∙◌, arith}
use Rattle.std.specs.List.{AllByRecursion}
use Rattle.std.proofs.lemmas.Bool.{le-ltb}
use Rattle.pmp_encoding.specs.declared.extent.Extent.{Extent}
use Rattle.pmp_encoding.specs.declared.region.Entry.{Entry}
use Rattle.pmp_encoding.specs.Encoding.{IsOff, MeansEntry}
use Rattle.pmp_encoding.specs.Extents.{extent_of}
use Rattle.pmp_encoding.specs.Lists.{MeansList, done, skip, keep}
use Rattle.pmp_encoding.proofs.Faulty.{entry_faultless, off_faultless}
use Rattle.pmp_encoding.specs.Views.{View}
use Rattle.pmp_match.specs.declared.access.Access.{Access}
use Rattle.pmp_match.specs.declared.access.Mode.TheVariants.{Machine}
use Rattle.pmp_match.specs.Decision.{Allows, allows}
use Rattle.pmp_match.specs.Matching.{touches, grants, lets_through}
use Rattle.pmp_match.specs.Meaning.{Means}
use Rattle.pmp_match.proofs.Decided.{Allows-from_test, test_from_Allows}
use Rattle.pmp_match.proofs.Scanned.{entries_say}
use Rattle.pmp_encoding.specs.Widths.{space_end, AreReached}
use Rattle.pmp_match.specs.declared.registers.Registers.{Registers}
use Rattle.pmp_match.specs.RegisterDecision.{ExtentsMean, IsWords, Permits}
use Rattle.pmp_match.specs.RegisterMatching.{AreExtents, AreExtentsFrom, IsExtentAt, off, block, kept, nowhere}
use Rattle.pmp_match.specs.Registers.{address_at, cfg_at, pairs_from, pairs_of, user_cfg_at}
use Rattle.pmp_match.proofs.RegistersDecided.{not_machine, permits_from_test, test_from_permits}
use Rattle.pmp_match.proofs.Spaces.{kept_small, pair_high, reached_end, reached_rest, whole_kept, whole_within}
use Rattle.pmp_match.proofs.UserBytes.{whole_cfg}
use Rattle.pmp_match.proofs.Matched.{each_words, entry_words, one_extent}

-- ---- a list of entries

pub entries_words : (entries : List Entry) → AllByRecursion IsWords (map extent_of entries)
entries_words [] = tt
entries_words (e ∷ entries) = (entry_words e, entries_words entries)

pub same_decision : (xs : List Extent) (entries : List Entry) (a : Access) → AllByRecursion IsWords xs → lets_through xs a ≡ allows entries a → a.mode ≢ Machine
    → Permits xs a ↔ Allows entries a
same_decision xs entries a words same user = (
  (λ p. Allows-from_test entries a (sym same ∙ test_from_permits xs a words p)),
  (λ q. permits_from_test xs a (not_machine a.mode user) words (same ∙ test_from_Allows entries a q)),
)

pub same_meaning : (xs : List Extent) (entries : List Entry) → ((a : Access) → a.mode ≢ Machine → Permits xs a ↔ Allows entries a) → (view : View)
    → ExtentsMean xs view ↔ Means entries view
same_meaning xs entries same view = (
  (λ means a aligned inside user. ((λ q. (means a aligned inside user).0 ((same a user).1 q)), (λ may. (same a user).0 ((means a aligned inside user).1 may)))),
  (λ means a aligned inside user. ((λ p. (means a aligned inside user).0 ((same a user).0 p)), (λ may. (same a user).1 ((means a aligned inside user).1 may)))),
)

pub entries_decision : (entries : List Entry) (a : Access) → a.mode ≢ Machine → Permits (map extent_of entries) a ↔ Allows entries a
entries_decision entries a user = same_decision (map extent_of entries) entries a (entries_words entries) (entries_say entries a) user

pub entries_meaning : (entries : List Entry) (view : View) → ExtentsMean (map extent_of entries) view ↔ Means entries view
entries_meaning entries view = same_meaning (map extent_of entries) entries (entries_decision entries) view

-- ---- registers

-- ---- what an entry matches that is OFF, and one whose block the hart's address registers reach

pub off_extent : (registers : Registers) (place : ℕ) → IsOff (cfg_at registers place) (address_at registers place) → IsExtentAt registers place nowhere
off_extent registers place o =
    off (record {
      perm = o.perm;
      bits = whole_cfg registers.security _ _ (off_faultless _ _ o) ∙ o.bits;
      small = kept_small registers.xlen
          (address_at registers place);
    })

pub entry_extent : (registers : Registers) (place : ℕ) (e : Entry) → MeansEntry (cfg_at registers place) (address_at registers place) e
    → e.region.base + 2 ^ e.region.log2 ≤ space_end registers.xlen → IsExtentAt registers place (extent_of e)
entry_extent registers place e m near =
    let whole = whole_kept registers.xlen (address_at registers place) (omega (arith, pair_high _ _ e m, near)) in
    let pair : MeansEntry (user_cfg_at registers place) (kept registers.xlen (address_at registers place)) e = rw
    (whole_cfg registers.security _ _ (entry_faultless _ _ e m), whole) m in
    subst (λ x. IsExtentAt registers place x) (whole_within registers.xlen (extent_of e) near) (block e pair)

off_at : (registers : Registers) (place : ℕ) (x : Extent) → IsOff (cfg_at registers place) (address_at registers place) → IsExtentAt registers place x
    → x ≡ nowhere
off_at registers place x o is = one_extent registers place x nowhere is (off_extent registers place o)

entry_at : (registers : Registers) (place : ℕ) (x : Extent) (e : Entry) → MeansEntry (cfg_at registers place) (address_at registers place) e
    → e.region.base + 2 ^ e.region.log2 ≤ space_end registers.xlen → IsExtentAt registers place x → x ≡ extent_of e
entry_at registers place x e m near is = one_extent registers place x (extent_of e) is (entry_extent registers place e m near)

pub off_untouched : (a : Access) → touches nowhere a ≡ false
off_untouched a = ap (λ t. nat_lt 0 (a.address + a.size) && t) (le-ltb a.address 0 (omega arith)) ∙ and_false (nat_lt 0 (a.address + a.size))
  where
    and_false : (t : Bool) → (t && false) ≡ false
    and_false true = refl
    and_false false = refl

says_from : (registers : Registers) (place count : ℕ) (xs : List Extent) (entries : List Entry) (a : Access) → length xs ≡ count
    → AreExtentsFrom registers place xs → MeansList (pairs_from registers place count) entries → AreReached registers.xlen entries
    → lets_through xs a ≡ allows entries a
says_from registers place zero [] _ a same are done near = refl
says_from registers place zero (x ∷ xs) entries a same are list near = absurd (omega (arith, same))
says_from registers place (suc count) [] entries a same are list near = absurd (omega (arith, same))
says_from registers place (suc count) (x ∷ xs) entries a same are (skip o list) near =
    ap (λ y. cond (touches y a) (grants y a) (lets_through xs a)) (off_at registers place x o are.0)
    ∙ ap (λ t. cond t (grants nowhere a) (lets_through xs a)) (off_untouched a)
    ∙ says_from registers (place + 1) count xs entries a (omega (arith, same)) are.1 list near
says_from registers place (suc count) (x ∷ xs) _ a same are (keep {e = e} {entries = entries} m list) near =
    ap₂ (λ y rest. cond (touches y a) (grants y a) rest) (entry_at registers place x e m (reached_end registers.xlen e entries near) are.0)
    (says_from registers (place + 1) count xs entries a (omega (arith, same)) are.1 list (reached_rest registers.xlen e entries near))

pub registers_decision : (registers : Registers) (xs : List Extent) (entries : List Entry) → AreExtents registers xs → MeansList (pairs_of registers) entries
    → AreReached registers.xlen entries → (a : Access) → a.mode ≢ Machine → Permits xs a ↔ Allows entries a
registers_decision registers xs entries are list near a user = same_decision xs entries a (each_words registers xs are)
    (says_from registers 0 64 xs entries a are.count are.each list near) user

pub registers_meaning : (registers : Registers) (xs : List Extent) (entries : List Entry) → AreExtents registers xs → MeansList (pairs_of registers) entries
    → AreReached registers.xlen entries → (view : View) → ExtentsMean xs view ↔ Means entries view
registers_meaning registers xs entries are list near view = same_meaning xs entries (registers_decision registers xs entries are list near) view
