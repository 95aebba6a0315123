-- A part that is read passes all its checks; the first check that fails gives the breach.
use Rattle.std.proofs.Common.{◌≡◌, ◌⊎◌, ◌∙◌, ℕ, ◌+◌, ◌<◌, ◌≤◌, List, [], ◌∷◌, ◌++◌, Bool, true, false, ◌&&◌, Option, Some, None, option_map, All, Ordering, Less, Equal, Greater}
use Rattle.std.proofs.Common.{ap, append_assoc, refl, sym, inl, inr, nat_cmp, if◌then◌else◌, length, get_or, drop, subst}
use Rattle.std.specs.Prelude.{codes, ⊤}
use Rattle.std.specs.Option.{option_and_then}
use Rattle.std.specs.Ordering.{match_ordering}
use Rattle.std.specs.Cmp.Lexicographic.{slice_cmp}
use Rattle.std.proofs.lemmas.Map.Lookups.{exact_bytes}
use Rattle.std.proofs.lemmas.List.Elements.{All-head, All-tail}
use Rattle.std.proofs.lemmas.Option.{same_Some}
use Rattle.toml.specs.Data.{Data, Items, no_items, item, Members, no_members, member, as_array, as_table, get_member}
use Rattle.toml.specs.View.{items_view, view}
use Rattle.toml.specs.declared.value.Value.{Value}
use Rattle.toml.proofs.Views.{items_view-drop}
use Rattle.pmp_encoding.specs.declared.perm.Perm.{Perm}
use Rattle.pmp_encoding.specs.declared.limit.Limit.{Limit}
use Rattle.pmp_encoding.specs.declared.limit.Limit.TheVariants.{Sixteen, SixtyFour}
use Rattle.pmp_encoding.specs.Limits.{limit_number}
use Rattle.platforms.specs.CheckLists.{AllPass}
use Rattle.platforms.specs.Platform.{PlatformLayout, platform_rules}
use Rattle.platforms.specs.declared.platform.PlatformFault.{PlatformFault}
use Rattle.platforms.specs.Ranges.{IsRange, device_range}
use Rattle.input_files.specs.Document.{HasForm, IsPlatformDocument, all_of, device_in, device_of, devices_told, each, has_only, is_known, known, number, number_at, number_told, perm_at, perm_of, range_in, range_of}
use Rattle.input_files.specs.declared.breach.Key.{Key}
use Rattle.input_files.specs.declared.breach.Key.TheVariants as keys
use Rattle.input_files.specs.declared.breach.TomlPath.{TomlPath}
use Rattle.input_files.specs.declared.breach.TomlPath.TheVariants.{File, Monitor, Ram, Device}
use Rattle.input_files.specs.declared.breach.Breach.{Breach}
use Rattle.input_files.specs.declared.breach.Breach.TheVariants.{Unknown, Missing, NoNumber, NoPages, NoPerm, NoTable, NoTables, Overlap, Rule}
use Rattle.input_files.specs.declared.fault.DocumentFault.{DocumentFault}
use Rattle.input_files.specs.declared.fault.DocumentFault.TheVariants as faults
use Rattle.input_files.specs.Breaches.{key_name, IsFirst, IsFaultOf, BreaksRule, HasBrokenRule, HasUnknown, HasNoNumber, HasNoPerm, Lacks, bounds_checks, range_checks, device_checks, table_checks, item_checks, array_checks, monitor_checks, ram_checks, device_list_checks, form_checks, document_checks}

-- these checks find nothing
abbrev pub Clear : List (Breach → Type 0) → Type 0
Clear [] = ⊤
Clear (finds ∷ checks) = ((other : Breach) → finds other → ⊥) × Clear checks

pub clear_both : (xs ys : List (Breach → Type 0)) → Clear xs → Clear ys → Clear (xs ++ ys)
clear_both [] ys one other = other
clear_both (x ∷ xs) ys one other = (one.0, clear_both xs ys one.1 other)

pub none_first : (xs : List (Breach → Type 0)) (b : Breach) → Clear xs → IsFirst xs b → ⊥
none_first [] b clear first = first
none_first (x ∷ xs) b clear (inl found) = clear.0 b found
none_first (x ∷ xs) b clear (inr later) = none_first xs b clear.1 later.1

-- the first breach stays first when more checks follow, or when checks that find nothing come before
pub first_before : (xs ys : List (Breach → Type 0)) (b : Breach) → IsFirst xs b → IsFirst (xs ++ ys) b
first_before [] ys b first = absurd first
first_before (x ∷ xs) ys b (inl found) = inl found
first_before (x ∷ xs) ys b (inr later) = inr (later.0, first_before xs ys b later.1)

pub first_behind : (xs ys : List (Breach → Type 0)) (b : Breach) → Clear xs → IsFirst ys b → IsFirst (xs ++ ys) b
first_behind [] ys b clear first = first
first_behind (x ∷ xs) ys b clear first = inr (clear.0, first_behind xs ys b clear.1 first)

both_true : (a b : Bool) → (a && b) ≡ true → (a ≡ true) × (b ≡ true)
both_true true true h = (refl, refl)
both_true true false h = absurd (let g : false ≡ true = h in cc)
both_true false b h = absurd (let g : false ≡ true = h in cc)

skipped :
    (o : Ordering) (key l : List ℕ) (names : List (List ℕ)) (d : Data) (found : Option Data) → slice_cmp nat_cmp key l ≡ o → is_known l names ≡ true
    → is_known key names ≡ false → found ≡ None
    → match_ordering o found (Some d) found ≡ None
skipped Less key l names d found is one other none = none
skipped Greater key l names d found is one other none = none
skipped Equal key l names d found is one other none = absurd (let same : is_known key names ≡ is_known l names = ap (λ k. is_known k names)
    (exact_bytes key l is) in cc)

only_known : (key : List ℕ) (names : List (List ℕ)) (ms : Members) → has_only names ms ≡ true → is_known key names ≡ false → get_member key ms ≡ None
only_known key names no_members only other = refl
only_known key names (member l d ms) only other =
    let two = both_true (is_known l names) (has_only names ms) only in
    skipped (slice_cmp nat_cmp key l) key l names d (get_member key ms) refl two.0 other (only_known key names ms two.1 other)

pub none_unknown : (names : List (List ℕ)) (place : TomlPath) (fields : Members) → has_only names fields ≡ true
    → (b : Breach) → HasUnknown names place fields b → ⊥
none_unknown names place fields only (Unknown spot key) found = found.1 (only_known key.now names fields only found.2)
none_unknown names place fields only (Missing spot key) found = found
none_unknown names place fields only (NoNumber spot key) found = found
none_unknown names place fields only (NoPages spot) found = found
none_unknown names place fields only (NoPerm spot) found = found
none_unknown names place fields only (NoTable spot) found = found
none_unknown names place fields only (NoTables key) found = found
none_unknown names place fields only (Overlap one other) found = found
none_unknown names place fields only (Rule fault) found = found

some_there : {X : Type 0} (f : Data → Option X) (found : Option Data) (x : X) → option_and_then f found ≡ Some x → found ≡ None → ⊥
some_there f found x is none = let h : None ≡ Some x = ap (option_and_then f) (sym none) ∙ is in cc

some_good : {X : Type 0} (f : Data → Option X) (found : Option Data) (x : X) (value : Data) → option_and_then f found ≡ Some x → found ≡ Some value
    → f value ≡ None → ⊥
some_good f found x value is here none = let h : None ≡ Some x = sym none ∙ ap (option_and_then f) (sym here) ∙ is in cc

pub clear_lacks : (place : TomlPath) (key : Key) (fields : Members) (n : ℕ) → number_at (key_name key) fields ≡ Some n
    → (b : Breach) → Lacks place key fields b → ⊥
clear_lacks place key fields n is b found = some_there number (get_member (key_name key) fields) n is found.0

pub clear_number : (place : TomlPath) (key : Key) (fields : Members) (n : ℕ) → number_at (key_name key) fields ≡ Some n
    → (b : Breach) → HasNoNumber place key fields b → ⊥
clear_number place key fields n is b found = some_good number (get_member (key_name key) fields) n found.0 is found.1 found.2

-- a base and a size, each with what the table has of it
two_there : (a b : Option ℕ) (r : ℕ × ℕ) → option_and_then (λ base. option_map (λ size. (base, size)) b) a ≡ Some r
    → (a ≡ Some r.0) × (b ≡ Some r.1)
two_there (Some base) (Some size) r is = let same : (base, size) ≡ r = same_Some _ _ is in (ap (λ x. Some x.0) same, ap (λ x. Some x.1) same)
two_there (Some base) None r is = absurd (let h : None ≡ Some r = is in cc)
two_there None b r is = absurd (let h : None ≡ Some r = is in cc)

pub clear_bounds : (place : TomlPath) (fields : Members) (r : ℕ × ℕ) → range_in fields ≡ Some r → IsRange r → Clear (bounds_checks place fields)
clear_bounds place fields r is whole =
    let two = two_there (number_at (codes "base") fields) (number_at (codes "size") fields) r is in (
      clear_lacks place keys.Base fields r.0 two.0,
      (
        clear_number place keys.Base fields r.0 two.0,
        (
          clear_lacks place keys.Size fields r.1 two.1,
          (clear_number place keys.Size fields r.1 two.1, ((λ b found. found.2 (subst IsRange (same_Some _ _ (sym is ∙ found.1)) whole)), tt)),
        ),
      ),
    )

kept_if : {X : Type 0} (only : Bool) (a : Option X) (x : X) → (if only then a else None) ≡ Some x → (only ≡ true) × (a ≡ Some x)
kept_if true a x is = (refl, is)
kept_if false a x is = absurd (let h : None ≡ Some x = is in cc)

pub clear_range : (place : TomlPath) (fields : Members) (r : ℕ × ℕ) → range_of fields ≡ Some r → IsRange r → Clear (range_checks place fields)
clear_range place fields r is whole =
    let kept = kept_if (has_only (codes "base" ∷ codes "size" ∷ []) fields) (range_in fields) r is in
    (none_unknown (codes "base" ∷ codes "size" ∷ []) place fields kept.0, clear_bounds place fields r kept.1 whole)

device_there : (a : Option (ℕ × ℕ)) (b : Option Perm) (d : ℕ × ℕ × Perm) → option_and_then (λ range. option_map (λ perm. (range.0, range.1, perm)) b) a ≡ Some d
    → (a ≡ Some (device_range d)) × (b ≡ Some d.2)
device_there (Some range) (Some perm) d is = let same : (range.0, range.1, perm) ≡ d = same_Some _ _ is in
    (ap (λ x. Some (device_range x)) same, ap (λ x. Some x.2) same)
device_there (Some range) None d is = absurd (let h : None ≡ Some d = is in cc)
device_there None b d is = absurd (let h : None ≡ Some d = is in cc)

pub clear_device : (place : TomlPath) (fields : Members) (d : ℕ × ℕ × Perm) → device_of fields ≡ Some d → IsRange (device_range d)
    → Clear (device_checks place fields)
clear_device place fields d is whole =
    let kept = kept_if (has_only (codes "base" ∷ codes "size" ∷ codes "perm" ∷ []) fields) (device_in fields) d is in
    let two = device_there (range_in fields) (perm_at fields) d kept.1 in
    let bounds = clear_bounds place fields (device_range d) two.0 whole in
    let perm : Clear (Lacks place keys.Perm fields ∷ HasNoPerm place fields ∷ []) = (
      (λ b found. some_there perm_of (get_member (codes "perm") fields) d.2 two.1 found.0),
      ((λ b found. some_good perm_of (get_member (codes "perm") fields) d.2 found.0 two.1 found.1 found.2), tt),
    ) in (
      none_unknown (codes "base" ∷ codes "size" ∷ codes "perm" ∷ []) place fields kept.0,
      clear_both (bounds_checks place fields) (Lacks place keys.Perm fields ∷ HasNoPerm place fields ∷ []) bounds perm,
    )

-- a table that is read is clear
abbrev pub ReadClear : {X : Type 0} → (Members → Option X) → (X → Type 0) → (TomlPath → Members → List (Breach → Type 0)) → Type 0
ReadClear {X} f P checks = (place : TomlPath) (fields : Members) (x : X) → f fields ≡ Some x → P x → Clear (checks place fields)

pub clear_table :
    {X : Type 0} (f : Members → Option X) (P : X → Type 0) (checks : TomlPath → Members → List (Breach → Type 0)) → ReadClear f P checks
    → (place : TomlPath) (found : Option Members) (x : X) → option_and_then f found ≡ Some x → P x → Clear (table_checks checks place found)
clear_table f P checks read place None x is whole = absurd (let h : None ≡ Some x = is in cc)
clear_table f P checks read place (Some fields) x is whole = read place fields x is whole

more_there : {X : Type 0} (a : Option X) (b : Option (List X)) (xs : List X) → option_and_then (λ x. option_map (λ ys. x ∷ ys) b) a ≡ Some xs
    → (x : X) × (ys : List X) × (a ≡ Some x) × (b ≡ Some ys) × (x ∷ ys ≡ xs)
more_there (Some x) (Some ys) xs is = (x, ys, refl, refl, same_Some _ _ is)
more_there (Some x) None xs is = absurd (let h : None ≡ Some xs = is in cc)
more_there None b xs is = absurd (let h : None ≡ Some xs = is in cc)

all_more : {X : Type 0} (P : X → Type 0) (x : X) (xs : List X) → All P (x ∷ xs) → P x × All P xs
all_more P x xs all = (All-head P x xs all, All-tail P x xs all)

pub clear_items :
    {X : Type 0} (f : Members → Option X) (P : X → Type 0) (checks : TomlPath → Members → List (Breach → Type 0)) → ReadClear f P checks
    → (place : ℕ → TomlPath) (n : ℕ) (items : Items) (xs : List X) → each f items ≡ Some xs → All P xs → Clear (item_checks checks place n items)
clear_items f P checks read place n no_items xs is all = tt
clear_items f P checks read place n (item value items) xs is all =
    let more = more_there (option_and_then f (as_table value)) (each f items) xs is in
    let both = all_more P more.0 more.1 (subst (All P) (sym more.4) all) in
    clear_both (table_checks checks (place n) (as_table value)) (item_checks checks place (n + 1) items)
    (clear_table f P checks read (place n) (as_table value) more.0 more.2 both.0)
    (clear_items f P checks read place (n + 1) items more.1 more.3 both.1)

pub clear_array :
    {X : Type 0} (f : Members → Option X) (P : X → Type 0) (checks : TomlPath → Members → List (Breach → Type 0)) → ReadClear f P checks
    → (place : ℕ → TomlPath) (key : Key) (found : Option Items) (xs : List X) → option_and_then (each f) found ≡ Some xs → All P xs
    → Clear (array_checks checks place key found)
clear_array f P checks read place key None xs is all = absurd (let h : None ≡ Some xs = is in cc)
clear_array f P checks read place key (Some items) xs is all = clear_items f P checks read place 1 items xs is all

pub clear_monitor : (found : Option Data) (r : ℕ × ℕ) → option_and_then range_of (option_and_then as_table found) ≡ Some r → IsRange r
    → Clear (monitor_checks found)
clear_monitor None r is whole = absurd (let h : None ≡ Some r = is in cc)
clear_monitor (Some value) r is whole = clear_table range_of IsRange range_checks clear_range Monitor (as_table value) r is whole

pub clear_ram : (found : Option Data) (rs : List (ℕ × ℕ)) → option_and_then (all_of range_of) found ≡ Some rs → All IsRange rs → Clear (ram_checks found)
clear_ram None rs is whole = absurd (let h : None ≡ Some rs = is in cc)
clear_ram (Some value) rs is whole = clear_array range_of IsRange range_checks clear_range Ram keys.Ram (as_array value) rs is whole

pub clear_devices : (found : Option Data) (ds : List (ℕ × ℕ × Perm)) → devices_told found ≡ Some ds → All (λ device. IsRange (device_range device)) ds
    → Clear (device_list_checks found)
clear_devices None ds is whole = tt
clear_devices (Some value) ds is whole = clear_array device_of (λ device. IsRange (device_range device)) device_checks clear_device Device keys.Device
    (as_array value) ds is whole

pub clear_count : (usual : ℕ) (key : Key) (document : Members) (n : ℕ) → number_told usual (get_member (key_name key) document) ≡ Some n
    → (b : Breach) → HasNoNumber File key document b → ⊥
clear_count usual key document n is b found =
    let h : None ≡ Some n = sym found.2 ∙ ap (number_told usual) (sym found.1) ∙ is in cc

-- a document of that form, whose ranges are of whole pages, is clear of what its form may break
pub clear_form :
    (document : Members) (monitor : ℕ × ℕ) (ram : List (ℕ × ℕ)) (devices : List (ℕ × ℕ × Perm)) (harts entries : ℕ)
    → HasForm document monitor ram devices harts entries → IsRange monitor → All IsRange ram → All (λ device. IsRange (device_range device)) devices
    → Clear (form_checks document)
clear_form document monitor ram devices harts entries form one more all =
    let monitors = monitor_checks (get_member (codes "monitor") document) in
    let rams = ram_checks (get_member (codes "ram") document) in
    let lists = device_list_checks (get_member (codes "device") document) in
    let counts = HasNoNumber File keys.Harts document ∷ HasNoNumber File keys.Entries document ∷ [] in
    let counted : Clear counts = (
      clear_count 1 keys.Harts document harts form.harts_are,
      (clear_count 16 keys.Entries document entries form.entries_are, tt),
    ) in (
      none_unknown known File document form.keys,
      clear_both monitors (rams ++ (lists ++ counts)) (clear_monitor _ monitor form.monitor_is one)
          (clear_both rams (lists ++ counts) (clear_ram _ ram form.ram_is more)
          (clear_both lists counts (clear_devices _ devices form.devices_are all) counted)),
    )

-- a document that is a platform is clear of all that a document may break
rules_hold :
    (monitor : ℕ × ℕ) (ram : List (ℕ × ℕ)) (devices : List (ℕ × ℕ × Perm)) (harts entries : ℕ) (fault : PlatformFault)
    → AllPass (platform_rules monitor ram devices) → (0 < harts) × (harts ≤ 4) → (entries ≡ 16) ⊎ (entries ≡ 64)
    → BreaksRule monitor ram devices harts entries fault → ⊥
rules_hold monitor ram devices harts entries fault pass few are (inl first) = first.1 pass.0
rules_hold monitor ram devices harts entries fault pass few are (inr (one, inl second)) = second.1 pass.1.0
rules_hold monitor ram devices harts entries fault pass few are (inr (one, inr (two, inl third))) = third.1 pass.1.1.0
rules_hold monitor ram devices harts entries fault pass few are (inr (one, inr (two, inr (three, inl fourth)))) = fourth.1 pass.1.1.1.0
rules_hold monitor ram devices harts entries fault pass few are (inr (one, inr (two, inr (three, inr (four, inl fifth))))) = fifth.1 few
rules_hold monitor ram devices harts entries fault pass few are (inr (one, inr (two, inr (three, inr (four, inr (five, inl sixth)))))) = sixth.1 are
rules_hold monitor ram devices harts entries fault pass few are (inr (one, inr (two, inr (three, inr (four, inr (five, inr (six, none))))))) = none

limits_are : (limit : Limit) (n : ℕ) → limit_number limit ≡ n → (n ≡ 16) ⊎ (n ≡ 64)
limits_are Sixteen n is = inl (sym is)
limits_are SixtyFour n is = inr (sym is)

same_form :
    (document : Members) (m m' : ℕ × ℕ) (r r' : List (ℕ × ℕ)) (d d' : List (ℕ × ℕ × Perm)) (h h' e e' : ℕ) → HasForm document m r d h e
    → HasForm document m' r' d' h' e'
    → (m ≡ m') × (r ≡ r') × (d ≡ d') × (h ≡ h') × (e ≡ e')
same_form document m m' r r' d d' h h' e e' one other = (
  same_Some _ _ (sym one.monitor_is ∙ other.monitor_is),
  same_Some _ _ (sym one.ram_is ∙ other.ram_is),
  same_Some _ _ (sym one.devices_are ∙ other.devices_are),
  same_Some _ _ (sym one.harts_are ∙ other.harts_are),
  same_Some _ _ (sym one.entries_are ∙ other.entries_are),
)

no_broken_rule : (document : Members) (platform : PlatformLayout) → IsPlatformDocument document platform → (b : Breach) → HasBrokenRule document b → ⊥
no_broken_rule document platform is b broken =
    let same = same_form document is.monitor broken.0 is.ram broken.1 is.devices broken.2 is.harts broken.3 is.entries broken.4 is.form broken.6 in
    let held = rw (sym same.0, sym same.1, sym same.2, sym same.3, sym same.4) at broken.7 in
    rules_hold is.monitor is.ram is.devices is.harts is.entries broken.5 is.built.rules (is.built.some_hart, is.built.four_harts)
    (limits_are platform.limit is.entries is.built.entries_are) held

pub clear_document : (document : Members) (platform : PlatformLayout) → IsPlatformDocument document platform → Clear (document_checks document)
clear_document document platform is =
    let whole = is.built.rules.0 in
    clear_both (form_checks document) (HasBrokenRule document ∷ [])
    (clear_form document is.monitor is.ram is.devices is.harts is.entries is.form whole.0 whole.1 whole.2)
    (no_broken_rule document platform is, tt)

-- the first breach of a table is the first of its place
pub no_table : (checks : TomlPath → Members → List (Breach → Type 0)) (place : TomlPath) (found : Option Members) → found ≡ None
    → IsFirst (table_checks checks place found) (NoTable place)
no_table checks place found is = subst (λ f. IsFirst (table_checks checks place f) (NoTable place)) (sym is) (inl refl)

pub in_table : (checks : TomlPath → Members → List (Breach → Type 0)) (place : TomlPath) (found : Option Members) (fields : Members) (b : Breach)
    → found ≡ Some fields → IsFirst (checks place fields) b → IsFirst (table_checks checks place found) b
in_table checks place found fields b is first = subst (λ f. IsFirst (table_checks checks place f) b) (sym is) first

pub range_there : (fields : Members) (base size : ℕ) → number_at (codes "base") fields ≡ Some base → number_at (codes "size") fields ≡ Some size
    → range_in fields ≡ Some (base, size)
range_there fields base size a b =
    ap (λ x. option_and_then (λ n. option_map (λ m. (n, m)) (number_at (codes "size") fields)) x) a ∙ ap (λ y. option_map (λ m. (base, m)) y) b

pub range_told : (fields : Members) (r : ℕ × ℕ) → has_only (codes "base" ∷ codes "size" ∷ []) fields ≡ true → range_in fields ≡ Some r
    → range_of fields ≡ Some r
range_told fields r only is = ap (λ b. if b then range_in fields else None) only ∙ is

pub device_told : (fields : Members) (r : ℕ × ℕ) (perm : Perm) → has_only (codes "base" ∷ codes "size" ∷ codes "perm" ∷ []) fields ≡ true
    → range_in fields ≡ Some r → perm_at fields ≡ Some perm
    → device_of fields ≡ Some (r.0, r.1, perm)
device_told fields r perm only is_range is_perm =
    ap (λ b. if b then device_in fields else None) only
    ∙ ap (λ x. option_and_then (λ found. option_map (λ p. (found.0, found.1, p)) (perm_at fields)) x) is_range
    ∙ ap (λ x. option_map (λ p. (r.0, r.1, p)) x) is_perm

-- the first breach from an item on stays the first if the checks of the items before it find nothing
pub item_here :
    (checks : TomlPath → Members → List (Breach → Type 0)) (place : ℕ → TomlPath) (n i : ℕ) (vs : List Value) (d : Value) (b : Breach) → i < length vs
    → IsFirst (table_checks checks (place n) (as_table (view (get_or vs i d)))) b
    → IsFirst (item_checks checks place n (items_view (drop i vs))) b
item_here checks place n i vs d b low first =
    subst (λ items. IsFirst (item_checks checks place n items) b) (sym (items_view-drop vs i d low))
    (first_before (table_checks checks (place n) (as_table (view (get_or vs i d)))) (item_checks checks place (n + 1) (items_view (drop (i + 1) vs))) b first)

pub item_later :
    (checks : TomlPath → Members → List (Breach → Type 0)) (place : ℕ → TomlPath) (n i : ℕ) (vs : List Value) (d : Value) (b : Breach) → i < length vs
    → Clear (table_checks checks (place n) (as_table (view (get_or vs i d))))
    → IsFirst (item_checks checks place (n + 1) (items_view (drop (i + 1) vs))) b
    → IsFirst (item_checks checks place n (items_view (drop i vs))) b
item_later checks place n i vs d b low clear first =
    subst (λ items. IsFirst (item_checks checks place n items) b) (sym (items_view-drop vs i d low))
    (first_behind (table_checks checks (place n) (as_table (view (get_or vs i d)))) (item_checks checks place (n + 1) (items_view (drop (i + 1) vs))) b
    clear first)

pub perm_first :
    (place : TomlPath) (fields : Members) (b : Breach) → Lacks place keys.Perm fields b ⊎ HasNoPerm place fields b
    → IsFirst (Lacks place keys.Perm fields ∷ HasNoPerm place fields ∷ []) b
perm_first place fields b (inl lacks) = inl lacks
perm_first place fields b (inr found) = inr ((λ other lacks. let h : None ≡ Some found.0 = sym lacks.0 ∙ found.1 in cc), inl found)

-- one more item of an array is read
joined : {X : Type 0} (done : List X) (x : X) (more : Option (List X))
    → option_map (λ rest. done ++ rest) (option_map (λ ys. x ∷ ys) more) ≡ option_map (λ rest. (done ++ x ∷ []) ++ rest) more
joined done x None = refl
joined done x (Some ys) = ap Some (sym (append_assoc done (x ∷ []) ys))

pub each_more :
    {X : Type 0} (f : Members → Option X) (vs : List Value) (i : ℕ) (d : Value) (x : X) (done : List X) → i < length vs
    → option_and_then f (as_table (view (get_or vs i d))) ≡ Some x
    → each f (items_view vs) ≡ option_map (λ rest. done ++ rest) (each f (items_view (drop i vs)))
    → each f (items_view vs) ≡ option_map (λ rest. (done ++ x ∷ []) ++ rest) (each f (items_view (drop (i + 1) vs)))
each_more f vs i d x done low one was =
    was
    ∙ ap (λ items. option_map (λ rest. done ++ rest) (each f items)) (items_view-drop vs i d low)
    ∙ ap (λ a. option_map (λ rest. done ++ rest) (option_and_then (λ y. option_map (λ ys. y ∷ ys) (each f (items_view (drop (i + 1) vs)))) a)) one
    ∙ joined done x (each f (items_view (drop (i + 1) vs)))

-- a fault of some checks is one of more where what those find first is what these do
pub fault_onward :
    (xs ys : List (Breach → Type 0)) (fault : DocumentFault) → ((b : Breach) → IsFirst xs b → IsFirst ys b) → IsFaultOf xs fault → IsFaultOf ys fault
fault_onward xs ys (faults.Breach b) onward first = onward b first
fault_onward xs ys faults.Memory onward first = tt

-- a document with a breach is not a platform
pub no_platform :
    (document : Members) (platform : PlatformLayout) (b : Breach) → IsFaultOf (document_checks document) (faults.Breach b)
    → IsPlatformDocument document platform → ⊥
no_platform document platform b first is = none_first (document_checks document) b (clear_document document platform is) first
