-- Extents that match all of each page or nothing of it, as far as they count, mean the view that they give.
use Rattle.std.proofs.Common.{◌≡◌, ℕ, ◌+◌, ◌*◌, ◌/◌, ◌%◌, ◌^◌, ◌<◌, ◌≤◌, ◌⊎◌, inl, inr, ⊎_elim, List, [], ◌∷◌, ◌++◌, Bool, true, false, cond, ◌&&◌, ◌||◌}
use Rattle.std.proofs.Common.{Option, None, Some, refl, sym, ap, subst, ◌∙◌, arith, nat_lt, nat_le}
use Rattle.std.specs.List.{AllByRecursion}
use Rattle.std.proofs.lemmas.Bool.{cases_lt, lt-ltb, le-ltb, le-leb, and_from, and_left, and_right, lt-leb}
use Rattle.pmp_encoding.specs.declared.extent.Extent.{Extent}
use Rattle.pmp_encoding.specs.declared.perm.Perm.{Perm}
use Rattle.pmp_encoding.specs.declared.perm.Perm.TheVariants.{NoAccess}
use Rattle.pmp_encoding.specs.declared.region.Entry.{Entry}
use Rattle.pmp_encoding.specs.Extents.{extent_of}
use Rattle.pmp_encoding.specs.Views.{View}
use Rattle.pmp_match.specs.declared.access.Access.{Access}
use Rattle.pmp_match.specs.Bytes.{holds_byte, perm_at}
use Rattle.pmp_match.specs.Decision.{is_machine}
use Rattle.pmp_match.specs.Kinds.{holds}
use Rattle.pmp_match.specs.Lists.{matched_by}
use Rattle.pmp_match.specs.Matching.{touches, grants, lets_through}
use Rattle.pmp_match.specs.RegisterDecision.{ExtentsMean, IsWords}
use Rattle.pmp_match.specs.Tor.{nowhere}
use Rattle.pmp_match.proofs.Decided.{size_positive}
use Rattle.pmp_match.proofs.FirstByte.{no_access}
use Rattle.pmp_match.proofs.Pages.{sizes, base, size}
use Rattle.pmp_match.proofs.RegistersDecided.{not_machine, permits_from_test, test_from_permits}
use Rattle.entry_planner.proofs.Placed.{AreParts}
use Rattle.chain_planner.specs.declared.turns.Turn.{Turn}
use Rattle.chain_planner.specs.Chained.{matched_from, off_extents}
use Rattle.chain_planner.specs.Turns.{turn_at, last_turn, TurnsWithin, tops_from}

-- the extent has each byte of the page, or none
abbrev pub HasPage : Extent → ℕ → Type 0
HasPage x page = (x.base ≤ page * 4096) × ((page + 1) * 4096 ≤ x.end)

abbrev pub MissesPage : Extent → ℕ → Type 0
MissesPage x page = (x.end ≤ page * 4096) ⊎ ((page + 1) * 4096 ≤ x.base)

-- the first extent that has a byte of the page has each, and gives it the permission
abbrev pub PageGiven : List Extent → ℕ → Perm → Type 0
PageGiven [] page q = q ≡ NoAccess
PageGiven (x ∷ xs) page q = (HasPage x page × (x.perm ≡ q)) ⊎ (MissesPage x page × PageGiven xs page q)

-- ---- the access

page_answer :
    (xs : List Extent) (a : Access) (page : ℕ) (q : Perm) → is_machine a.mode ≡ false → page * 4096 ≤ a.address → a.address + a.size ≤ (page + 1) * 4096
    → 0 < a.size → PageGiven xs page q
    → lets_through xs a ≡ holds q a.kind
page_answer [] a page q user low high some given = user ∙ sym (no_access a.kind) ∙ ap (λ p. holds p a.kind) (sym given)
page_answer (x ∷ xs) a page q user low high some given =
    ⊎_elim
    (λ has.
    let touched : touches x a ≡ true =
    and_from _ _ (lt-ltb x.base (a.address + a.size) (omega (arith, has.0.0, low, some))) (lt-ltb a.address x.end (omega (arith, has.0.1, high, some))) in
    let whole : (nat_le x.base a.address && nat_le (a.address + a.size) x.end) ≡ true =
    and_from _ _ (le-leb x.base a.address (omega (arith, has.0.0, low))) (le-leb (a.address + a.size) x.end (omega (arith, has.0.1, high))) in
    ap (λ t. cond t (grants x a) (lets_through xs a)) touched
    ∙ ap (λ t. t && (is_machine a.mode || holds x.perm a.kind)) whole
    ∙ ap (λ t. t || holds x.perm a.kind) user
    ∙ ap (λ p. holds p a.kind) has.1)
    (λ misses.
    ap (λ t. cond t (grants x a) (lets_through xs a)) (untouched misses.0)
    ∙ page_answer xs a page q user low high some misses.1)
    given
  where
    untouched : MissesPage x page → touches x a ≡ false
    untouched misses =
        ⊎_elim (λ before. and_right _ _ (le-ltb a.address x.end (omega (arith, before, low))))
        (λ after. and_left _ _ (le-ltb x.base (a.address + a.size) (omega (arith, after, high))))
        misses

in_page : (a : Access) → a.address % a.size ≡ 0 → a.address + a.size ≤ (a.address / 4096 + 1) * 4096
in_page a aligned = go a.size (sizes a.kind a.size a.sized) aligned
  where
    go : (size : ℕ) → (size ≡ 1) ⊎ ((size ≡ 2) ⊎ ((size ≡ 4) ⊎ (size ≡ 8))) → a.address % size ≡ 0 → a.address + size ≤ (a.address / 4096 + 1) * 4096
    go size is aligned =
        ⊎_elim (λ one. omega (arith, one))
        (λ more.
        ⊎_elim (λ two. (let even : a.address % 2 ≡ 0 = rw two at aligned in omega (arith, two, even)))
        (λ more.
        ⊎_elim (λ four. (let by : a.address % 4 ≡ 0 = rw four at aligned in omega (arith, four, by)))
        (λ eight. (let by : a.address % 8 ≡ 0 = rw eight at aligned in omega (arith, eight, by))) more)
        more)
        is

pub page_means : (xs : List Extent) (view : View) → AllByRecursion IsWords xs → ((page : ℕ) → page < 2 ^ 44 → PageGiven xs page (view page))
    → ExtentsMean xs view
page_means xs view words given a aligned inside user =
    let answer : lets_through xs a ≡ holds (view (a.address / 4096)) a.kind =
    page_answer xs a (a.address / 4096) (view (a.address / 4096)) (not_machine a.mode user) (omega arith) (in_page a aligned)
    (size_positive a.kind a.size a.sized) (given (a.address / 4096) (omega (arith, inside))) in
    ((λ p. sym answer ∙ test_from_permits xs a words p), (λ h. permits_from_test xs a (not_machine a.mode user) words (answer ∙ h)))

-- ---- what entries of whole pages match

entry_page : (e : Entry) (page : ℕ) → 12 ≤ e.region.log2
    → ((holds_byte e.region (page * 4096) ≡ true) × HasPage (extent_of e) page) ⊎ ((holds_byte e.region (page * 4096) ≡ false) × MissesPage (extent_of e) page)
entry_page e page pages =
    let from = base e pages in
    let long = size e pages in
    ⊎_elim
    (λ below. inr (and_left _ _ (lt-leb' (page * 4096) e.region.base below), inr (omega (arith, from.1, below))))
    (λ begun.
    ⊎_elim
    (λ inside.
    inl (and_from _ _ (le-leb _ _ begun) (lt-ltb _ _ inside), (begun, omega (arith, from.1, long.1, inside))))
    (λ above. inr (and_right _ _ (le-ltb _ _ above), inl above))
    (cases_lt (page * 4096) (e.region.base + 2 ^ e.region.log2)))
    (cases_lt (page * 4096) e.region.base)
  where
    lt-leb' : (x b : ℕ) → x < b → nat_le b x ≡ false
    lt-leb' x b less = lt-leb b x less

pub blocks_given : (es : List Entry) (rest : List Extent) (page first k : ℕ) (q : Perm) → AreParts first k es → PageGiven rest page q
    → PageGiven (matched_by es ++ rest) page (perm_at q es (page * 4096))
blocks_given [] rest page first k q parts given = given
blocks_given (e ∷ es) rest page first k q parts given =
    ⊎_elim (λ held. inl (held.1, sym (ap (λ t. cond t e.perm (perm_at q es (page * 4096))) held.0)))
    (λ missed.
    inr (
      missed.1,
      subst (λ p. PageGiven (matched_by es ++ rest) page p) (sym (ap (λ t. cond t e.perm (perm_at q es (page * 4096))) missed.0))
          (blocks_given es rest page first k q parts.1 given),
    ))
    (entry_page e page parts.0.1)

-- where some entry has the page, what comes after them does not count
abbrev pub Holds : List Entry → ℕ → Type 0
Holds [] page = ⊥
Holds (e ∷ es) page = (holds_byte e.region (page * 4096) ≡ true) ⊎ Holds es page

pub blocks_held : (es : List Entry) (rest : List Extent) (page first k : ℕ) (q : Perm) → AreParts first k es → Holds es page
    → PageGiven (matched_by es ++ rest) page (perm_at q es (page * 4096))
blocks_held [] rest page first k q parts holds = absurd holds
blocks_held (e ∷ es) rest page first k q parts holds =
    ⊎_elim (λ held. inl (held.1, sym (ap (λ t. cond t e.perm (perm_at q es (page * 4096))) held.0)))
    (λ missed.
    inr (
      missed.1,
      subst (λ p. PageGiven (matched_by es ++ rest) page p) (sym (ap (λ t. cond t e.perm (perm_at q es (page * 4096))) missed.0))
          (blocks_held es rest page first k q parts.1 (⊎_elim (λ h. absurd (both_values h missed.0)) (λ h. h) holds)),
    ))
    (entry_page e page parts.0.1)
  where
    both_values : holds_byte e.region (page * 4096) ≡ true → holds_byte e.region (page * 4096) ≡ false → ⊥
    both_values a b = cc

-- ---- what a chain matches

pub off_given : (off : Option ℕ) (rest : List Extent) (page : ℕ) (q : Perm) → PageGiven rest page q → PageGiven (off_extents off ++ rest) page q
off_given None rest page q given = given
off_given (Some address) rest page q given = inr (inl (omega arith), given)

-- from its beginning on, the permission by its changes
pub chain_given : (bottom : ℕ) (p : Perm) (turns : List Turn) (page : ℕ) → 4 * bottom ≤ page * 4096 → last_turn p turns ≡ NoAccess
    → PageGiven (matched_from bottom (tops_from p turns)) page (turn_at p turns page)
chain_given bottom p [] page low last = last
chain_given bottom p (t ∷ turns) page low last =
    ⊎_elim
    (λ before.
    let rises : nat_lt bottom (t.page * 1024) ≡ true = lt-ltb _ _ (omega (arith, low, before)) in
    let early : nat_lt page t.page ≡ true = lt-ltb _ _ before in
    inl (
      subst (λ (b : Bool). HasPage (cond b (record { base = 4 * bottom; end = 4 * (t.page * 1024); perm = p }) nowhere) page) (sym rises)
          (low, omega (arith, before)),
      ap (λ (b : Bool). (cond b (record { base = 4 * bottom; end = 4 * (t.page * 1024); perm = p }) nowhere).perm) rises
          ∙ sym (ap (λ b. cond b p (turn_at t.perm turns page)) early),
    ))
    (λ behind.
    let late : nat_lt page t.page ≡ false = le-ltb _ _ behind in
    inr (
      misses (nat_lt bottom (t.page * 1024)) behind,
      subst (λ q. PageGiven (matched_from (t.page * 1024) (tops_from t.perm turns)) page q) (sym (ap (λ b. cond b p (turn_at t.perm turns page)) late))
          (chain_given (t.page * 1024) t.perm turns page (omega (arith, behind)) last),
    ))
    (cases_lt page t.page)
  where
    misses : (b : Bool) → t.page ≤ page → MissesPage (cond b (record { base = 4 * bottom; end = 4 * (t.page * 1024); perm = p }) nowhere) page
    misses true behind = inl (omega (arith, behind))
    misses false behind = inl (omega arith)

-- and before it nothing
pub before_given : (bottom first end : ℕ) (p : Perm) (turns : List Turn) (page : ℕ) → TurnsWithin first end turns → bottom ≤ first * 1024
    → (page + 1) * 4096 ≤ 4 * bottom
    → PageGiven (matched_from bottom (tops_from p turns)) page NoAccess
before_given bottom first end p [] page within low below = refl
before_given bottom first end p (t ∷ turns) page within low below =
    inr (
      misses (nat_lt bottom (t.page * 1024)),
      before_given (t.page * 1024) t.page end t.perm turns page within.2 (omega arith) (omega (arith, within.0, low, below)),
    )
  where
    misses : (b : Bool) → MissesPage (cond b (record { base = 4 * bottom; end = 4 * (t.page * 1024); perm = p }) nowhere) page
    misses true = inr below
    misses false = inl (omega arith)
