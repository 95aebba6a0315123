-- Settings one after another make one map, or have one fault.
use Rattle.std.proofs.Common.{◌≡◌, ◌∙◌, ℕ, suc, ◌+◌, ◌/◌, ◌<◌, ◌≤◌, List, [], ◌∷◌, length, refl, sym, ap, subst, arith, get_or, take, drop, ◌-◌}
use Rattle.std.proofs.Math.Seq.{take-length}
use Rattle.pmp_encoding.specs.declared.perm.Perm.{Perm}
use Rattle.pmp_encoding.proofs.Pairs.{perm_from_same_bits}
use Rattle.permission_map.specs.declared.runs.Run.{Run}
use Rattle.permission_map.specs.Overwrite.{AreOverwritten}
use Rattle.permission_map.proofs.Determined.{determined}
use Rattle.planner_for_c.specs.declared.settings.Setting.{Setting}
use Rattle.planner_for_c.specs.declared.settings.SettingFault.{SettingFault}
use Rattle.planner_for_c.specs.declared.settings.SettingFault.TheVariants.{UnalignedBase, UnalignedSize, UnknownPerm, PastEnd, TooManyRanges}
use Rattle.planner_for_c.specs.Settings.{FaultIn, IsRefusedFor, LeadTo, Names, Sets, done, next, here, later}

-- one range is overwritten in one way
one_way : (old : List Run) (first count : ℕ) (p q : Perm) (xs ys : List Run) → p ≡ q → AreOverwritten old first count p xs → AreOverwritten old first count q ys
    → xs ≡ ys
one_way old first count p q xs ys same a b =
    let moved : AreOverwritten old first count p ys = subst (λ r. AreOverwritten old first count r ys) (sym same) b in
    determined xs ys a.are_runs moved.are_runs (λ page inside. a.view_is page inside ∙ sym (moved.view_is page inside))

one_perm : (setting : Setting) (p q : Perm) → Names setting p → Names setting q → p ≡ q
one_perm setting p q a b = perm_from_same_bits p q (a ∙ sym b)

one_after : (before x y : List Run) (setting : Setting) → Sets before setting x → Sets before setting y → x ≡ y
one_after before x y setting a b =
    one_way before (setting.base / 4096) (setting.size / 4096) a.perm b.perm x y (one_perm setting a.perm b.perm a.named b.named) a.overwritten b.overwritten

-- a setting that is done is refused for nothing
not_both : (before x : List Run) (setting : Setting) (fault : SettingFault) → Sets before setting x → IsRefusedFor fault before setting → ⊥
not_both before x setting UnalignedBase s r = r s.pages.0
not_both before x setting UnalignedSize s r = r.1 s.pages.1
not_both before x setting UnknownPerm s r = r.1 s.perm s.named
not_both before x setting PastEnd s r = omega (arith, s.inside, r.2)
not_both before x setting TooManyRanges s r =
    let many = r.2 in
    let same : x ≡ many.runs = one_way before (setting.base / 4096) (setting.size / 4096) s.perm many.perm x many.runs
    (one_perm setting s.perm many.perm s.named many.named) s.overwritten many.overwritten in
    omega (arith, s.few, many.many, ap length same)

-- it is refused for one thing
one_refusal : (before : List Run) (setting : Setting) (f g : SettingFault) → IsRefusedFor f before setting → IsRefusedFor g before setting → f ≡ g
one_refusal before setting UnalignedBase UnalignedBase a b = refl
one_refusal before setting UnalignedBase UnalignedSize a b = absurd (a b.0)
one_refusal before setting UnalignedBase UnknownPerm a b = absurd (a b.0.0)
one_refusal before setting UnalignedBase PastEnd a b = absurd (a b.0.0)
one_refusal before setting UnalignedBase TooManyRanges a b = absurd (a b.0.0)
one_refusal before setting UnalignedSize UnalignedBase a b = absurd (b a.0)
one_refusal before setting UnalignedSize UnalignedSize a b = refl
one_refusal before setting UnalignedSize UnknownPerm a b = absurd (a.1 b.0.1)
one_refusal before setting UnalignedSize PastEnd a b = absurd (a.1 b.0.1)
one_refusal before setting UnalignedSize TooManyRanges a b = absurd (a.1 b.0.1)
one_refusal before setting UnknownPerm UnalignedBase a b = absurd (b a.0.0)
one_refusal before setting UnknownPerm UnalignedSize a b = absurd (b.1 a.0.1)
one_refusal before setting UnknownPerm UnknownPerm a b = refl
one_refusal before setting UnknownPerm PastEnd a b = absurd (a.1 b.1.0 b.1.1)
one_refusal before setting UnknownPerm TooManyRanges a b = absurd (a.1 b.2.perm b.2.named)
one_refusal before setting PastEnd UnalignedBase a b = absurd (b a.0.0)
one_refusal before setting PastEnd UnalignedSize a b = absurd (b.1 a.0.1)
one_refusal before setting PastEnd UnknownPerm a b = absurd (b.1 a.1.0 a.1.1)
one_refusal before setting PastEnd PastEnd a b = refl
one_refusal before setting PastEnd TooManyRanges a b = absurd (omega (arith, a.2, b.1))
one_refusal before setting TooManyRanges UnalignedBase a b = absurd (b a.0.0)
one_refusal before setting TooManyRanges UnalignedSize a b = absurd (b.1 a.0.1)
one_refusal before setting TooManyRanges UnknownPerm a b = absurd (b.1 a.2.perm a.2.named)
one_refusal before setting TooManyRanges PastEnd a b = absurd (omega (arith, b.2, a.1))
one_refusal before setting TooManyRanges TooManyRanges a b = refl

-- settings make one map
pub one_map : (before x y : List Run) (settings : List Setting) → LeadTo before settings x → LeadTo before settings y → x ≡ y
one_map _ _ _ _ (done {map = map}) done = refl
one_map _ _ y _ (next {before = before} {middle = middle} {after = x} {setting = setting} {settings = settings} s l) (next {middle = other} t m) =
    one_map middle x y settings l (subst (λ runs. LeadTo runs settings y) (one_after before other middle setting t s) m)

-- or have a fault
pub no_fault : (before x : List Run) (settings : List Setting) (i : ℕ) (fault : SettingFault) → LeadTo before settings x → FaultIn before settings i fault → ⊥
no_fault _ _ _ i fault (done {map = map}) f = elim f [ ]
no_fault _ x _ i fault (next {before = before} {middle = middle} {setting = setting} s l) (here r) = not_both before middle setting fault s r
no_fault _ x _ _ fault (next {before = before} {middle = middle} {setting = setting} {settings = settings} s l) (later {middle = other} {i = i} t f) =
    no_fault middle x settings i fault l (subst (λ runs. FaultIn runs settings i fault) (one_after before other middle setting t s) f)

-- and that is one, at one place
pub one_fault : (before : List Run) (settings : List Setting) (i j : ℕ) (f g : SettingFault) → FaultIn before settings i f → FaultIn before settings j g
    → (i ≡ j) × (f ≡ g)
one_fault _ _ _ _ f g (here {before = before} {setting = setting} r) (here q) = (refl, one_refusal before setting f g r q)
one_fault _ _ _ _ f g (here {before = before} {setting = setting} r) (later {middle = other} t m) = absurd (not_both before other setting f t r)
one_fault _ _ _ _ f g (later {before = before} {middle = middle} {setting = setting} s l) (here q) = absurd (not_both before middle setting g s q)
one_fault _ _ _ _ f g (later {before = before} {middle = middle} {setting = setting} {settings = settings} {i = i} s l) (later {middle = other} {i = j} t m) =
    let below = one_fault middle settings i j f g l (subst (λ runs. FaultIn runs settings j g) (one_after before other middle setting t s) m) in
    (ap suc below.0, below.1)

-- the first of some settings, and the others
others_of : (x : Setting) (xs : List Setting) → take (length (x ∷ xs) - 1) xs ≡ xs
others_of x xs = let same : length (x ∷ xs) - 1 ≡ length xs = omega arith in rw same (take-length xs)

pub first_of : (xs : List Setting) (d : Setting) → 1 ≤ length xs → xs ≡ get_or xs 0 d ∷ take (length xs - 1) (drop 1 xs)
first_of [] d h = absurd (omega arith)
first_of (x ∷ xs) d h = ap (λ ys. x ∷ ys) (sym (others_of x xs))

pub none_left : (xs : List Setting) → length xs < 1 → xs ≡ []
none_left [] h = refl
none_left (x ∷ xs) h = absurd (omega arith)

-- where a setting is done, what holds of a fault in those from it on holds of one in those after it
abbrev pub IsFaultFrom : List Setting → List Run → List Setting → Type 0
IsFaultFrom settings map rest = (i : ℕ) (fault : SettingFault) → FaultIn map rest i fault → FaultIn [] settings (length settings - length rest + i) fault

one_more : (settings : List Setting) (map new : List Run) (x : Setting) (xs : List Setting) → length (x ∷ xs) ≤ length settings
    → IsFaultFrom settings map (x ∷ xs) → Sets map x new → IsFaultFrom settings new xs
one_more settings map new x xs room known sets i fault f =
    let place : length settings - length (x ∷ xs) + suc i ≡ length settings - length xs + i = omega (arith, room) in
    subst (λ k. FaultIn [] settings k fault) place (known (suc i) fault (later sets f))

pub fault_more : (settings rest : List Setting) (d : Setting) (map new : List Run) → 1 ≤ length rest → length rest ≤ length settings
    → IsFaultFrom settings map rest → Sets map (get_or rest 0 d) new → IsFaultFrom settings new (take (length rest - 1) (drop 1 rest))
fault_more settings [] d map new some room known sets = absurd (omega arith)
fault_more settings (x ∷ xs) d map new some room known sets = subst (λ ys. IsFaultFrom settings new ys) (sym (others_of x xs))
    (one_more settings map new x xs room known sets)

pub shorter_more : (settings rest : List Setting) → length rest ≤ length settings → length (take (length rest - 1) (drop 1 rest)) ≤ length settings
shorter_more settings [] room = omega (arith, room)
shorter_more settings (x ∷ xs) room = rw (others_of x xs) (omega (arith, room))
