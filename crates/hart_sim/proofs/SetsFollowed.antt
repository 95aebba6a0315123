-- What the monitor says of register sets is done on the harts and where they are saved.
use Rattle.std.proofs.Common.{◌≡◌, ◌≢◌, ◌∙◌, ℕ, Bool, true, false, if◌then◌else◌, List, [], ◌∷◌, Option, None, Some, slice_get, slice_set}
use Rattle.std.proofs.Common.{refl, ap, ap₂, sym}
use Rattle.std.specs.Prelude.{unwrap_or}
use Rattle.std.proofs.lemmas.Bool.{both_ways}
use Rattle.pmp_encoding.specs.declared.limit.Limit.{Limit}
use Rattle.sbi_decode.specs.Registers.{RegisterFile, zeros}
use Rattle.sbi_decode.specs.Runners.{Runner, runner_of}
use Rattle.sbi_decode.specs.declared.world.World.{World}
use Rattle.context_switch.specs.declared.contexts.Contexts.{Contexts}
use Rattle.context_switch.specs.declared.hart.Hart.{Hart}
use Rattle.context_switch.specs.Contexts.{saved_of}
use Rattle.context_switch.specs.Harts.{number_of, world_of, registers_of, with_registers}
use Rattle.context_switch.specs.Switch.{Switches}
use Rattle.monitor_core.specs.Changes.{is_same}
use Rattle.monitor_core.specs.SetChanges.{change, changed, changed_by, owner_of}
use Rattle.monitor_core.specs.declared.set_changes.ChangeKind.{ChangeKind}
use Rattle.monitor_core.specs.declared.set_changes.ChangeKind.TheVariants as kinds
use Rattle.monitor_core.specs.declared.set_changes.SetChange.{SetChange}
use Rattle.monitor_core.specs.declared.set_changes.SetChanges.{SetChanges}
use Rattle.monitor_core.proofs.Cases.{both}
use Rattle.monitor_core.proofs.Put.{same_self}
use Rattle.hart_sim.specs.Parts.{AreHarts, registers_in}
use Rattle.hart_sim.proofs.HartSets.{IsAlone, free, others, others_at, others_put, parted, runner_is, runs, same_is}

-- a value where a test holds, and where it does not
yes_is : {A : Type 0} (t : Bool) (x y : A) → t ≡ true → (if t then x else y) ≡ x
yes_is t x y is = ap (λ b. if b then x else y) is

no_is : {A : Type 0} (t : Bool) (x y : A) → t ≡ false → (if t then x else y) ≡ y
no_is t x y is = ap (λ b. if b then x else y) is

-- a change is one of its owner's set alone
by_kind : (kind : ChangeKind) (owner : Runner) (id first second : ℕ) (sets : Runner → RegisterFile) (who : Runner)
    → changed_by kind owner id first second sets who
    ≡ (if is_same who owner then changed_by kind owner id first second (λ other. sets owner) owner else sets who)
by_kind kinds.Nothing owner id first second sets who = both (is_same who owner)
    (λ yes. ap sets (same_is who owner yes) ∙ sym (yes_is (is_same who owner) (sets owner) (sets who) yes))
    (λ no. sym (no_is (is_same who owner) (sets owner) (sets who) no))
by_kind kinds.PastCall owner id first second sets who =
    ap (λ file. if is_same who owner then file else sets who) (sym (yes_is (is_same owner owner) _ _ (same_self owner)))
by_kind kinds.Answer owner id first second sets who =
    ap (λ file. if is_same who owner then file else sets who) (sym (yes_is (is_same owner owner) _ _ (same_self owner)))
by_kind kinds.Begin owner id first second sets who =
    ap (λ file. if is_same who owner then file else sets who) (sym (yes_is (is_same owner owner) _ _ (same_self owner)))
by_kind kinds.Clear owner id first second sets who =
    ap (λ file. if is_same who owner then file else sets who) (sym (yes_is (is_same owner owner) _ _ (same_self owner)))

-- what becomes of the set that a change names
abbrev turned : ℕ → SetChange → RegisterFile → RegisterFile
turned hart x file = change hart x (λ who. file) (owner_of hart x.enclave)

by_owner : (hart : ℕ) (x : SetChange) (sets : Runner → RegisterFile) (who : Runner)
    → change hart x sets who ≡ (if is_same who (owner_of hart x.enclave) then turned hart x (sets (owner_of hart x.enclave)) else sets who)
by_owner hart x sets who = by_kind x.kind (owner_of hart x.enclave) x.enclave x.first x.second sets who

-- so what becomes of a set depends on it alone
change_alike : (hart : ℕ) (x : SetChange) (sets those : Runner → RegisterFile) (who : Runner) → sets who ≡ those who
    → change hart x sets who ≡ change hart x those who
change_alike hart x sets those who same =
    let owner = owner_of hart x.enclave in
    by_owner hart x sets who ∙ both (is_same who owner)
    (λ yes.
    let is = same_is who owner yes in
    yes_is (is_same who owner) _ _ yes ∙ ap (turned hart x) (ap sets (sym is) ∙ same ∙ ap those is) ∙ sym (yes_is (is_same who owner) _ _ yes))
    (λ no. no_is (is_same who owner) _ _ no ∙ same ∙ sym (no_is (is_same who owner) _ _ no))
    ∙ sym (by_owner hart x those who)

pub changed_alike : (hart : ℕ) (changes : SetChanges) (sets those : Runner → RegisterFile) (who : Runner) → sets who ≡ those who
    → changed hart changes sets who ≡ changed hart changes those who
changed_alike hart changes sets those who same =
    change_alike hart changes.third _ _ who (change_alike hart changes.second _ _ who (change_alike hart changes.first sets those who same))

-- a change of the set of the world that runs on the hart
pub change_here : (hart now : Hart) (contexts : Contexts) (x : SetChange) → owner_of (number_of hart) x.enclave ≡ runner_of (number_of hart) (world_of hart)
    → now ≡ with_registers hart (turned (number_of hart) x (registers_of hart)) → (who : Runner)
    → registers_in (now ∷ []) contexts who ≡ change (number_of hart) x (registers_in (hart ∷ []) contexts) who
change_here hart now contexts x own is who =
    let n = number_of hart in
    let owner = owner_of n x.enclave in
    let runner = runner_of n (world_of hart) in
    let sets = registers_in (hart ∷ []) contexts in
    let file = turned n x (registers_of hart) in
    let saved = registers_in [] contexts who in
    let own_set : sets owner ≡ registers_of hart = yes_is (is_same owner runner) _ _ (ap (λ r. is_same r runner) own ∙ same_self runner) in
    ap (λ h. registers_in (h ∷ []) contexts who) is ∙ both (is_same who runner)
    (λ yes. yes_is (is_same who runner) file saved yes ∙ ap (turned n x) (sym own_set)
    ∙ sym (yes_is (is_same who owner) _ _ (ap (is_same who) own ∙ yes)))
    (λ no. no_is (is_same who runner) file saved no ∙ sym (no_is (is_same who runner) (registers_of hart) saved no)
    ∙ sym (no_is (is_same who owner) _ _ (ap (is_same who) own ∙ no)))
    ∙ sym (by_owner n x sets who)

-- a change of a set that is saved
pub change_saved : (hart : Hart) (before after : Contexts) (x : SetChange) (file : RegisterFile)
    → is_same (owner_of (number_of hart) x.enclave) (runner_of (number_of hart) (world_of hart)) ≡ false
    → saved_of before (owner_of (number_of hart) x.enclave) ≡ Some file
    → saved_of after (owner_of (number_of hart) x.enclave) ≡ Some (turned (number_of hart) x file)
    → ((other : Runner) → other ≢ owner_of (number_of hart) x.enclave → saved_of after other ≡ saved_of before other) → (who : Runner)
    → registers_in (hart ∷ []) after who ≡ change (number_of hart) x (registers_in (hart ∷ []) before) who
change_saved hart before after x file apart was now stay who =
    let n = number_of hart in
    let owner = owner_of n x.enclave in
    let runner = runner_of n (world_of hart) in
    let sets = registers_in (hart ∷ []) before in
    let own_set : sets owner ≡ file = no_is (is_same owner runner) _ _ apart ∙ ap (λ o. unwrap_or o zeros) was in
    both (is_same who owner)
    (λ yes.
    let is = same_is who owner yes in
    no_is (is_same who runner) _ _ (ap (λ w. is_same w runner) is ∙ apart) ∙ ap (λ w. unwrap_or (saved_of after w) zeros) is
    ∙ ap (λ o. unwrap_or o zeros) now ∙ ap (turned n x) (sym own_set) ∙ sym (yes_is (is_same who owner) _ _ yes))
    (λ no.
    let other : who ≢ owner = λ same. both_ways (is_same who owner) no (ap (is_same who) (sym same) ∙ same_self who) in
    ap (λ o. if is_same who runner then registers_of hart else unwrap_or o zeros) (stay who other) ∙ sym (no_is (is_same who owner) _ _ no))
    ∙ sym (by_owner n x sets who)

-- a switch to another world leaves every register set
pub switched_sets : (old new : Hart) (before after : Contexts) (to : World) → Switches old new before after to → (who : Runner)
    → registers_in (new ∷ []) after who ≡ registers_in (old ∷ []) before who
switched_sets old new before after to s who =
    let left = runner_of (number_of old) (world_of old) in
    let runner = runner_of (number_of new) (world_of new) in
    let kept = unwrap_or (saved_of after who) zeros in
    let goes : saved_of after runner ≡ Some (registers_of new) = ap (saved_of after) (ap₂ runner_of s.number s.world) ∙ s.loaded in
    both (is_same who runner)
    (λ yes. yes_is (is_same who runner) (registers_of new) kept yes ∙ sym (ap (λ o. unwrap_or o zeros) (ap (saved_of after) (same_is who runner yes) ∙ goes)))
    (λ no. no_is (is_same who runner) (registers_of new) kept no)
    ∙ both (is_same who left)
    (λ yes. ap (λ o. unwrap_or o zeros) (ap (saved_of after) (same_is who left yes) ∙ s.saved) ∙ sym (yes_is (is_same who left) _ _ yes))
    (λ no.
    ap (λ o. unwrap_or o zeros) (s.others who (λ same. both_ways (is_same who left) no (ap (is_same who) (sym same) ∙ same_self who)))
    ∙ sym (no_is (is_same who left) _ _ no))

-- registers that are put on a hart are those of the world that runs there
pub put_running : (harts : List Hart) (worlds : ℕ → World) (limit : Limit) (contexts : Contexts) (n : ℕ) (hart : Hart) (file : RegisterFile)
    → AreHarts harts worlds limit → AreHarts (slice_set harts n (with_registers hart file)) worlds limit → IsAlone worlds → slice_get harts n ≡ Some hart
    → slice_get (slice_set harts n (with_registers hart file)) n ≡ Some (with_registers hart file) → (who : Runner)
    → registers_in (slice_set harts n (with_registers hart file)) contexts who
    ≡ (if is_same who (runner_of n (worlds n)) then file else registers_in harts contexts who)
put_running harts worlds limit contexts n hart file are now alone at there who =
    let new = with_registers hart file in
    let o = others harts n who in
    let saved = registers_in [] contexts who in
    let after = parted (slice_set harts n new) worlds limit contexts n new who now alone there
    ∙ ap (λ p. unwrap_or p (registers_in (new ∷ []) contexts who)) (others_put harts n new who) in
    let before = parted harts worlds limit contexts n hart who are alone at in
    let named : is_same who (runner_of n (worlds n)) ≡ runs hart who = ap (is_same who) (sym (runner_is hart n (worlds n) limit (are.each n hart at))) in
    after ∙ both (runs hart who)
    (λ yes. ap (λ p. unwrap_or p (registers_in (new ∷ []) contexts who)) (free harts worlds limit n hart who are alone at yes)
    ∙ yes_is (runs hart who) file saved yes ∙ sym (yes_is (is_same who (runner_of n (worlds n))) _ _ (named ∙ yes)))
    (λ no. ap (unwrap_or o) (no_is (runs hart who) file saved no ∙ sym (no_is (runs hart who) (registers_of hart) saved no)) ∙ sym before
    ∙ sym (no_is (is_same who (runner_of n (worlds n))) _ _ (named ∙ no)))

-- the sets of all harts after the changes on one, where the changes leave what runs on the others
pub sets_followed : (was now : List Hart) (worlds after : ℕ → World) (limit : Limit) (before then_ : Contexts) (n : ℕ) (h k : Hart) (changes : SetChanges)
    → AreHarts was worlds limit → AreHarts now after limit → IsAlone worlds → IsAlone after → slice_get was n ≡ Some h → now ≡ slice_set was n k
    → slice_get now n ≡ Some k
    → ((who : Runner) → registers_in (k ∷ []) then_ who ≡ changed n changes (registers_in (h ∷ []) before) who)
    → ((i : ℕ) → i ≢ n → (b : Hart) → slice_get was i ≡ Some b
    → changed n changes (registers_in was before) (runner_of i (worlds i)) ≡ registers_in was before (runner_of i (worlds i)))
    → (who : Runner) → registers_in now then_ who ≡ changed n changes (registers_in was before) who
sets_followed was now worlds after limit before then_ n h k changes are are_now alone alone_now at put there here elsewhere who =
    new ∙ by_other (others was n who) refl
  where
    new : registers_in now then_ who ≡ unwrap_or (others was n who) (registers_in (k ∷ []) then_ who)
    new = parted now after limit then_ n k who are_now alone_now there
        ∙ ap (λ o. unwrap_or o (registers_in (k ∷ []) then_ who)) (ap (λ hs. others hs n who) put ∙ others_put was n k who)

    old : registers_in was before who ≡ unwrap_or (others was n who) (registers_in (h ∷ []) before who)
    old = parted was worlds limit before n h who are alone at

    by_other : (o : Option RegisterFile) → others was n who ≡ o
        → unwrap_or (others was n who) (registers_in (k ∷ []) then_ who) ≡ changed n changes (registers_in was before) who
    by_other None is = ap (λ o. unwrap_or o (registers_in (k ∷ []) then_ who)) is ∙ here who
        ∙ changed_alike n changes (registers_in (h ∷ []) before) (registers_in was before) who
        (sym (old ∙ ap (λ o. unwrap_or o (registers_in (h ∷ []) before who)) is))
    by_other (Some file) is =
        let f = others_at was n who file is in
        let runner = runner_of f.0 (worlds f.0) in
        let same : who ≡ runner = same_is who _ f.4 ∙ runner_is f.1 f.0 (worlds f.0) limit (are.each f.0 f.1 f.3) in
        ap (λ o. unwrap_or o (registers_in (k ∷ []) then_ who)) is ∙ sym (old ∙ ap (λ o. unwrap_or o (registers_in (h ∷ []) before who)) is)
        ∙ ap (registers_in was before) same ∙ sym (elsewhere f.0 f.2 f.1 f.3) ∙ ap (changed n changes (registers_in was before)) (sym same)

-- three changes, one after another
pub chained : (n first second : ℕ) (x : SetChanges) (s0 s1 s2 s3 : Runner → RegisterFile) → ((who : Runner) → s1 who ≡ change n x.first s0 who) → first ≡ n
    → ((who : Runner) → s2 who ≡ change first x.second s1 who) → second ≡ first → ((who : Runner) → s3 who ≡ change second x.third s2 who) → (who : Runner)
    → s3 who ≡ changed n x s0 who
chained n first second x s0 s1 s2 s3 a same b last d who =
    d who ∙ ap (λ m. change m x.third s2 who) (last ∙ same)
    ∙ change_alike n x.third s2 (change n x.second (change n x.first s0)) who
    (b who ∙ ap (λ m. change m x.second s1 who) same ∙ change_alike n x.second s1 (change n x.first s0) who (a who))
