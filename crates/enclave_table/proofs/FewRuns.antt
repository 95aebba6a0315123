-- How many runs the host's view has at most.
use Rattle.std.proofs.Common.{ℕ, suc, ◌≡◌, ◌∙◌, ◌+◌, ◌*◌, ◌/◌, ◌≤◌, sym, ap, refl, Bool, true, false, ◌||◌, cond, List, [], ◌∷◌, length, Option, None, Some}
use Rattle.std.proofs.Common.{arith}
use Rattle.pmp_encoding.specs.declared.perm.Perm.{Perm}
use Rattle.pmp_encoding.specs.declared.perm.Perm.TheVariants.{NoAccess, ReadWriteExecute}
use Rattle.pmp_match.specs.Meaning.{View}
use Rattle.permission_map.specs.declared.runs.Run.{Run}
use Rattle.permission_map.specs.Runs.{view_of_runs, in_range}
use Rattle.permission_map.specs.Views.{SameView, overwritten}
use Rattle.permission_map.proofs.Counted.{two_more}
use Rattle.permission_map.proofs.Determined.{determined}
use Rattle.prefix_tree.specs.RunsOf.{AreRunsOf}
use Rattle.prefix_tree.proofs.RunsExist.{runs_exist}
use Rattle.platforms.specs.Platform.{device_perm, platform_perm}
use Rattle.platforms.specs.Ranges.{has_page}
use Rattle.platforms.proofs.ShortNames.{is_among}
use Rattle.enclave_table.specs.Enclaves.{EnclaveTable}
use Rattle.measurement.specs.Requests.{is_private}
use Rattle.enclave_table.specs.Views.{host_view}
use Rattle.enclave_table.proofs.ShortNames.{any_private}
use Rattle.enclave_table.specs.Tables.{IsTable}
use Rattle.enclave_table.specs.declared.enclave.Enclave.{Enclave}

-- the view has at most n runs
abbrev pub HasFewRuns : View → ℕ → Type 0
HasFewRuns view n = (runs : List Run) → AreRunsOf view runs → length runs ≤ n

-- a range adds two
pub two_runs_more : (view new : View) (first count : ℕ) (perm : Perm) (n : ℕ) → SameView new (overwritten view first count perm) → HasFewRuns view n
    → HasFewRuns new (n + 2)
two_runs_more view new first count perm n same few = λ runs are.
    let old = runs_exist view in
    let both : SameView (view_of_runs runs) (overwritten (view_of_runs old.0) first count perm) = λ page small.
    are.view_is page small ∙ same page small ∙ sym (ap (λ p. cond (in_range first count page) perm p) (old.1.view_is page small)) in
    omega (arith, two_more old.0 runs first count perm old.1.are_runs are.are_runs both, few old.0 old.1)

more : (view : View) (m n : ℕ) → m ≤ n → HasFewRuns view m → HasFewRuns view n
more view m n below few = λ runs are. omega (arith, few runs are, below)

nothing : HasFewRuns (λ page. NoAccess) 0
nothing = λ runs are.
    let none : runs ≡ [] = determined runs [] are.are_runs tt (λ page small. are.view_is page small) in omega (arith, ap length none)

devices_few : (devices : List (ℕ × ℕ × Perm)) → HasFewRuns (device_perm devices) (2 * length devices)
devices_few [] = nothing
devices_few (d ∷ ds) =
    more (device_perm (d ∷ ds)) (2 * length ds + 2) (2 * length (d ∷ ds)) (omega arith)
    (two_runs_more (device_perm ds) (device_perm (d ∷ ds)) (d.0 / 4096) (d.1 / 4096) d.2 (2 * length ds) (λ page small. refl) (devices_few ds))

memory_perm : (a b : Bool) (q : Perm) → cond (a || b) ReadWriteExecute q ≡ cond a ReadWriteExecute (cond b ReadWriteExecute q)
memory_perm true b q = refl
memory_perm false b q = refl

memory_few : (ram : List (ℕ × ℕ)) (view : View) (n : ℕ) → HasFewRuns view n
    → HasFewRuns (λ page. cond (is_among ram page) ReadWriteExecute (view page)) (2 * length ram + n)
memory_few [] view n few = more view n (2 * 0 + n) (omega arith) few
memory_few (r ∷ rs) view n few =
    more (λ page. cond (is_among (r ∷ rs) page) ReadWriteExecute (view page)) (2 * length rs + n + 2) (2 * length (r ∷ rs) + n) (omega arith)
    (two_runs_more (λ page. cond (is_among rs page) ReadWriteExecute (view page)) (λ page. cond (is_among (r ∷ rs) page) ReadWriteExecute (view page))
    (r.0 / 4096) (r.1 / 4096)
    ReadWriteExecute (2 * length rs + n) (λ page small. memory_perm (has_page r page) (is_among rs page) (view page)) (memory_few rs view n few))

hidden_perm : (p m a : Bool) (q : Perm) → cond (m || (p || a)) NoAccess q ≡ cond p NoAccess (cond (m || a) NoAccess q)
hidden_perm true true a q = refl
hidden_perm true false a q = refl
hidden_perm false m a q = refl

or_none : (b : Bool) → (b || false) ≡ b
or_none true = refl
or_none false = refl

enclaves_few :
    (es : List (Option Enclave)) (monitor : ℕ → Bool) (allowed : View) (n : ℕ) → HasFewRuns (λ page. cond (monitor page) NoAccess (allowed page)) n
    → HasFewRuns (λ page. cond (monitor page || any_private es page) NoAccess (allowed page)) (2 * length es + n)
enclaves_few [] monitor allowed n few = λ runs are.
    omega (
      arith,
      few runs (record {
        are_runs = are.are_runs;
        view_is = λ page small. are.view_is page small
            ∙ ap (λ t. cond t NoAccess (allowed page)) (or_none (monitor page));
      }),
    )
enclaves_few (None ∷ es) monitor allowed n few =
    more (λ page. cond (monitor page || any_private es page) NoAccess (allowed page)) (2 * length es + n) (2 * suc (length es) + n) (omega arith)
    (enclaves_few es monitor allowed n few)
enclaves_few (Some e ∷ es) monitor allowed n few =
    more (λ page. cond (monitor page || any_private (Some e ∷ es) page) NoAccess (allowed page)) (2 * length es + n + 2) (2 * length (Some e ∷ es) + n)
    (omega arith)
    (two_runs_more (λ page. cond (monitor page || any_private es page) NoAccess (allowed page))
    (λ page. cond (monitor page || any_private (Some e ∷ es) page) NoAccess (allowed page))
    (e.parts.base / 4096) (e.parts.text_pages + e.parts.data_pages) NoAccess (2 * length es + n)
    (λ page small. hidden_perm (is_private e.parts page) (monitor page) (any_private es page) (allowed page)) (enclaves_few es monitor allowed n few))

-- at most 32 ranges of memory, 32 devices, the monitor and 64 enclaves, each with two edges
pub host_few : (table : EnclaveTable) → IsTable table → HasFewRuns (host_view table) 258
host_few table is =
    let devices : HasFewRuns (device_perm table.layout.devices) (2 * length table.layout.devices) = devices_few table.layout.devices in
    let platform : HasFewRuns (platform_perm table.layout) (2 * length table.layout.ram + 2 * length table.layout.devices) =
    memory_few table.layout.ram (device_perm table.layout.devices) (2 * length table.layout.devices) devices in
    let monitor : HasFewRuns (λ page. cond (has_page table.layout.monitor page) NoAccess (platform_perm table.layout page))
    (2 * length table.layout.ram + 2 * length table.layout.devices + 2) =
    two_runs_more (platform_perm table.layout) (λ page. cond (has_page table.layout.monitor page) NoAccess (platform_perm table.layout page))
    (table.layout.monitor.0 / 4096)
    (table.layout.monitor.1 / 4096) NoAccess (2 * length table.layout.ram + 2 * length table.layout.devices) (λ page small. refl) platform in
    let few_ram : length table.layout.ram ≤ 32 = is.layout.rules.1.1.1.0.1 in
    let few_devices : length table.layout.devices ≤ 32 = is.layout.rules.1.1.1.0.2 in
    more (host_view table) (2 * length table.enclaves + (2 * length table.layout.ram + 2 * length table.layout.devices + 2)) 258
    (omega (arith, is.places, few_ram, few_devices))
    (enclaves_few table.enclaves (has_page table.layout.monitor) (platform_perm table.layout)
    (2 * length table.layout.ram + 2 * length table.layout.devices + 2) monitor)

-- with one range more it is still far from too many
pub host_with_few :
    (table : EnclaveTable) (old new : View) (first count : ℕ) (perm : Perm) (runs : List Run) → IsTable table → SameView old (host_view table)
    → SameView new (overwritten old first count perm) → AreRunsOf new runs → length runs ≤ 260
host_with_few table old new first count perm runs is same overwrites are =
    two_runs_more (host_view table) new first count perm 258
    (λ page small. overwrites page small ∙ ap (λ p. cond (in_range first count page) perm p) (same page small)) (host_few table is) runs are
