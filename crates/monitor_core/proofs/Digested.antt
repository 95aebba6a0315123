-- What stays where an enclave that is live has another digest.
use Rattle.std.proofs.Common.{◌≡◌, ◌∙◌, ⊎_elim, ℕ, ◌-◌, Bool, true, List, Some, set, refl, ap, sym}
use Rattle.std.proofs.lemmas.Bool.{cases_eq}
use Rattle.pmp_encoding.specs.declared.region.Entry.{Entry}
use Rattle.pmp_match.specs.Meaning.{IsFewest}
use Rattle.permission_map.specs.Views.{SameView}
use Rattle.enclave_table.specs.Enclaves.{EnclaveTable, Live, enclave_at}
use Rattle.enclave_table.specs.Digests.{with_digest}
use Rattle.enclave_table.specs.Tables.{Kept}
use Rattle.enclave_table.specs.declared.enclave.Enclave.{Enclave}
use Rattle.enclave_table.proofs.Places.{live_above, live_inside, set_same, set_other}
use Rattle.enclave_table.proofs.SameViews.{fewest_same}
use Rattle.sbi_decode.specs.declared.world.World.{World}
use Rattle.sbi_decode.specs.declared.world.World.TheVariants.{Host, Enclave as InEnclave}
use Rattle.monitor_core.specs.States.{MonitorState, view_of}
use Rattle.monitor_core.specs.Changes.{having_digest}
use Rattle.monitor_core.specs.Parts.{is_current, is_run, is_running, world_in, HoldsTogether}
use Rattle.monitor_core.proofs.Currents.{current_from}
use Rattle.monitor_core.proofs.Views.{view_replaced}

-- the view of each world
pub view_digested : (s : MonitorState) (id : ℕ) (e : Enclave) (digest : List ℕ) (world : World) → Live s.table id e
    → SameView (view_of s.table world) (view_of (having_digest s id e digest).table world)
view_digested s id e digest world live = view_replaced s.table id e (record e { digest = digest }) world live refl

-- so its fewest entries do
pub fewest_digested : (s : MonitorState) (id : ℕ) (e : Enclave) (digest : List ℕ) (world : World) (entries : List Entry) → Live s.table id e
    → IsFewest (view_of s.table world) entries → IsFewest (view_of (having_digest s id e digest).table world) entries
fewest_digested s id e digest world entries live fewest =
    fewest_same (view_of s.table world) (view_of (having_digest s id e digest).table world) entries (view_digested s id e digest world live) fewest

-- who is Running
running_digested : (table : EnclaveTable) (id k : ℕ) (e : Enclave) (digest : List ℕ) → Live table id e
    → is_running (enclave_at (with_digest table id e digest).enclaves k) ≡ is_running (enclave_at table.enclaves k)
running_digested table id k e digest live = ⊎_elim
    (λ same.
    let now : enclave_at (set table.enclaves (id - 1) (Some (record e { digest = digest }))) k ≡ Some (record e { digest = digest }) =
    ap (enclave_at (set table.enclaves (id - 1) (Some (record e { digest = digest })))) same
    ∙ set_same table.enclaves id (Some (record e { digest = digest })) (live_above table.enclaves id e live) (live_inside table.enclaves id e live) in
    ap is_running now ∙ sym (ap is_running (ap (enclave_at table.enclaves) same ∙ live)))
    (λ differ. ap is_running (set_other table.enclaves id k (Some (record e { digest = digest })) (live_above table.enclaves id e live) differ))
    (cases_eq k id)

current_digested : (table : EnclaveTable) (id : ℕ) (e : Enclave) (digest : List ℕ) (world : World) → Live table id e
    → is_current (with_digest table id e digest) world ≡ is_current table world
current_digested table id e digest Host live = refl
current_digested table id e digest (InEnclave k) live = running_digested table id k e digest live

-- the parts of the monitor belong together as before
pub whole_digested : (kept : Kept) (worlds : List World) (marks : List Bool) (id : ℕ) (e : Enclave) (digest : List ℕ) → Live kept.table id e
    → HoldsTogether kept worlds marks → HoldsTogether (record kept { table = with_digest kept.table id e digest }) worlds marks
whole_digested kept worlds marks id e digest live w = record {
  few = w.few;
  current = λ hart. current_digested kept.table id e digest (world_in worlds hart) live ∙ w.current hart;
  alone = w.alone;
  held = λ k g after runs.
      let is : is_running (enclave_at kept.table.enclaves k) ≡ true = sym (running_digested kept.table id k e digest live) ∙ ap is_running after
      ∙ ap is_run runs in
      let was = current_from kept.table (InEnclave k) is in w.held k was.0 was.1 was.2;
  idle = w.idle;
  hosted = w.hosted;
}
