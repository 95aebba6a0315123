-- What each event leaves as it was that is no access and no trap of the loop.
use Rattle.std.proofs.Common.{◌≡◌, ◌≢◌, ◌∙◌, ℕ, ◌==◌, if◌then◌else◌, refl, ap}
use Rattle.std.proofs.lemmas.Bool.{eq-eqb, ne_eqb}
use Rattle.sbi_decode.specs.Registers.{RegisterFile}
use Rattle.sbi_decode.specs.declared.world.World.{World}
use Rattle.sbi_decode.specs.declared.world.World.TheVariants.{Host, Enclave as InEnclave}
use Rattle.monitor_core.specs.Switches.{runner_on}
use Rattle.monitor_core.specs.Worlds.{ArePlaced}
use Rattle.trap_server.specs.declared.words.ControlWords.{ControlWords}
use Rattle.board.specs.Board.{Board, BoardEvent, DoesAside, DoesCompute, DoesPark, DoesStart, DoesWrite, Floats, Resumption, HappensOn, MayGoOn}
use Rattle.board.specs.Board.{access, aside, computed, gone_on, no_floats, parks, starts, trapped, wrote}
use Rattle.board.specs.Headline.{Keeps, floats_of}
use Rattle.board.proofs.Floats.{others_have, own_has}

-- what was put on a hart is there, and on no other
pub put_here : {A : Type 0} (hart : ℕ) (x y : A) → (if hart == hart then x else y) ≡ x
put_here hart x y = ap (λ b. if b then x else y) (eq-eqb hart hart refl)

pub put_far : {A : Type 0} (hart other : ℕ) (x y : A) → other ≢ hart → (if other == hart then x else y) ≡ y
put_far hart other x y differ = ap (λ b. if b then x else y) (ne_eqb other hart differ)

pub computed_kept : (old : Board) (hart : ℕ) (file : RegisterFile) (floats : Floats) (new : Board) → ArePlaced old.monitor
    → DoesCompute old hart file floats new → Keeps (computed hart file floats) old new
computed_kept old hart file floats new placed x = (
  record {
    monitor = ap (λ (b : Board). b.monitor) x.state;
    memory = x.memory;
    running = λ other differ. ap (λ (b : Board). b.running other) x.state ∙ put_far hart other file (old.running other) differ;
    floats = λ who other. ap (λ b. floats_of b who) x.state ∙ others_have old hart floats placed x.up.known who other;
  },
  (
    ap (λ (b : Board). b.running hart) x.state ∙ put_here hart file (old.running hart),
    ap (λ (b : Board). floats_of b (runner_on b.monitor hart)) x.state ∙ own_has old hart floats placed x.up.known,
  ),
)

pub wrote_kept : (old : Board) (hart : ℕ) (words : ControlWords) (new : Board) → DoesWrite old hart words new → Keeps (wrote hart words) old new
wrote_kept old hart words new x = (
  record {
    monitor = ap (λ (b : Board). b.monitor) x.state;
    memory = x.memory;
    running = λ other differ. ap (λ (b : Board). b.running other) x.state;
    floats = λ who other. ap (λ b. floats_of b who) x.state;
  },
  (ap (λ (b : Board). b.running hart) x.state, ap (λ (b : Board). floats_of b (runner_on b.monitor hart)) x.state),
)

-- an enclave goes on with all of its registers
all_stay : (world : World) (on : Resumption) (file : RegisterFile) → MayGoOn world on → world ≢ Host → gone_on on file ≡ file
all_stay Host on file may enclave = absurd (enclave refl)
all_stay (InEnclave id) on file may enclave = ap (λ o. gone_on o file) may

pub aside_kept : (old : Board) (hart : ℕ) (on : Resumption) (new : Board) → DoesAside old hart on new → Keeps (aside hart on) old new
aside_kept old hart on new x =
    let now : new.running hart ≡ gone_on on (old.running hart) = ap (λ (b : Board). b.running hart) x.state
    ∙ put_here hart (gone_on on (old.running hart)) (old.running hart) in (
      record {
        monitor = ap (λ (b : Board). b.monitor) x.state;
        memory = x.memory;
        running = λ other differ. ap (λ (b : Board). b.running other) x.state
            ∙ put_far hart other (gone_on on (old.running other)) (old.running other) differ;
        floats = λ who other. ap (λ b. floats_of b who) x.state;
      },
      (now, ap (λ (b : Board). floats_of b (runner_on b.monitor hart)) x.state),
      λ enclave. now ∙ all_stay (old.monitor.worlds hart) on (old.running hart) x.may enclave,
    )

pub parks_kept : (old : Board) (hart : ℕ) (new : Board) → DoesPark old hart new → Keeps (parks hart) old new
parks_kept old hart new x = record {
  monitor = ap (λ (b : Board). b.monitor) x.state;
  memory = x.memory;
  running = λ other differ. ap (λ (b : Board). b.running other) x.state;
  floats = λ who other. ap (λ b. floats_of b who) x.state;
}

pub starts_kept : (old : Board) (hart : ℕ) (file : RegisterFile) (words : ControlWords) (new : Board) → ArePlaced old.monitor
    → DoesStart old hart file words new → Keeps (starts hart file words) old new
starts_kept old hart file words new placed x = (
  record {
    monitor = ap (λ (b : Board). b.monitor) x.state;
    memory = x.memory;
    running = λ other differ. ap (λ (b : Board). b.running other) x.state ∙ put_far hart other file (old.running other) differ;
    floats = λ who other. ap (λ b. floats_of b who) x.state ∙ others_have old hart no_floats placed x.known who other;
  },
  (
    ap (λ (b : Board). b.running hart) x.state ∙ put_here hart file (old.running hart),
    ap (λ (b : Board). floats_of b (runner_on b.monitor hart)) x.state ∙ own_has old hart no_floats placed x.known,
  ),
)

-- no event changes which bits of control registers can be written
pub csrs_stay : (event : BoardEvent) (old new : Board) → HappensOn event old new → new.csrs ≡ old.csrs
csrs_stay (access hart a value said) old new x = ap (λ (b : Board). b.csrs) x.state
csrs_stay (computed hart file floats) old new x = ap (λ (b : Board). b.csrs) x.state
csrs_stay (wrote hart words) old new x = ap (λ (b : Board). b.csrs) x.state
csrs_stay (aside hart on) old new x = ap (λ (b : Board). b.csrs) x.state
csrs_stay (parks hart) old new x = ap (λ (b : Board). b.csrs) x.state
csrs_stay (starts hart file words) old new x = ap (λ (b : Board). b.csrs) x.state
csrs_stay (trapped trap frame read question answered) old new x = x.duties.csrs
