-- What becomes of control words over a trap.
use Rattle.std.proofs.Common.{◌≡◌, ◌≢◌, ◌∙◌, inl, inr, ℕ, ◌==◌, if◌then◌else◌, bit_and, List, Option, Some, None, IfSome, refl, ap, sym, subst}
use Rattle.std.proofs.Common.{arith, lit<}
use Rattle.std.proofs.lemmas.Bool.{both_ways, eq-eqb, eqb-true}
use Rattle.std.proofs.lemmas.Nat.{and_le_r}
use Rattle.std.specs.Int.Bits.{or_add_and}
use Rattle.pmp_encoding.specs.declared.pages.PageRange.{PageRange}
use Rattle.measurement.specs.declared.request.Create.{Create}
use Rattle.sbi_decode.specs.Calls.{call_of}
use Rattle.sbi_decode.specs.Runners.{HostOf, EnclaveOf, runner_of}
use Rattle.sbi_decode.specs.declared.calls.Call.{Call}
use Rattle.sbi_decode.specs.declared.calls.Call.TheVariants as calls
use Rattle.sbi_decode.specs.declared.world.World.{World}
use Rattle.sbi_decode.specs.declared.world.World.TheVariants.{Host, Enclave as InEnclave}
use Rattle.enclave_table.specs.Tables.{IsTable}
use Rattle.monitor_core.specs.Changes.{is_host, past_call, with_running}
use Rattle.monitor_core.specs.States.{MonitorState, running_registers}
use Rattle.monitor_core.specs.Steps.{DoesCall, Interrupts}
use Rattle.monitor_core.specs.Switches.{runner_on}
use Rattle.monitor_core.specs.Worlds.{ArePlaced}
use Rattle.monitor_core.specs.declared.answer.Answer.{Answer}
use Rattle.monitor_core.specs.declared.set_changes.SetChanges.{SetChanges}
use Rattle.monitor_core.proofs.Cases.{both}
use Rattle.trap_server.specs.Answered.{AreControl}
use Rattle.trap_server.specs.Firmware.{KeepsTrap}
use Rattle.trap_server.specs.Given.{said_words, words_given}
use Rattle.trap_server.specs.Service.{ServesAs, given_at}
use Rattle.trap_server.specs.Tables.{enclave_words, hosts_interrupts, monitors_interrupts, time}
use Rattle.trap_server.specs.Words.{word_at}
use Rattle.trap_server.specs.declared.host_words.HostWords.{HostWords}
use Rattle.trap_server.specs.declared.trap.Trap.{Trap}
use Rattle.trap_server.specs.declared.trap.TrapEvent.{TrapEvent}
use Rattle.trap_server.specs.declared.trap.TrapEvent.TheVariants as traps
use Rattle.trap_server.proofs.Said.{says_words}
use Rattle.board.specs.Board.{Board, ChangesControl, TrapDuties, framed, runner_by, saved}
use Rattle.board.specs.Headline.{HaveOwnControl, KeepsControl, host_control}
use Rattle.board.specs.Held.{CanConfine, CanHold, held}
use Rattle.board.proofs.Confined.{confined}
use Rattle.board.proofs.Control.{IsOwn}
use Rattle.board.proofs.FloatsKept.{next_is}
use Rattle.board.proofs.Here.{served_here}

-- an enclave's words have 64 bits, whatever its host's are
enclave_fits : (host : HostWords) → AreControl (enclave_words host)
enclave_fits host =
    let low = and_le_r host.mie hosts_interrupts in
    let sum = or_add_and monitors_interrupts (bit_and host.mie hosts_interrupts) in
    let counters = and_le_r host.scounteren time in
    record {
      status = lit< tt;
      satp = lit< tt;
      mie = omega (arith, low, sum);
      scounteren = omega (arith, counters);
      senvcfg = lit< tt;
      hstatus = lit< tt;
      medeleg = lit< tt;
      mideleg = lit< tt;
      mode = lit< tt;
    }

given_fits : (before after : World) (host : HostWords) → IfSome (words_given before after host) AreControl
given_fits Host Host host = tt
given_fits Host (InEnclave id) host = enclave_fits host
given_fits (InEnclave id) after host = tt

-- an enclave that traps is left for its host, or goes on itself
module _ (s n : MonitorState) (hart id other : ℕ) (was : s.worlds hart ≡ InEnclave id) (at : n.worlds hart ≡ InEnclave other) where
  abbrev Same : Type 0
  Same = InEnclave other ≡ InEnclave id

  still : n.worlds hart ≡ s.worlds hart → Same
  still same = sym at ∙ same ∙ was

  -- no enclave calls run or resume, of which a host alone may
  no_host : s.worlds hart ≡ Host → Same
  no_host host = let z : Host ≡ InEnclave id = sym host ∙ was in absurd cc

  back : n.worlds hart ≡ (if hart == hart then Host else s.worlds hart) → Same
  back is =
      let z : Host ≡ InEnclave other = sym (is ∙ ap (λ b. if b then Host else s.worlds hart) (eq-eqb hart hart refl)) ∙ at in absurd cc

  call_same : (call : Option Call) (digests : Create → List ℕ) (answer : Answer) (zero : Option PageRange) → DoesCall call digests s hart answer zero n → Same
  call_same None digests answer zero x = still (ap (λ y. y.worlds hart) x.state)
  call_same (Some (calls.Create base text_pages data_pages shared_base shared_count entry_offset)) digests answer zero (inl x) = still
      (ap (λ y. y.worlds hart) x.3.state)
  call_same (Some (calls.Create base text_pages data_pages shared_base shared_count entry_offset)) digests answer zero (inr x) = still
      (ap (λ y. y.worlds hart) x.2.state)
  call_same (Some (calls.Destroy k)) digests answer zero (inl x) = still (ap (λ y. y.worlds hart) x.3.state)
  call_same (Some (calls.Destroy k)) digests answer zero (inr x) = still (ap (λ y. y.worlds hart) x.2.state)
  call_same (Some (calls.Run k)) digests answer zero (inl x) = no_host x.3.passes.0
  call_same (Some (calls.Run k)) digests answer zero (inr x) = still (ap (λ y. y.worlds hart) x.2.state)
  call_same (Some calls.Stop) digests answer zero (inl x) = back (ap (λ y. y.worlds hart) x.3.state)
  call_same (Some calls.Stop) digests answer zero (inr x) = still (ap (λ y. y.worlds hart) x.2.state)
  call_same (Some (calls.Resume k)) digests answer zero (inl x) = no_host x.3.passes.0
  call_same (Some (calls.Resume k)) digests answer zero (inr x) = still (ap (λ y. y.worlds hart) x.2.state)
  call_same (Some (calls.Exit value)) digests answer zero (inl x) = back (ap (λ y. y.worlds hart) x.3.state)
  call_same (Some (calls.Exit value)) digests answer zero (inr x) = still (ap (λ y. y.worlds hart) x.2.state)
  call_same (Some (calls.Measure k word)) digests answer zero (inl x) = still (ap (λ y. y.worlds hart) x.2.state)
  call_same (Some (calls.Measure k word)) digests answer zero (inr x) = still (ap (λ y. y.worlds hart) x.2.state)

  irq_same : (world : World) → Interrupts world s hart n → Same
  irq_same Host x = still (ap (λ y. y.worlds hart) x)
  irq_same (InEnclave k) x = back (ap (λ y. y.worlds hart) x.2)

served_same :
    (event : TrapEvent) (s : MonitorState) (trap : Trap) (changes : SetChanges) (read question answered : List ℕ) (new : MonitorState) (id other : ℕ)
    → ServesAs event s trap changes read question answered new → s.worlds trap.hart ≡ InEnclave id → new.worlds trap.hart ≡ InEnclave other
    → InEnclave other ≡ InEnclave id
served_same traps.Call s trap changes read question answered new id other x was at =
    let file = past_call (running_registers s trap.hart) in
    let a = x.answers in
    let now : a.mid.worlds trap.hart ≡ InEnclave other = subst (λ (y : MonitorState). y.worlds trap.hart ≡ InEnclave other) a.woken at in
    call_same (with_running s trap.hart file) a.mid trap.hart id other was now (call_of file) (λ parts. x.digest) x.answer a.cleared a.step
served_same traps.Stop s trap changes read question answered new id other x was at =
    let now : x.mid.worlds trap.hart ≡ InEnclave other = subst (λ (y : MonitorState). y.worlds trap.hart ≡ InEnclave other) x.woken at in
    irq_same s x.mid trap.hart id other was now (s.worlds trap.hart) x.step

-- a trap on a hart, whose answer says the words that are given
module _ (old new : Board) (hart : ℕ) (host : HostWords)
    (same_enclave : (id other : ℕ) → old.monitor.worlds hart ≡ InEnclave id → new.monitor.worlds hart ≡ InEnclave other → InEnclave other ≡ InEnclave id)
    (c : ChangesControl old hart (runner_on old.monitor hart) (runner_on new.monitor hart)
    (words_given (old.monitor.worlds hart) (new.monitor.worlds hart) host) new) (can : CanConfine (old.csrs hart))
    (legal : CanHold (old.csrs hart) (host_control old hart)) where
  -- what becomes of the words of the hart, by the worlds before and after
  record Here (before after : World) : Type 0 where
    hosts : (if is_host after then new.control hart else new.hosts hart) ≡ (if is_host before then old.control hart else old.hosts hart)
    enters : (id : ℕ) → before ≡ Host → after ≡ InEnclave id → new.control hart ≡ held (old.csrs hart) (enclave_words host)
    stays : after ≡ before → new.control hart ≡ old.control hart
    own : (before ≡ Host → host ≡ framed (old.control hart))
        → ((id : ℕ) → before ≡ InEnclave id → IsOwn (old.csrs hart) (old.control hart) (old.hosts hart))
        → (id : ℕ) → after ≡ InEnclave id → IsOwn (old.csrs hart) (new.control hart) (new.hosts hart)

  said_is : (before after : World) → old.monitor.worlds hart ≡ before → new.monitor.worlds hart ≡ after
      → words_given (old.monitor.worlds hart) (new.monitor.worlds hart) host ≡ words_given before after host
  said_is before after was is = ap (λ w. words_given w (new.monitor.worlds hart) host) was ∙ ap (λ w. words_given before w host) is

  by_worlds : (before after : World) → old.monitor.worlds hart ≡ before → new.monitor.worlds hart ≡ after → Here before after
  by_worlds Host Host was is =
      let goes = c.goes_on (said_is Host Host was is) (ap (runner_of hart) (is ∙ sym was)) in
      record {
        hosts = goes;
        enters = λ id from to. let z : Host ≡ InEnclave id = to in absurd cc;
        stays = λ same. goes;
        own = λ of owns id to. let z : Host ≡ InEnclave id = to in absurd cc;
      }
  by_worlds Host (InEnclave k) was is =
      let gets = c.gets (enclave_words host) (said_is Host (InEnclave k) was is) in
      let leaves = c.leaves (enclave_words host) (said_is Host (InEnclave k) was is) in
      record {
        hosts = leaves;
        enters = λ id from to. gets;
        stays = λ same. let z : InEnclave k ≡ Host = same in absurd cc;
        own = λ of owns id to. subst (λ keeps. IsOwn (old.csrs hart) (new.control hart) keeps) (sym leaves)
            (subst (λ has. IsOwn (old.csrs hart) has (old.control hart)) (sym (gets ∙ ap (λ h. held (old.csrs hart) (enclave_words h)) (of refl)))
            (refl, confined (old.csrs hart) (framed (old.control hart)) can));
      }
  by_worlds (InEnclave j) Host was is =
      let none = said_is (InEnclave j) Host was is in
      let differ : runner_on new.monitor hart ≢ runner_on old.monitor hart = λ same.
      let z : HostOf hart ≡ EnclaveOf j = sym (ap (runner_of hart) is) ∙ same ∙ ap (runner_of hart) was in cc in
      record {
        hosts = c.comes_back none differ ∙ subst (λ w. CanHold (old.csrs hart) (if is_host w then old.control hart else old.hosts hart)) was legal;
        enters = λ id from to. let z : Host ≡ InEnclave id = to in absurd cc;
        stays = λ same. let z : Host ≡ InEnclave j = same in absurd cc;
        own = λ of owns id to. let z : Host ≡ InEnclave id = to in absurd cc;
      }
  by_worlds (InEnclave j) (InEnclave k) was is =
      let none = said_is (InEnclave j) (InEnclave k) was is in
      let goes = c.goes_on none (ap (runner_of hart) (is ∙ same_enclave j k was is ∙ sym was)) in
      let waits = c.waits none in
      record {
        hosts = waits;
        enters = λ id from to. let z : InEnclave j ≡ Host = from in absurd cc;
        stays = λ same. goes;
        own = λ of owns id to. subst (λ keeps. IsOwn (old.csrs hart) (new.control hart) keeps) (sym waits)
            (subst (λ has. IsOwn (old.csrs hart) has (old.hosts hart)) (sym goes) (owns j refl));
      }

  here : Here (old.monitor.worlds hart) (new.monitor.worlds hart)
  here = by_worlds (old.monitor.worlds hart) (new.monitor.worlds hart) refl refl

  -- by whether a hart is the one of the trap
  at_hart : (P : ℕ → Type 0) (h : ℕ) → P hart → (h ≢ hart → P h) → P h
  at_hart P h this far = both (h == hart) (λ yes. subst P (sym (eqb-true h hart yes)) this)
      (λ off. far (λ same. both_ways (h == hart) off (eq-eqb h hart same)))

  module _ (of : old.monitor.worlds hart ≡ Host → host ≡ framed (old.control hart))
      (still_there : (other : ℕ) → other ≢ hart → new.monitor.worlds other ≡ old.monitor.worlds other) (csrs : new.csrs ≡ old.csrs) where
    host_stays : (h : ℕ) → host_control new h ≡ host_control old h
    host_stays h = at_hart (λ k. host_control new k ≡ host_control old k) h here.hosts
        (λ differ. ap (λ w. if is_host w then new.control h else new.hosts h) (still_there h differ)
        ∙ ap (λ x. if is_host (old.monitor.worlds h) then x else new.hosts h) (c.harts h differ)
        ∙ ap (λ x. if is_host (old.monitor.worlds h) then old.control h else x) (c.others h differ))

    control_stays : (h : ℕ) → new.monitor.worlds h ≡ old.monitor.worlds h → new.control h ≡ old.control h
    control_stays h = at_hart (λ k. new.monitor.worlds k ≡ old.monitor.worlds k → new.control k ≡ old.control k) h here.stays
        (λ differ same. c.harts h differ)

    own_after : HaveOwnControl old → HaveOwnControl new
    own_after owns h = subst (λ cs. (id : ℕ) → new.monitor.worlds h ≡ InEnclave id → IsOwn (cs h) (new.control h) (new.hosts h)) (sym csrs)
        (at_hart (λ k. (id : ℕ) → new.monitor.worlds k ≡ InEnclave id → IsOwn (old.csrs k) (new.control k) (new.hosts k)) h
        (here.own of (owns hart))
        (λ differ id is. subst (λ keeps. IsOwn (old.csrs h) (new.control h) keeps) (sym (c.others h differ))
        (subst (λ has. IsOwn (old.csrs h) has (old.hosts h)) (sym (c.harts h differ)) (owns h id (sym (still_there h differ) ∙ is)))))

pub control_kept :
    (old : Board) (trap : Trap) (frame read question answered : List ℕ) (new : Board) → new.monitor.table.layout.harts ≡ old.monitor.table.layout.harts
    → IsTable new.monitor.table → ArePlaced new.monitor → CanConfine (old.csrs trap.hart) → CanHold (old.csrs trap.hart) (host_control old trap.hart)
    → (x : TrapDuties old trap frame read question answered new) → KeepsTrap (saved old trap) trap x.changes read question answered new.monitor
    → KeepsControl old trap new × (HaveOwnControl old → HaveOwnControl new)
control_kept old trap frame read question answered new same sound places can legal x k =
    let hart = trap.hart in
    let given = given_at (saved old trap) new.monitor trap in
    let next : runner_by hart (word_at answered 2) ≡ runner_on new.monitor hart = next_is old trap frame read question answered new same sound places x k in
    let said : said_words answered ≡ given = says_words new.monitor given hart k.answer k.cleared k.woken k.lists x.changes answered
    (given_fits (old.monitor.worlds hart) (new.monitor.worlds hart) trap.host) k.says in
    let c : ChangesControl old hart (runner_on old.monitor hart) (runner_on new.monitor hart) given new =
    subst (λ words. ChangesControl old hart (runner_on old.monitor hart) (runner_on new.monitor hart) words new) said
    (subst (λ who. ChangesControl old hart (runner_on old.monitor hart) who (said_words answered) new) next x.control) in
    let one = served_here old trap frame read question answered new x in
    let enclave = λ (id other : ℕ) (was : old.monitor.worlds hart ≡ InEnclave id) (at : new.monitor.worlds hart ≡ InEnclave other).
    served_same trap.event (saved old trap) trap x.changes read question answered new.monitor id other one was at in (
      record {
        hosts = host_stays old new hart trap.host enclave c can legal x.host k.stays x.csrs;
        enters = λ id was is. (here old new hart trap.host enclave c can legal).enters id was is
            ∙ ap (λ h. held (old.csrs hart) (enclave_words h)) (x.host was);
        stays = control_stays old new hart trap.host enclave c can legal x.host k.stays x.csrs;
      },
      own_after old new hart trap.host enclave c can legal x.host k.stays x.csrs,
    )
