-- A call and an interrupt of the model, on a board that is as its state.
use Rattle.std.proofs.Common.{ℕ, ◌≡◌, ◌∙◌, ◌+◌, ◌<◌, ◌≤◌, ◌^◌, ◌==◌, if◌then◌else◌, List, [], ◌∷◌, ◌++◌}
use Rattle.std.proofs.Common.{Option, Some, None, IfSome, refl, ap, sym, subst}
use Rattle.std.proofs.lemmas.Bool.{both_ways, eq-eqb, eqb-true}
use Rattle.pmp_encoding.specs.declared.pages.PageRange.{PageRange}
use Rattle.platforms.specs.Platform.{PlatformLayout}
use Rattle.sbi_decode.specs.Calls.{call_of}
use Rattle.sbi_decode.specs.Registers.{RegisterFile}
use Rattle.sbi_decode.specs.Runners.{runner_of}
use Rattle.enclave_table.specs.Enclaves.{Live}
use Rattle.enclave_table.specs.declared.enclave.Enclave.{Enclave}
use Rattle.monitor_core.specs.Answers.{world_number}
use Rattle.monitor_core.specs.Changes.{is_same, past_call, with_running}
use Rattle.monitor_core.specs.Frames.{ClearsMemory}
use Rattle.monitor_core.specs.Measured.{asked_in}
use Rattle.monitor_core.specs.States.{MonitorState, running_registers}
use Rattle.monitor_core.specs.Steps.{DoesCall, Interrupts}
use Rattle.monitor_core.proofs.Cases.{both}
use Rattle.monitor_core.proofs.Cleared.{call_clears_memory}
use Rattle.monitor_core.proofs.Layouts.{call_keeps_layout, interrupt_keeps_layout}
use Rattle.monitor_core.proofs.Put.{put_there, same_self}
use Rattle.monitor_core.specs.SetChanges.{changed, owner_of}
use Rattle.trap_server.specs.Sets.{with_sets}
use Rattle.trap_server.proofs.Bare.{answer_with}
use Rattle.monitor_core.proofs.SoundTables.{call_keeps_table}
use Rattle.hart_trace.specs.declared.event.Event.TheVariants as events
use Rattle.hart_trace.specs.declared.reply.Reply.{Reply}
use Rattle.hart_trace.specs.declared.reply.Reply.TheVariants as replies
use Rattle.hart_sim.specs.Changes.{calling}
use Rattle.hart_sim.specs.Memory.{measured_in}
use Rattle.hart_sim.specs.Replies.{RepliesWith}
use Rattle.hart_sim.specs.States.{MachineState, awoken, core_of, with_core}
use Rattle.hart_sim.specs.Steps.{Serves}
use Rattle.trap_server.specs.Answered.{marks_of, new_lists, no_answer}
use Rattle.trap_server.specs.Service.{given_at}
use Rattle.trap_server.specs.declared.answer.NewLists.TheVariants as lists
use Rattle.trap_server.specs.declared.trap.TrapEvent.TheVariants as traps
use Rattle.trap_server.proofs.ListsKept.{made_by_lists}
use Rattle.trap_server.proofs.Remeasured.{call_remeasured}
use Rattle.board.specs.Board.{BoardEvent, computed, framed, no_floats, trapped}
use Rattle.board.specs.Model.{IsOneTrap, SaysReply}
use Rattle.board.proofs.Asked.{asks, frames_of_memory}
use Rattle.board.proofs.Follows.{Follows, IsElsewhere, call_follows, digest_by, irq_follows, owner_current}
use Rattle.board.proofs.Rooms.{AllFit, call_fits, irq_fits, lists_fit}
use Rattle.board.proofs.Runners.{same_is}
use Rattle.board.proofs.Runners.{alone as alone_on}
use Rattle.board.proofs.TrapFrames.{trap_frame}
use Rattle.board.proofs.OnBoards.{IsGood, Next, OnBoard, Waits, monitor_of}
use Rattle.board.proofs.TrapsOn.{TrapLeaves, clears, found, trap_at, trap_seen}

module _ (layout : PlatformLayout) (opened : List ℕ) (seen : List BoardEvent) (s : MachineState) (hart : ℕ) (reply : Reply) (new : MachineState)
    (known : hart < s.table.layout.harts) (on : OnBoard layout opened seen s) (good : IsGood layout s on.registers on.marked on.loaded) where
  -- who runs on the hart runs on no other
  alone : IsElsewhere s.table.layout.harts s.worlds hart (runner_of hart (s.worlds hart))
  alone other low differ = alone_on (monitor_of s on.registers on.marked) hart other good.worlds known low differ

  -- who runs on the hart has a set
  own : owner_of hart (world_number (s.worlds hart)) ≡ runner_of hart (s.worlds hart)
  own = owner_current s.table hart (s.worlds hart) (good.worlds.current hart known)

  -- the same registers of all that run on no other hart, once those of the hart were put there and went past the call
  put_follows : (file : RegisterFile) → Follows s.table.layout.harts hart (with_running (core_of (awoken s hart)) hart (past_call file))
      (with_running (with_running (monitor_of s on.registers on.marked) hart file) hart
      (past_call (running_registers (with_running (monitor_of s on.registers on.marked) hart file) hart)))
  put_follows file = record {
    table = refl;
    worlds = refl;
    registers = λ who off.
        let runs = runner_of hart (s.worlds hart) in
        let there = with_running (monitor_of s on.registers on.marked) hart file in
        let past = past_call (running_registers there hart) in
        both (is_same who runs)
        (λ yes. ap (λ b. if b then past else there.registers who) yes ∙ ap past_call (put_there (monitor_of s on.registers on.marked) hart file)
        ∙ sym (ap (λ b. if b then past_call file else s.registers who) yes))
        (λ no.
        let waits : Waits s who = λ h low is. both (h == hart)
        (λ here.
        let same : h ≡ hart = eqb-true h hart here in
        let mine : who ≡ runs = is ∙ ap (λ (n : ℕ). runner_of n (s.worlds n)) same in
        both_ways (is_same who runs) no (ap (λ w. is_same w runs) mine ∙ same_self runs))
        (λ elsewhere. off h low (λ same. both_ways (h == hart) elsewhere (eq-eqb h hart same)) is) in
        ap (λ b. if b then past else there.registers who) no ∙ ap (λ b. if b then file else on.registers who) no ∙ on.waits who waits
        ∙ sym (ap (λ b. if b then past_call file else s.registers who) no));
  }

  -- a call
  pub call_next : (file : RegisterFile) → AllFit s.table
      → Serves (DoesCall (call_of (past_call file)) (measured_in s.bytes) (with_running (core_of (awoken s hart)) hart (past_call file)) hart) (awoken s hart)
      hart reply new
      → (x : TrapLeaves layout opened seen traps.Call s new hart file on) × AllFit new.table
      × (reply ≡ replies.Call x.answer.status x.answer.value (world_number (new.worlds hart)) x.used)
  call_next file fit x =
      let call = call_of (past_call file) in
      let gone = past_call file in
      let digests = measured_in s.bytes in
      let old = with_running (core_of (awoken s hart)) hart gone in
      let base = monitor_of s on.registers on.marked in
      let sets = found layout opened seen s hart file on in
      let now = with_running (with_running base hart file) hart (past_call (running_registers (with_running base hart file) hart)) in
      let answer = x.0 in
      let pages = x.1 in
      let core = x.2 in
      let does = x.3 in
      let is = x.4 in
      let f = call_follows digests s.table s.worlds old.registers sets old.marked on.marked s.table.layout.harts hart answer pages core own call alone
      (put_follows file) does in
      let mid = f.0 in
      let changes = f.1 in
      let here = with_sets mid (changed hart changes sets) in
      let layout_is : new.table.layout ≡ s.table.layout = ap (λ n. n.table.layout) is ∙ call_keeps_layout call digests old hart answer pages core does in
      let table : new.table ≡ mid.table = ap (λ n. n.table) is ∙ sym f.3.table in
      let worlds : new.worlds ≡ mid.worlds = ap (λ n. n.worlds) is ∙ sym f.3.worlds in
      let new_fit : AllFit new.table = subst AllFit (sym (ap (λ n. n.table) is)) (call_fits call digests old hart answer pages core good.table does fit) in
      let a = asks (asked_in call) answer s.bytes in
      let which = new_lists (asked_in call) answer pages in
      let made : which ≡ lists.HostAndMade → (e : Enclave) × Live new.table answer.value e = λ is.
      let m = made_by_lists (asked_in call) answer pages is in
      let r = call_remeasured call (digest_by digests (asked_in call)) now hart answer pages here m.0
      (call_keeps_table call (λ parts. digest_by digests (asked_in call)) now hart answer pages here (f.2 sets) good.table) (f.2 sets) m.1 in
      (r.0, subst (λ t. Live t answer.value r.0) (sym table) r.1) in
      let l = lists_fit which new.table answer.value new_fit made in (
        record {
          answer = answer;
          cleared = pages;
          mid = mid;
          changes = changes;
          read = a.1;
          question = a.0;
          used = x.5.0;
          which = which;
          are = l.0;
          table = table;
          worlds = worlds;
          bytes = λ byte. ap (λ n. n.bytes byte) is ∙ clears pages s.bytes byte;
          inside = in_space pages (call_clears_memory call digests old hart answer pages core good.table does);
          waits = λ who off.
              f.3.registers who (λ other under differ is_there.
              off other (subst (λ l. other < l.harts) (sym layout_is) under)
              (is_there ∙ ap (λ w. runner_of other (w other)) (sym (ap (λ n. n.worlds) is))))
              ∙ sym (ap (λ n. n.registers who) is);
          needs = x.5.1;
          lists = l.1;
          reads = a.3;
          serves = λ answered that same goes_on all there.
              let after = changed hart changes all in
              let any = with_sets base all in
              let trap = trap_at layout opened seen traps.Call s hart file on in
              let past = past_call (running_registers any hart) in
              record {
                digest = digest_by digests (asked_in call);
                answer = answer;
                answers = record {
                  cleared = pages;
                  mid = with_sets mid after;
                  step = subst (λ c. DoesCall c (λ parts. digest_by digests (asked_in call)) (with_running any hart past) hart answer pages
                      (with_sets mid after)) (sym there) (f.2 all);
                  woken = same after;
                  goes_on = answer_with that after (given_at base that trap) hart answer pages (marks_of mid) which changes answered goes_on;
                };
                asks = a.2;
              };
        },
        new_fit,
        x.5.2,
      )
    where
      in_space : (cleared : Option PageRange) → IfSome cleared (λ range. ClearsMemory s.table.layout range)
          → IfSome cleared (λ range. range.first + range.count ≤ 2 ^ 44)
      in_space None d = tt
      in_space (Some range) d = d.inside

  -- the registers of who runs on the hart
  abbrev pub running : RegisterFile
  running = running_registers (core_of s) hart

  -- where those are put there the same are everywhere but on other harts
  own_follows : Follows s.table.layout.harts hart (core_of (awoken s hart)) (with_running (monitor_of s on.registers on.marked) hart running)
  own_follows = record {
    table = refl;
    worlds = refl;
    registers = λ who off.
        let runs = runner_of hart (s.worlds hart) in
        both (is_same who runs)
        (λ yes. ap (λ b. if b then running else on.registers who) yes ∙ sym (ap s.registers (same_is who runs yes)))
        (λ no.
        let waits : Waits s who = λ h low is. both (h == hart)
        (λ here.
        let same : h ≡ hart = eqb-true h hart here in
        let own : who ≡ runs = is ∙ ap (λ (n : ℕ). runner_of n (s.worlds n)) same in
        both_ways (is_same who runs) no (ap (λ w. is_same w runs) own ∙ same_self runs))
        (λ there. off h low (λ same. both_ways (h == hart) there (eq-eqb h hart same)) is) in
        ap (λ b. if b then running else on.registers who) no ∙ on.waits who waits);
  }

  -- an interrupt
  pub irq_next : AllFit s.table
      → (core : MonitorState) × Interrupts (s.worlds hart) (core_of (awoken s hart)) hart core × (new ≡ with_core (awoken s hart) core)
      × RepliesWith replies.Irq new hart reply
      → (x : TrapLeaves layout opened seen traps.Stop s new hart running on) × AllFit new.table
      × (reply ≡ replies.Irq (world_number (new.worlds hart)) x.used)
  irq_next fit x =
      let old = core_of (awoken s hart) in
      let base = monitor_of s on.registers on.marked in
      let now = with_running base hart running in
      let world = s.worlds hart in
      let core = x.0 in
      let does = x.1 in
      let is = x.2 in
      let f = irq_follows (measured_in s.bytes) s.table s.worlds old.registers now.registers old.marked on.marked s.table.layout.harts hart no_answer None core
      own world own_follows does in
      let mid = f.0 in
      let layout_is : new.table.layout ≡ s.table.layout = ap (λ n. n.table.layout) is ∙ interrupt_keeps_layout world old hart core does in
      let table : new.table ≡ mid.table = ap (λ n. n.table) is ∙ sym f.3.table in
      let worlds : new.worlds ≡ mid.worlds = ap (λ n. n.worlds) is ∙ sym f.3.worlds in
      let new_fit : AllFit new.table = subst AllFit (sym (ap (λ n. n.table) is)) (irq_fits world old hart core does fit) in (
        record {
          answer = no_answer;
          cleared = None;
          mid = mid;
          changes = f.1;
          read = [];
          question = [];
          used = x.3.0;
          which = lists.Nothing;
          are = [];
          table = table;
          worlds = worlds;
          bytes = λ byte. ap (λ n. n.bytes byte) is ∙ clears None s.bytes byte;
          inside = tt;
          waits = λ who off.
              f.3.registers who (λ other under differ is_there.
              off other (subst (λ l. other < l.harts) (sym layout_is) under)
              (is_there ∙ ap (λ w. runner_of other (w other)) (sym (ap (λ n. n.worlds) is))))
              ∙ sym (ap (λ n. n.registers who) is);
          needs = x.3.1;
          lists = refl;
          reads = frames_of_memory s.bytes 0 0;
          serves = λ answered that same goes_on all there.
              let after = changed hart f.1 all in
              let trap = trap_at layout opened seen traps.Stop s hart running on in
              record {
                mid = with_sets mid after;
                nothing_asked = refl;
                nothing_read = refl;
                step = f.2 all;
                woken = same after;
                goes_on = answer_with that after (given_at base that trap) hart no_answer None (marks_of mid) lists.Nothing f.1 answered goes_on;
              };
        },
        new_fit,
        x.3.2,
      )

  -- what is seen of a call
  pub trap_next : (file : RegisterFile) (words : List ℕ) → past_call file ≡ calling s hart words
      → (x : TrapLeaves layout opened seen traps.Call s new hart file on)
      → reply ≡ replies.Call x.answer.status x.answer.value (world_number (new.worlds hart)) x.used
      → (now : List BoardEvent) × IsOneTrap traps.Call hart (λ file. past_call file ≡ calling s hart words) reply now × OnBoard layout opened (seen ++ now) new
  trap_next file words came x replied =
      let t = trap_seen layout opened seen traps.Call s new hart file on known x in (
        computed hart file no_floats
            ∷ (trapped (trap_at layout opened seen traps.Call s hart file on) (trap_frame traps.Call hart file (framed (on.control hart))) x.read x.question t.0
            ∷ []),
        record {
          trap = trap_at layout opened seen traps.Call s hart file on;
          frame = trap_frame traps.Call hart file (framed (on.control hart));
          read = x.read;
          question = x.question;
          answered = t.0;
          event = refl;
          hart_is = refl;
          came = came;
          says = subst (SaysReply t.0) (sym replied) (t.2.status_is, t.2.value_is, t.2.world_is, t.2.used_is);
          one = refl;
        },
        t.1,
      )

  -- what is seen of an interrupt
  pub stop_next : (x : TrapLeaves layout opened seen traps.Stop s new hart running on)
      → reply ≡ replies.Irq (world_number (new.worlds hart)) x.used → Next layout opened seen events.Irq s hart reply new
  stop_next x replied =
      let t = trap_seen layout opened seen traps.Stop s new hart running on known x in
      record {
        now = computed hart running no_floats
            ∷ (trapped (trap_at layout opened seen traps.Stop s hart running on) (trap_frame traps.Stop hart running (framed (on.control hart)))
            x.read x.question t.0 ∷ []);
        is_seen = record {
          trap = trap_at layout opened seen traps.Stop s hart running on;
          frame = trap_frame traps.Stop hart running (framed (on.control hart));
          read = x.read;
          question = x.question;
          answered = t.0;
          event = refl;
          hart_is = refl;
          came = refl;
          says = subst (SaysReply t.0) (sym replied) (t.2.world_is, t.2.used_is);
          one = refl;
        };
        on = t.1;
      }
