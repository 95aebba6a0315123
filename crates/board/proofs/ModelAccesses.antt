-- An access and a set register of the model, on a board that is as its state.
use Rattle.std.proofs.Common.{ℕ, ◌≡◌, ◌≢◌, ◌∙◌, inl, inr, ◌<◌, if◌then◌else◌, List, [], ◌∷◌, ◌++◌}
use Rattle.std.proofs.Common.{false, Result, Ok, Err, append-nil, refl, ap, sym, subst}
use Rattle.pmp_encoding.specs.Limits.{limit_number}
use Rattle.pmp_encoding.specs.Lists.{MeansList}
use Rattle.pmp_match.specs.Judgement.{Judges}
use Rattle.pmp_match.specs.declared.access.Access.{Access}
use Rattle.pmp_match.specs.declared.access.Kind.{Kind}
use Rattle.pmp_match.specs.declared.access.Kind.TheVariants.{Fetch, Load, Store}
use Rattle.pmp_match.specs.declared.access.Mode.TheVariants.{Machine}
use Rattle.pmp_match.specs.declared.cause.Cause.{Cause}
use Rattle.platforms.specs.Platform.{PlatformLayout}
use Rattle.sbi_decode.specs.Registers.{RegisterFile}
use Rattle.sbi_decode.specs.Runners.{runner_of}
use Rattle.enclave_table.specs.Views.{current_view}
use Rattle.monitor_core.specs.Changes.{with_running}
use Rattle.monitor_core.proofs.Put.{same_not}
use Rattle.hart_trace.specs.declared.event.Event.TheVariants as events
use Rattle.hart_trace.specs.declared.reply.Reply.{Reply}
use Rattle.hart_trace.specs.declared.reply.Reply.TheVariants as replies
use Rattle.hart_sim.specs.States.{MachineState, awoken, core_of, with_core}
use Rattle.hart_sim.specs.Steps.{Accesses, TakesEffect, verdict}
use Rattle.trap_server.specs.Firmware.{loaded_pairs}
use Rattle.board.specs.Board.{BoardEvent, BoardRun, DoesAccess, access, happened, memory_after, no_floats, put_by}
use Rattle.board.specs.Model.{IsSeen}
use Rattle.board.proofs.Judged.{judged}
use Rattle.board.proofs.OnBoards.{IsGood, Next, OnBoard, any_csrs, board_of}

module _ (layout : PlatformLayout) (opened : List ℕ) (seen : List BoardEvent) (s : MachineState) (hart : ℕ) (reply : Reply) (new : MachineState)
    (known : hart < s.table.layout.harts) (on : OnBoard layout opened seen s) (good : IsGood layout s on.registers on.marked on.loaded) where
  abbrev On : List BoardEvent → MachineState → Type 0
  On events that = OnBoard layout opened events that

  -- nothing was seen
  nothing : (that : MachineState) → On seen that → On (seen ++ []) that
  nothing that x = subst (λ events. On events that) (sym (append-nil seen)) x

  -- an access, with what the view says of it
  acts : (a : Access) (value : ℕ) (said : Result (Unit {0}) Cause) → a.mode ≢ Machine → said ≡ verdict (current_view s.table (s.worlds hart)) a
      → (memory : ℕ → ℕ) → memory ≡ memory_after said s.bytes a value
      → DoesAccess (board_of s on.registers on.marked on.lists on.loaded on.running on.control on.hosts) hart a value said
      (record (board_of s on.registers on.marked on.lists on.loaded on.running on.control on.hosts) { memory = memory })
  acts a value said below is memory same =
      let fewest = good.banks hart (subst (λ l. hart < l.harts) good.platform known) in
      record {
        up = record { known = known; started = refl };
        below = below;
        entries = fewest.entries;
        loaded = subst (λ l. MeansList (loaded_pairs (on.loaded hart) 0 (limit_number l.limit)) fewest.entries) (sym good.platform) fewest.list;
        judged = subst (Judges fewest.entries a) (sym is) (judged (current_view s.table (s.worlds hart)) fewest.entries a fewest.fewest.means below);
        memory = λ byte there. ap (λ m. m byte) same;
        state = refl;
      }

  -- an access that leaves this state, which differs in memory alone
  access_on : (a : Access) (value : ℕ) (said : Result (Unit {0}) Cause) → a.mode ≢ Machine → said ≡ verdict (current_view s.table (s.worlds hart)) a
      → (that : MachineState) → that.table ≡ s.table → that.worlds ≡ s.worlds → that.registers ≡ s.registers
      → that.bytes ≡ memory_after said s.bytes a value
      → On (seen ++ access hart a value said ∷ []) that
  access_on a value said below is that table worlds registers bytes =
      let put = record (board_of s on.registers on.marked on.lists on.loaded on.running on.control on.hosts) { memory = that.bytes } in
      let same : put ≡ board_of that on.registers on.marked on.lists on.loaded on.running on.control on.hosts = λ i. record {
        monitor = record { table = sym table i; worlds = sym worlds i; registers = on.registers; marked = on.marked };
        memory = that.bytes;
        lists = on.lists;
        loaded = on.loaded;
        parked = λ hart. false;
        running = on.running;
        floats = λ hart. no_floats;
        kept = λ who. no_floats;
        control = on.control;
        hosts = on.hosts;
        csrs = λ hart. any_csrs;
      } in
      record {
        registers = on.registers;
        marked = on.marked;
        lists = on.lists;
        loaded = on.loaded;
        running = on.running;
        control = on.control;
        hosts = on.hosts;
        runs = subst (BoardRun layout opened (seen ++ access hart a value said ∷ [])) same
            (happened on.runs (access hart a value said) (acts a value said below is that.bytes bytes));
        waits = λ who off.
            on.waits who (λ h low. subst (λ w. who ≢ runner_of h (w h)) worlds (off h (subst (λ t. h < t.layout.harts) (sym table) low)))
            ∙ sym (ap (λ r. r who) registers);
      }

  takes : (a : Access) (value : ℕ) (kind : Kind) → a.kind ≡ kind → a.mode ≢ Machine → Ok tt ≡ verdict (current_view s.table (s.worlds hart)) a
      → TakesEffect kind (awoken s hart) a value reply new → Next layout opened seen (events.Access a value) s hart reply new
  takes a value Fetch kind below is x = record {
    now = access hart a value (Ok tt) ∷ [];
    is_seen = subst (λ r. IsSeen (events.Access a value) s hart r (access hart a value (Ok tt) ∷ [])) (sym x.0) refl;
    on = access_on a value (Ok tt) below is new (ap (λ n. n.table) x.1) (ap (λ n. n.worlds) x.1) (ap (λ n. n.registers) x.1)
        (ap (λ n. n.bytes) x.1 ∙ ap (λ k. put_by k s.bytes a value) (sym kind));
  }
  takes a value Load kind below is x = record {
    now = access hart a value (Ok tt) ∷ [];
    is_seen = subst (λ r. IsSeen (events.Access a value) s hart r (access hart a value (Ok tt) ∷ [])) (sym x.0) refl;
    on = access_on a value (Ok tt) below is new (ap (λ n. n.table) x.1) (ap (λ n. n.worlds) x.1) (ap (λ n. n.registers) x.1)
        (ap (λ n. n.bytes) x.1 ∙ ap (λ k. put_by k s.bytes a value) (sym kind));
  }
  takes a value Store kind below is (inl x) = record {
    now = access hart a value (Ok tt) ∷ [];
    is_seen = subst (λ r. IsSeen (events.Access a value) s hart r (access hart a value (Ok tt) ∷ [])) (sym x.0) refl;
    on = access_on a value (Ok tt) below is new (ap (λ n. n.table) x.1) (ap (λ n. n.worlds) x.1) (ap (λ n. n.registers) x.1)
        (ap (λ n. n.bytes) x.1 ∙ ap (λ k. put_by k s.bytes a value) (sym kind));
  }
  takes a value Store kind below is (inr x) = record {
    now = [];
    is_seen = subst (λ r. IsSeen (events.Access a value) s hart r []) (sym x.0) refl;
    on = subst (On (seen ++ [])) (sym x.2) (nothing (awoken s hart) (record {
      registers = on.registers;
      marked = on.marked;
      lists = on.lists;
      loaded = on.loaded;
      running = on.running;
      control = on.control;
      hosts = on.hosts;
      runs = on.runs;
      waits = on.waits;
    }));
  }

  pub access_next : (a : Access) (value : ℕ) (said : Result (Unit {0}) Cause) → a.mode ≢ Machine → said ≡ verdict (current_view s.table (s.worlds hart)) a
      → Accesses said (awoken s hart) a value reply new → Next layout opened seen (events.Access a value) s hart reply new
  access_next a value (Err cause) below is x = record {
    now = access hart a value (Err cause) ∷ [];
    is_seen = subst (λ r. IsSeen (events.Access a value) s hart r (access hart a value (Err cause) ∷ [])) (sym x.0) refl;
    on = access_on a value (Err cause) below is new (ap (λ n. n.table) x.1) (ap (λ n. n.worlds) x.1) (ap (λ n. n.registers) x.1) (ap (λ n. n.bytes) x.1);
  }
  access_next a value (Ok done) below is x = takes a value a.kind refl below is x

  -- a register is set of who runs, and of nobody who waits
  pub reg_next : (n value : ℕ) (file : RegisterFile)
      → (reply ≡ replies.Done) × (new ≡ with_core (awoken s hart) (with_running (core_of (awoken s hart)) hart file))
      → Next layout opened seen (events.Reg n value) s hart reply new
  reg_next n value file x = record {
    now = [];
    is_seen = refl;
    on = subst (On (seen ++ [])) (sym x.1) (nothing (with_core (awoken s hart) (with_running (core_of (awoken s hart)) hart file)) (record {
      registers = on.registers;
      marked = on.marked;
      lists = on.lists;
      loaded = on.loaded;
      running = on.running;
      control = on.control;
      hosts = on.hosts;
      runs = on.runs;
      waits = λ who off.
          on.waits who off
          ∙ sym (ap (λ b. if b then file else s.registers who) (same_not who (runner_of hart (s.worlds hart)) (off hart known)));
    }));
  }
