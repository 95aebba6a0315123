-- Each run of the model is a run of a board, by induction over its events.
use Rattle.std.proofs.Common.{◌≡◌, inl, inr, ℕ, ◌<◌, false, List, [], ◌∷◌, ◌++◌, drop, length, Result, Ok, Err, refl, ap, sym, subst}
use Rattle.pmp_match.specs.declared.access.Access.{Access}
use Rattle.pmp_match.specs.declared.access.Kind.{Kind}
use Rattle.pmp_match.specs.declared.access.Kind.TheVariants.{Fetch, Load, Store}
use Rattle.pmp_match.specs.declared.cause.Cause.{Cause}
use Rattle.platforms.specs.Platform.{IsLayout, PlatformLayout}
use Rattle.sbi_decode.specs.Registers.{with_x, zeros}
use Rattle.sbi_decode.specs.Runners.{runner_of}
use Rattle.sbi_decode.specs.declared.world.World.TheVariants.{Host}
use Rattle.enclave_table.specs.Boot.{opening_table}
use Rattle.enclave_table.specs.Views.{current_view}
use Rattle.enclave_table.proofs.SameViews.{needs_of}
use Rattle.monitor_core.proofs.Currents.{none_live}
use Rattle.hart_trace.specs.declared.event.Event.{Event}
use Rattle.hart_trace.specs.declared.event.Event.TheVariants as events
use Rattle.hart_trace.specs.declared.reply.Reply.{Reply}
use Rattle.hart_sim.specs.Changes.{with_words}
use Rattle.hart_sim.specs.States.{MachineState, awoken, opening_state}
use Rattle.hart_sim.specs.Steps.{Accesses, DoesEvent, IsEvent, Run, TakesEffect, step, still, verdict}
use Rattle.trap_server.specs.Boot.{IsFirstAnswer}
use Rattle.board.specs.Board.{BoardEvent, booted}
use Rattle.board.specs.Model.{AreSeen, RunsOnBoard}
use Rattle.board.proofs.Boards.{BoardHolds}
use Rattle.board.proofs.ModelAccesses.{access_next, reg_next}
use Rattle.board.proofs.ModelTraps.{call_next, irq_next, stop_next, trap_next}
use Rattle.board.proofs.OnBoards.{IsGood, Next, OnBoard, any_confine, board_of, no_words}
use Rattle.board.proofs.Rooms.{AllFit}

-- an access leaves the table
took_table : (kind : Kind) (s : MachineState) (a : Access) (value : ℕ) (reply : Reply) (new : MachineState) → TakesEffect kind s a value reply new
    → new.table ≡ s.table
took_table Fetch s a value reply new x = ap (λ n. n.table) x.1
took_table Load s a value reply new x = ap (λ n. n.table) x.1
took_table Store s a value reply new (inl x) = ap (λ n. n.table) x.1
took_table Store s a value reply new (inr x) = ap (λ n. n.table) x.2

access_table : (said : Result (Unit {0}) Cause) (s : MachineState) (a : Access) (value : ℕ) (reply : Reply) (new : MachineState)
    → Accesses said s a value reply new → new.table ≡ s.table
access_table (Err cause) s a value reply new x = ap (λ n. n.table) x.1
access_table (Ok done) s a value reply new x = took_table a.kind s a value reply new x

module _ (law : BoardHolds) (layout : PlatformLayout) (opened : List ℕ) (rules : IsLayout layout) (answer : IsFirstAnswer layout opened) where
  good_of : (seen : List BoardEvent) (s : MachineState) (on : OnBoard layout opened seen s) → IsGood layout s on.registers on.marked on.loaded
  good_of seen s on =
      let h = law layout opened seen (board_of s on.registers on.marked on.lists on.loaded on.running on.control on.hosts) on.runs rules answer
      (λ hart. any_confine) in
      record { table = h.table; platform = h.platform; worlds = h.worlds; awake = h.awake; banks = λ hart low. h.banks hart low refl }

  by_event : (seen : List BoardEvent) (s : MachineState) (hart : ℕ) (event : Event) (reply : Reply) (new : MachineState) → hart < s.table.layout.harts
      → IsEvent event → DoesEvent event (awoken s hart) hart reply new → OnBoard layout opened seen s → AllFit s.table
      → Next layout opened seen event s hart reply new × AllFit new.table
  by_event seen s hart (events.Access a value) reply new known may x on fit =
      let said = verdict (current_view s.table (s.worlds hart)) a in (
        access_next layout opened seen s hart reply new known on (good_of seen s on) a value said may refl x,
        subst AllFit (sym (access_table said (awoken s hart) a value reply new x)) fit,
      )
  by_event seen s hart (events.Reg n value) reply new known may x on fit = (
    reg_next layout opened seen s hart reply new known on (good_of seen s on) n value
        (with_x (s.registers (runner_of hart (s.worlds hart))) n value) x,
    subst AllFit (sym (ap (λ n. n.table) x.1)) fit,
  )
  by_event seen s hart (events.Ecall words) reply new known may x on fit =
      let file = with_words (s.registers (runner_of hart (s.worlds hart))) (17
      ∷ (16 ∷ (10 ∷ (11 ∷ (12 ∷ (13 ∷ (14 ∷ (15 ∷ [])))))))) words.items in
      let good = good_of seen s on in
      let call = call_next layout opened seen s hart reply new known on good file fit x in
      let t = trap_next layout opened seen s hart reply new known on good file words.items refl call.0 call.2 in
      (record { now = t.0; is_seen = t.1; on = t.2 }, call.1)
  by_event seen s hart events.Irq reply new known may x on fit =
      let good = good_of seen s on in
      let irq = irq_next layout opened seen s hart reply new known on good fit x in
      (stop_next layout opened seen s hart reply new known on good irq.0 irq.2, irq.1)

  record Reached {events : List (ℕ × Event)} {replies : List Reply} {s : MachineState} (run : Run (opening_state layout) events replies s) : Type 0 where
    seen : List BoardEvent
    each : AreSeen run seen
    on : OnBoard layout opened seen s
    fits : AllFit s.table

  reached : (events : List (ℕ × Event)) (replies : List Reply) (s : MachineState) (run : Run (opening_state layout) events replies s) → Reached run
  reached _ _ _ still = record {
    seen = [];
    each = refl;
    on = record {
      registers = λ who. zeros;
      marked = λ hart. false;
      lists = λ world. drop 184 opened;
      loaded = λ hart. drop 184 opened;
      running = λ hart. zeros;
      control = λ hart. no_words;
      hosts = λ hart. no_words;
      runs = booted (board_of (opening_state layout) (λ who. zeros) (λ hart. false) (λ world. drop 184 opened) (λ hart. drop 184 opened) (λ hart. zeros)
          (λ hart. no_words) (λ hart. no_words)) (record {
            monitor = refl;
            lists = λ world. refl;
            loaded = λ hart up. refl;
            control = λ hart. refl;
          });
      waits = λ who off. refl;
    };
    fits = record {
      host = let list = answer.puts.lists in (length list.0, needs_of (current_view (opening_table layout) Host) list.0 list.1.fewest, list.1.room);
      each = λ id e live. absurd (none_live layout id e live);
    };
  }
  reached _ _ _ (step {events = events} {replies = replies} {mid = mid} {new = new} run hart event reply known may does) =
      let before = reached events replies mid run in
      let next = by_event before.seen mid hart event reply new known may does before.on before.fits in
      record {
        seen = before.seen ++ next.0.now;
        each = (before.seen, next.0.now, before.each, next.0.is_seen, refl);
        on = next.0.on;
        fits = next.1;
      }

  pub runs_on_board : (events : List (ℕ × Event)) (replies : List Reply) (s : MachineState) (run : Run (opening_state layout) events replies s)
      → RunsOnBoard layout opened run
  runs_on_board events replies s run =
      let r = reached events replies s run in
      record {
        seen = r.seen;
        board = board_of s r.on.registers r.on.marked r.on.lists r.on.loaded r.on.running r.on.control r.on.hosts;
        each = r.each;
        runs = r.on.runs;
        is_as = record { table = refl; worlds = refl; memory = refl; registers = r.on.waits };
      }
