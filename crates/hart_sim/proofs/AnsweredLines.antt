-- What comes of a line whose event happened.
use Rattle.std.proofs.Common.{◌≡◌, ◌≢◌, ℕ, ◌+◌, ◌<◌, ◌++◌, List, Bool, true, false, Some, Result, Ok, Err, decimal}
use Rattle.std.specs.Prelude.{IfOk, IfErr}
use Rattle.text_lines.specs.declared.line_loop.LineRefusal.{LineRefusal}
use Rattle.text_lines.specs.declared.line_loop.LineRefusal.TheVariants.{Memory, NotUnderstood}
use Rattle.text_lines.specs.LineLoop.{IsLineResult}
use Rattle.hart_trace.specs.declared.event.Event.{Event}
use Rattle.hart_trace.specs.Events.{meaning_of}
use Rattle.hart_trace.specs.declared.reply.Reply.{Reply}
use Rattle.hart_trace.specs.declared.reply.Reply.TheVariants.{NoMemory}
use Rattle.hart_trace.specs.Texts.{reply_text}
use Rattle.hart_sim.specs.declared.machine.Machine.{Machine}
use Rattle.hart_sim.specs.After.{Happens}
use Rattle.hart_sim.specs.Machines.{state_of}
use Rattle.hart_sim.specs.Reports.{DoesLine, RefusesLine, StarvesLine}
use Rattle.hart_sim.specs.Steps.{IsEvent}
use Rattle.hart_sim.proofs.KnownEvents.{line_known}

-- the event has a reply, of which what stands behind its number was written
abbrev pub Replied : Machine → ℕ → Event → Machine → List ℕ → Type 0
Replied old hart event new behind = (reply : Reply) × Happens old hart event reply new × (reply ≢ NoMemory)
    × ((n : ℕ) → decimal n ++ behind ≡ reply_text n reply)

pub comes :
    (old new : Machine) (harts hart count : ℕ) (line behind : List ℕ) (event : Event) (r : Result Bool LineRefusal) → harts ≡ (state_of old).table.layout.harts
    → meaning_of harts line ≡ Some (Some (hart, event))
    → IfOk r (λ answered. answered ≡ true) → IfOk r (λ _. Replied old hart event new behind) → IfErr r (λ refusal. refusal ≡ Memory)
    → IfErr r (λ _. Happens old hart event NoMemory new)
    → IsLineResult DoesLine RefusesLine StarvesLine old count line r behind new
comes old new harts hart count line behind event (Ok true) is said answered done refused starved =
    (hart, event, done.0, rw is at said, done.1, done.2, done.3 (count + 1))
comes old new harts hart count line behind event (Ok false) is said answered done refused starved = absurd (let h : false ≡ true = answered in cc)
comes old new harts hart count line behind event (Err Memory) is said answered done refused starved = (hart, event, rw is at said, starved)
comes old new harts hart count line behind event (Err NotUnderstood) is said answered done refused starved = absurd
    (let h : NotUnderstood ≡ Memory = refused in cc)

-- the hart of a line is one of the machine's, and its event may happen
pub known : (old : Machine) (harts hart : ℕ) (line : List ℕ) (event : Event) → harts ≡ (state_of old).table.layout.harts → 0 < harts
    → meaning_of harts line ≡ Some (Some (hart, event)) → (hart < (state_of old).table.layout.harts) × IsEvent event
known old harts hart line event is some said = let both = line_known harts line hart event some said in (rw is at both.0, both.1)
