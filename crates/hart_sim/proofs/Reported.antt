-- The lines that were done are a run of the events that they say, and what was written tells its replies.
use Rattle.std.proofs.Common.{◌≡◌, ◌≢◌, ◌⊎◌, ◌∙◌, inl, inr, ℕ, suc, ◌+◌, ◌==◌, List, [], ◌∷◌, ◌++◌, length, Some, None, refl, ap, sym, subst, arith}
use Rattle.std.proofs.Common.{length-append, append_assoc, append-nil}
use Rattle.std.specs.List.{concat}
use Rattle.hart_trace.specs.declared.event.Event.{Event}
use Rattle.hart_trace.specs.Events.{meaning_of}
use Rattle.text_lines.specs.Lines.{without_return}
use Rattle.text_lines.specs.LineLoop.{Does}
use Rattle.text_lines.specs.LineLoop as loop
use Rattle.hart_sim.specs.declared.machine.Machine.{Machine}
use Rattle.hart_trace.specs.declared.reply.Reply.{Reply}
use Rattle.hart_trace.specs.declared.reply.Reply.TheVariants.{NoMemory}
use Rattle.hart_sim.specs.Machines.{state_of, bank_on}
use Rattle.hart_sim.specs.Steps.{Run, still, step}
use Rattle.hart_trace.specs.Texts.{reply_text, lines_from, report_text}
use Rattle.platforms.specs.Platform.{PlatformLayout}
use Rattle.hart_sim.specs.After.{After, AreElsewhere, happened, Happens}
use Rattle.hart_sim.specs.Reports.{DoesLine, none, blank, one, AreAnswered, LastOwn, Report, IsReported}
use Rattle.hart_sim.proofs.Layouts.{layout_stays}
use Rattle.hart_sim.proofs.LeftBanks.{elsewhere-snoc, meant_then}
use Rattle.monitor_core.proofs.Cases.{both}
use Rattle.std.proofs.lemmas.Bool.{eq-eqb, eqb-true, both_ways}

-- how many harts a line may name
abbrev pub harts_of : Machine → ℕ
harts_of machine = (state_of machine).table.layout.harts

-- one reply more
lines_from-snoc : (n : ℕ) (replies : List Reply) (reply : Reply) → lines_from n (replies ++ reply ∷ []) ≡ lines_from n replies ++ reply_text
    (n + length replies) reply
lines_from-snoc n [] reply =
    let e : n ≡ n + 0 = omega arith in append-nil (reply_text n reply) ∙ ap (λ k. reply_text k reply) e
lines_from-snoc n (first ∷ replies) reply =
    let e : n + 1 + length replies ≡ n + suc (length replies) = omega arith in
    ap (λ xs. reply_text n first ++ xs) (lines_from-snoc (n + 1) replies reply ∙ ap (λ k. lines_from (n + 1) replies ++ reply_text k reply) e)
    ∙ sym (append_assoc (reply_text n first) (lines_from (n + 1) replies) (reply_text (n + suc (length replies)) reply))

answered-snoc : (replies : List Reply) (reply : Reply) → AreAnswered replies → reply ≢ NoMemory → AreAnswered (replies ++ reply ∷ [])
answered-snoc [] reply h a = (a, tt)
answered-snoc (first ∷ replies) reply h a = (h.0, answered-snoc replies reply h.1 a)

elsewhere_parts : (hart : ℕ) (events : List (ℕ × Event)) (there : ℕ) (event : Event) → AreElsewhere hart (events ++ (there, event) ∷ [])
    → AreElsewhere hart events × (hart ≢ there)
elsewhere_parts hart [] there event e = (tt, e.0)
elsewhere_parts hart (first ∷ events) there event e = let p = elsewhere_parts hart events there event e.1 in ((e.0, p.0), p.1)

concat-snoc : (answers : List (List ℕ)) (text : List ℕ) → concat (answers ++ text ∷ []) ≡ concat answers ++ text
concat-snoc [] text = append-nil text
concat-snoc (first ∷ answers) text = ap (λ xs. first ++ xs) (concat-snoc answers text) ∙ sym (append_assoc first (concat answers) text)

-- one event more, on another hart
last_further : (old mid new : Machine) (hart : ℕ) (events : List (ℕ × Event)) (replies : List Reply) (there : ℕ) (event : Event) (reply : Reply) → hart ≢ there
    → Happens mid there event reply new
    → LastOwn old hart events replies mid → LastOwn old hart (events ++ (there, event) ∷ []) (replies ++ reply ∷ []) new
last_further old mid new hart events replies there event reply other x l = record {
  before = l.before;
  event = l.event;
  after = l.after ++ (there, event) ∷ [];
  answered = l.answered;
  reply = l.reply;
  rest = l.rest ++ reply ∷ [];
  mid = l.mid;
  events_part = ap (λ xs. xs ++ (there, event) ∷ []) l.events_part ∙ append_assoc l.before ((hart, l.event) ∷ l.after) ((there, event) ∷ []);
  replies_part = ap (λ xs. xs ++ reply ∷ []) l.replies_part ∙ append_assoc l.answered (l.reply ∷ l.rest) (reply ∷ []);
  until = l.until;
  since = step l.since there event reply x.known x.possible x.happened;
  elsewhere = elsewhere-snoc hart l.after there event l.elsewhere other;
  meant = l.meant;
  stays = x.others hart other ∙ l.stays;
}

-- one event more, on that hart
last_here : (old mid new : Machine) (hart : ℕ) (events : List (ℕ × Event)) (replies : List Reply) (event : Event) (reply : Reply)
    → Run (state_of old) events replies (state_of mid) → Happens mid hart event reply new
    → LastOwn old hart (events ++ (hart, event) ∷ []) (replies ++ reply ∷ []) new
last_here old mid new hart events replies event reply run x = record {
  before = events;
  event = event;
  after = [];
  answered = replies;
  reply = reply;
  rest = [];
  mid = new;
  events_part = refl;
  replies_part = refl;
  until = step run hart event reply x.known x.possible x.happened;
  since = still;
  elsewhere = tt;
  meant = meant_then mid new hart event reply x;
  stays = refl;
}

-- the last event of each hart, with one event more
last_then : (old mid new : Machine) (events : List (ℕ × Event)) (replies : List Reply) (there : ℕ) (event : Event) (reply : Reply)
    → Run (state_of old) events replies (state_of mid) → Happens mid there event reply new
    → (hart : ℕ) → AreElsewhere hart events ⊎ LastOwn old hart events replies mid
    → AreElsewhere hart (events ++ (there, event) ∷ []) ⊎ LastOwn old hart (events ++ (there, event) ∷ []) (replies ++ reply ∷ []) new
last_then old mid new events replies there event reply run x hart was = both (hart == there)
    (λ yes.
    let is : there ≡ hart = sym (eqb-true hart there yes) in
    subst (λ h. AreElsewhere hart (events ++ (h, event) ∷ []) ⊎ LastOwn old hart (events ++ (h, event) ∷ []) (replies ++ reply ∷ []) new) (sym is)
    (inr (last_here old mid new hart events replies event reply run (subst (λ h. Happens mid h event reply new) is x))))
    (λ no.
    let other : hart ≢ there = λ is. both_ways (hart == there) no (eq-eqb hart there is) in
    elim was [
      | inl e ↦ inl (elsewhere-snoc hart events there event e other)
      | inr l ↦ inr (last_further old mid new hart events replies there event reply other x l)
    ])

-- the machine after one event more
pub one_more : (platform : PlatformLayout) (before events : List (ℕ × Event)) (answered replies : List Reply) (mid new : Machine) (hart : ℕ) (event : Event)
    (reply : Reply) → After platform (before ++ events) (answered ++ replies) mid → Happens mid hart event reply new
    → After platform (before ++ (events ++ (hart, event) ∷ [])) (answered ++ (replies ++ reply ∷ [])) new
one_more platform before events answered replies mid new hart event reply a x =
    subst (λ rs. After platform (before ++ (events ++ (hart, event) ∷ [])) rs new) (append_assoc answered replies (reply ∷ []))
    (subst (λ es. After platform es ((answered ++ replies) ++ reply ∷ []) new) (append_assoc before events ((hart, event) ∷ []))
    (happened a hart event reply x))

-- what is known on the way: the harts are as many as at first, and there is an answer for each reply
pub record Way (old : Machine) (lines answers : List (List ℕ)) (new : Machine) : Type 0 where
  pub report : Report old lines (concat answers) new
  pub counted : length answers ≡ length report.replies
  pub harts : harts_of new ≡ harts_of old

pub way : (old new : Machine) (lines answers : List (List ℕ)) → Does DoesLine old lines answers new → Way old lines answers new
way old new _ _ loop.none = record {
  report = record {
    events = [];
    replies = [];
    spelled = none;
    run = still;
    told = refl;
    each = tt;
    idle = λ hart other. refl;
    last = λ hart. inl tt;
    after =
        λ platform before answered a. subst (λ rs. After platform (before ++ []) rs old) (sym (append-nil answered))
        (subst (λ es. After platform es answered old) (sym (append-nil before)) a);
  };
  counted = refl;
  harts = refl;
}
way old new _ _ (loop.silent {lines} {answers} {mid} done line short _ x) =
    let w = way old mid lines answers done in
    let said : meaning_of (harts_of old) (without_return line) ≡ Some None = ap (λ n. meaning_of n (without_return line)) (sym w.harts) ∙ x.0 in
    record {
      report = record {
        events = w.report.events;
        replies = w.report.replies;
        spelled = blank w.report.spelled line short said;
        run = subst (λ m. Run (state_of old) w.report.events w.report.replies (state_of m)) (sym x.1) w.report.run;
        told = w.report.told;
        each = w.report.each;
        idle = λ hart other. subst (λ m. bank_on m hart ≡ bank_on old hart) (sym x.1) (w.report.idle hart other);
        last = λ hart. subst (λ m. AreElsewhere hart w.report.events ⊎ LastOwn old hart w.report.events w.report.replies m) (sym x.1) (w.report.last hart);
        after = λ platform before answered a. subst (After platform (before ++ w.report.events) (answered ++ w.report.replies)) (sym x.1)
            (w.report.after platform before answered a);
      };
      counted = w.counted;
      harts = ap harts_of x.1 ∙ w.harts;
    }
way old new _ _ (loop.answer {lines} {answers} {mid} done line short _ text x) =
    let w = way old mid lines answers done in
    let said : meaning_of (harts_of old) (without_return line) ≡ Some (Some (x.0, x.1)) = ap (λ n. meaning_of n (without_return line)) (sym w.harts) ∙ x.3 in
    let order : length answers + 1 ≡ 1 + length w.report.replies = omega (arith, w.counted) in
    record {
      report = record {
        events = w.report.events ++ (x.0, x.1) ∷ [];
        replies = w.report.replies ++ x.2 ∷ [];
        spelled = one w.report.spelled line short x.0 x.1 said;
        run = step w.report.run x.0 x.1 x.2 x.4.known x.4.possible x.4.happened;
        told = concat-snoc answers text ∙ ap (λ xs. xs ++ text) w.report.told
            ∙ ap (λ xs. report_text w.report.replies ++ xs) (x.6 ∙ ap (λ k. reply_text k x.2) order) ∙ sym (lines_from-snoc 1 w.report.replies x.2);
        each = answered-snoc w.report.replies x.2 w.report.each x.5;
        idle = λ hart other. let p = elsewhere_parts hart w.report.events x.0 x.1 other in x.4.others hart p.1 ∙ w.report.idle hart p.0;
        last = λ hart. last_then old mid new w.report.events w.report.replies x.0 x.1 x.2 w.report.run x.4 hart (w.report.last hart);
        after = λ platform before answered a. one_more platform before w.report.events answered w.report.replies mid new x.0 x.1 x.2
            (w.report.after platform before answered a) x.4;
      };
      counted = length-append answers (text ∷ []) ∙ ap (λ n. n + 1) w.counted ∙ sym (length-append w.report.replies (x.2 ∷ []));
      harts = ap (λ l. l.harts) (layout_stays (state_of mid) x.0 x.1 x.2 (state_of new) x.4.happened) ∙ w.harts;
    }

pub is_reported : IsReported
is_reported old new lines answers done = (way old new lines answers done).report
