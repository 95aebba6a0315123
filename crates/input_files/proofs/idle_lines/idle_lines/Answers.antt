use Rattle.std.proofs.Common.{drop, ◌+◌, [], ◌∷◌, List, Ok, ap, append_assoc, append-nil, subst, sym}
use Rattle.std.proofs.Math.ListN.{drop_of_length-le}
use Rattle.std.proofs.lemmas.List.Elements.{All-push}
use Rattle.input_files.specs.declared.idle_lines.IdleLine.{IdleLine}
use Rattle.input_files.specs.Settings.{AreNamed, IsInside, end}
use Rattle.input_files.proofs.Followed.{set_first}
use Rattle.input_files.proofs.Named.{keep_it, move_it, name_it, rest_from}
use Rattle.input_files.proofs.idle_lines.idle_lines.Goals as goal
use Rattle.input_files.proofs.idle_lines.idle_lines.Goals.{then-branch+in_ok-redundant+in_ok-name_line, else-branch+in_ok-push}

pub is_redundant_denial-requires-clause-made : goal.is_redundant_denial-requires-clause-made
is_redundant_denial-requires-clause-made c =
    let settings = c.args.settings.now in
    let i = c.loop-i.i in
    let set = rw (c.as_slice.ensures.value, rest_from (i + 1) settings) at c.in_ok-is_whole.ensures.yes (ap (λ b. Ok b) c.if-branch.true) in
    rw c.as_slice-then-branch.ensures.value (set_first c.loop-i.kept.items (drop (i + 1) settings) [] c.args.whole.now set)

pub loop-i-preserved : goal.loop-i-preserved
loop-i-preserved c =
    let settings = c.args.settings.now in
    let whole = c.args.whole.now in
    let kept = c.loop-i.kept.items in
    let idle = c.loop-i.idle.items in
    let i = c.loop-i.i in
    let less = c.loop-i-test.true in
    elim c.if-branch.branch [
      | then-branch+in_ok-redundant+in_ok-name_line w ↦
          let set = rw (c.as_slice.ensures.value, rest_from (i + 1) settings) at c.in_ok-is_whole.ensures.yes (ap (λ b. Ok b) w.if-branch.true) in
          rw (w.kept-is, w.idle-is)
          (record {
            inside = c.loop-i.invariant.inside;
            whole = set;
            named = λ named left are.
                rw (w.in_ok-name_line.ensures)
                (subst (λ (all : List IdleLine). AreNamed whole [] settings all left) (sym (append_assoc idle (_ ∷ []) named))
                (c.loop-i.invariant.named (_ ∷ named) left
                (name_it whole kept settings i _ named left _ less (rw w.as_slice-then-branch.ensures.value at w.in_ok-redundant.ensures) set are)));
          })
      | else-branch+in_ok-push w ↦
          let elsewhere = rw (c.as_slice.ensures.value, rest_from (i + 1) settings) at c.in_ok-is_whole.ensures.no (ap (λ b. Ok b) w.if-branch.false) in
          rw (w.kept-is, w.idle-is, w.in_ok-push.ensures.items)
          (record {
            inside = All-push IsInside kept _ c.loop-i.invariant.inside (c.requires.inside i _ less);
            whole = move_it whole kept settings i _ less c.loop-i.invariant.whole;
            named = λ named left are. c.loop-i.invariant.named named left (keep_it whole kept settings i _ named left less elsewhere are);
          })
    ]

pub returns : goal.returns
returns c =
    let none = drop_of_length-le c.args.settings.now {i = c.loop-i.i} c.loop-i-test.false in
    let kept = c.loop-i.kept.items in
    let set = rw (none, append-nil kept) at c.loop-i.invariant.whole in
    record { left = kept; are_named = rw (append-nil c.loop-i.idle.items) at (c.loop-i.invariant.named [] kept (rw none end)); same = set }
