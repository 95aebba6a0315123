use Rattle.std.proofs.Common.{ℕ, ◌==◌, ◌∙◌, refl, ap, sym}
use Rattle.sbi_decode.specs.Registers.{zeros}
use Rattle.monitor_core.specs.Cores.{core_kept, core_marks, worlds_of}
use Rattle.monitor_core.specs.Parts.{mark_in}
use Rattle.monitor_core.proofs.Framed.{whole_same}
use Rattle.monitor_core.proofs.Marks.{was_marked}
use Rattle.monitor_core.proofs.Moved.{whole_marked}
use Rattle.monitor_core.proofs.steps.Core.wake.Goals as goal

pub invariant_of-self : goal.invariant_of-self
invariant_of-self c =
    let old = c.args.self.now.parts in
    let whole = c.args.self.now.whole in
    let new = c.clear_mark.new.self in
    let marks = λ (i : ℕ). ap (λ s. s.marked i) (c.clear_mark.ensures.state (λ who. zeros)) in
    record {
      whole = whole_same old.table new.table old.worlds new.worlds new.marked new.marked c.clear_mark.ensures.table c.clear_mark.ensures.worlds refl
          (whole_marked old.table old.worlds old.marked new.marked whole
          (λ i on. whole.hosted i (was_marked (i == c.args.hart) (mark_in old.marked i) (sym (marks i) ∙ on))));
    }

pub returns-clause-state : goal.returns-clause-state
unfolding core_kept worlds_of core_marks
returns-clause-state c = c.clear_mark.ensures.state

pub returns-clause-kept : goal.returns-clause-kept
unfolding core_kept
returns-clause-kept c = c.clear_mark.ensures.table
