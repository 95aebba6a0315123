use Rattle.std.proofs.Common.{sym, subst, ℕ, List}
use Rattle.device_tree.specs.Trees.{SpellsTree}
use Rattle.device_tree.specs.Places.{ArePlaced, block_of}
use Rattle.device_tree.specs.Refusals.{IsTreeFault}
use Rattle.device_tree.proofs.tree.read_tree.Goals as goal

pub returns-in-Ok-clause-ok : goal.returns-in-Ok-clause-ok
returns-in-Ok-clause-ok c =
    let front = c.in-Some.ensures in
    let read = c.in-Ok.ensures.ok in (
      read.0,
      record {
        long = front.1;
        spelt = subst (λ (x : List ℕ). SpellsTree x read.0 c.in-Ok.read.reservations.items) front.0 read.1;
        within = read.2;
      },
      read.3,
    )

pub returns-in-Err-clause-refused : goal.returns-in-Err-clause-refused
returns-in-Err-clause-refused c = λ other tree reservations reads.
    c.in-Err.ensures.refused other tree reservations (subst (λ (x : List ℕ). SpellsTree x tree reservations) (sym c.in-Some.ensures.0) reads.spelt) reads.within

pub returns-in-Ok-clause-places : goal.returns-in-Ok-clause-places
returns-in-Ok-clause-places c = subst (λ (x : List ℕ). ArePlaced (block_of x) c.in-Ok.read.pieces.items) c.in-Some.ensures.0 c.in-Ok.ensures.places

pub returns-in-Err-clause-reason : goal.returns-in-Err-clause-reason
returns-in-Err-clause-reason c = λ memory.
    subst (λ (x : List ℕ). IsTreeFault x c.in-Err.fault) c.in-Some.ensures.0 (c.in-Err.ensures.reason memory)
